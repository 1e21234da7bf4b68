-- Offers passed over in one list after another.
use Rattle.hybrid_model.specs.Pairs.{Pair}
use Rattle.ihk_parts.specs.Passing.{Goes, as_chosen, offers_of}
use Rattle.ihk_parts.specs.declared.passing.Choice.{Choice}
use Rattle.mck_word.specs.Identifiers.{pid}
use Rattle.mck_word.specs.Lists.{count_from}
use Rattle.mck_word.specs.Maps.{keys}
use Rattle.mck_word.specs.declared.Pid.{Pid}
use Rattle.run_model.specs.Walks.{Chosen, actors, actors_of_process, behind, chosen_by, first_chosen, next_in_turn}
use Rattle.run_model.specs.declared.actors.Actor.{Actor}
use Rattle.run_model.specs.declared.actors.Actor.TheVariants.{Core, Script, Worker}
use Rattle.std.proofs.Common.{◌≡◌, ℕ, zero, suc, ◌+◌, ◌-◌, ◌<◌, ◌≤◌, List, [], ◌∷◌, ◌++◌, length, map, Option, Some, None, refl, sym, ◌∙◌, ap, subst, arith, length-append, ◌*◌, flat_map, get_or}
use Rattle.std.specs.List.{cons_option, slice_get}

-- ---- offers of lists

cons-append : {X : Type 0} (o : Option X) (xs ys : List X) → cons_option o (xs ++ ys) ≡ cons_option o xs ++ ys
cons-append None xs ys = refl
cons-append (Some x) xs ys = refl

pub offers-append : (pair : Pair) (front back : List Actor) → offers_of pair (front ++ back) ≡ offers_of pair front ++ offers_of pair back
offers-append pair [] back = refl
offers-append pair (a ∷ front) back = ap (cons_option (chosen_by pair a)) (offers-append pair front back) ∙ cons-append (chosen_by pair a) (offers_of pair front) (offers_of pair back)

-- ---- passing

get-front : {X : Type 0} (xs ys : List X) (i : ℕ) (x : X) → slice_get xs i ≡ Some x → slice_get (xs ++ ys) i ≡ Some x
get-front [] ys i x e = cc
get-front (y ∷ xs) ys zero x e = e
get-front (y ∷ xs) ys (suc i) x e = get-front xs ys i x e

get-back : {X : Type 0} (xs ys : List X) (i : ℕ) → slice_get (xs ++ ys) (i + length xs) ≡ slice_get ys i
get-back [] ys i = (let e : i + 0 ≡ i = omega arith in ap (slice_get ys) e)
get-back (x ∷ xs) ys i = (let e : i + length (x ∷ xs) ≡ suc (i + length xs) = omega arith in ap (slice_get (x ∷ (xs ++ ys))) e ∙ get-back xs ys i)

-- ---- one list after another

pub goes_on : (pair : Pair) (xs ys : List Actor) (a b : ℕ) (r : Option Choice) (c : ℕ) → Goes pair xs a None b → Goes pair ys b r c → Goes pair (xs ++ ys) a r c
goes_on pair xs ys a b None c p q =
    let whole : length (offers_of pair (xs ++ ys)) ≡ length (offers_of pair xs) + length (offers_of pair ys) = ap length (offers-append pair xs ys) ∙ length-append (offers_of pair xs) (offers_of pair ys) in
    omega (arith, p, q, whole)
goes_on pair xs ys a b (Some x) c p q =
    ap (λ s. slice_get s a) (offers-append pair xs ys) ∙ (ap (slice_get (offers_of pair xs ++ offers_of pair ys)) p ∙ (get-back (offers_of pair xs) (offers_of pair ys) b ∙ q))

pub goes_first : (pair : Pair) (xs ys : List Actor) (a : ℕ) (x : Choice) (b c : ℕ) → Goes pair xs a (Some x) b → Goes pair (xs ++ ys) a (Some x) c
goes_first pair xs ys a x b c p = ap (λ s. slice_get s a) (offers-append pair xs ys) ∙ get-front (offers_of pair xs) (offers_of pair ys) a (as_chosen x) p

pub goes_nowhere : (pair : Pair) (a : ℕ) → Goes pair [] a None a
goes_nowhere pair a = omega arith

-- the same, where the list is had in another form
pub goes_same : (pair : Pair) (xs ys : List Actor) (a : ℕ) (r : Option Choice) (c : ℕ) → xs ≡ ys → Goes pair ys a r c → Goes pair xs a r c
goes_same pair xs ys a r c e p = subst (λ zs. Goes pair zs a r c) (sym e) p

pub goes_none : (pair : Pair) (xs : List Actor) (a : ℕ) → xs ≡ [] → Goes pair xs a None a
goes_none pair xs a e = goes_same pair xs [] a None a e (goes_nowhere pair a)

-- ---- actors by number

-- the actors of f from one number on, below another
abbrev pub below : (ℕ → Actor) → ℕ → ℕ → List Actor
below f from total = map f (count_from from (total - from))

below-split : (f : ℕ → Actor) (from total : ℕ) → from < total → below f from total ≡ f from ∷ below f (from + 1) total
below-split f from total h = let e : total - from ≡ suc (total - (from + 1)) = omega arith in ap (λ n. map f (count_from from n)) e

-- what is passed of the rest is passed of the whole
abbrev pub Leads : Pair → List Actor → ℕ → List Actor → ℕ → Type 0
Leads pair all start rest now = (r : Option Choice) (c : ℕ) → Goes pair rest now r c → Goes pair all start r c

pub leads_first : (pair : Pair) (all : List Actor) (start : ℕ) → Leads pair all start all start
leads_first pair all start r c p = p

pub leads_on : (pair : Pair) (all : List Actor) (start : ℕ) (f : ℕ → Actor) (from total : ℕ) (a b : ℕ) → from < total → Leads pair all start (below f from total) a → Goes pair (f from ∷ []) a None b → Leads pair all start (below f (from + 1) total) b
leads_on pair all start f from total a b h l p r c q =
    l r c (subst (λ xs. Goes pair xs a r c) (sym (below-split f from total h)) (goes_on pair (f from ∷ []) (below f (from + 1) total) a b r c p q))

pub leads_found : (pair : Pair) (all : List Actor) (start : ℕ) (f : ℕ → Actor) (from total : ℕ) (a : ℕ) (x : Choice) (b c : ℕ) → from < total → Leads pair all start (below f from total) a → Goes pair (f from ∷ []) a (Some x) b → Goes pair all start (Some x) c
leads_found pair all start f from total a x b c h l p =
    l (Some x) c (subst (λ xs. Goes pair xs a (Some x) c) (sym (below-split f from total h)) (goes_first pair (f from ∷ []) (below f (from + 1) total) a x b c p))

pub leads_to_end : (pair : Pair) (all : List Actor) (start : ℕ) (f : ℕ → Actor) (from total : ℕ) (a : ℕ) → total ≤ from → Leads pair all start (below f from total) a → Goes pair all start None a
leads_to_end pair all start f from total a h l =
    let e : total - from ≡ 0 = omega arith in
    l None a (subst (λ n. Goes pair (map f (count_from from n)) a None a) (sym e) (goes_nowhere pair a))

-- ---- processes

abbrev pub processes_actors : Pair → List Pid → List Actor
processes_actors pair pids = flat_map (actors_of_process pair) (map (λ (p : Pid). p.0) pids)

pub process_passed : (pair : Pair) (rest more : List Pid) (p : Pid) (a b : ℕ) (r : Option Choice) (c : ℕ) → rest ≡ p ∷ more → Goes pair (actors_of_process pair p.0) a None b → Goes pair (processes_actors pair more) b r c → Goes pair (processes_actors pair rest) a r c
process_passed pair rest more p a b r c e f h =
    subst (λ ps. Goes pair (processes_actors pair ps) a r c) (sym e) (goes_on pair (actors_of_process pair p.0) (processes_actors pair more) a b r c f h)

pub process_found : (pair : Pair) (rest more : List Pid) (p : Pid) (a : ℕ) (x : Choice) (b c : ℕ) → rest ≡ p ∷ more → Goes pair (actors_of_process pair p.0) a (Some x) b → Goes pair (processes_actors pair rest) a (Some x) c
process_found pair rest more p a x b c e f =
    subst (λ ps. Goes pair (processes_actors pair ps) a (Some x) c) (sym e) (goes_first pair (actors_of_process pair p.0) (processes_actors pair more) a x b c f)

pub no_process : (pair : Pair) (rest : List Pid) (a : ℕ) → length rest ≡ 0 → Goes pair (processes_actors pair rest) a None a
no_process pair [] a h = goes_nowhere pair a
no_process pair (p ∷ ps) a h = absurd (omega arith)

-- ---- how many offers there can be

length-map : {A B : Type 0} (f : A → B) (xs : List A) → length (map f xs) ≡ length xs
length-map f [] = refl
length-map f (x ∷ xs) = ap (λ n. suc n) (length-map f xs)

length-count_from : (n k : ℕ) → length (count_from n k) ≡ k
length-count_from n zero = refl
length-count_from n (suc k) = ap (λ m. suc m) (length-count_from (n + 1) k)

length-processes : (pair : Pair) (ps : List ℕ) → length (flat_map (actors_of_process pair) ps) ≡ length ps * (pair.workers + 2)
length-processes pair [] = omega arith
length-processes pair (p ∷ ps) =
    let own : length (actors_of_process pair p) ≡ pair.workers + 2 = omega (arith, length-map (λ w. Worker (pid p) w) (count_from 0 pair.workers), length-count_from 0 pair.workers) in
    length-append (actors_of_process pair p) (flat_map (actors_of_process pair) ps) ∙ (ap (λ n. n + length (flat_map (actors_of_process pair) ps)) own
    ∙ (ap (λ n. (pair.workers + 2) + n) (length-processes pair ps) ∙ grind arith))

pub length-actors : (pair : Pair) (pids : List Pid) → map (λ (p : Pid). p.0) pids ≡ keys pair.node.processes → length (actors pair) ≡ pair.cores + length pids * (pair.workers + 2) + 1
length-actors pair pids e =
    let cores = map (λ c. Core c) (count_from 0 pair.cores) in
    let own = flat_map (actors_of_process pair) (keys pair.node.processes) in
    let a : length cores ≡ pair.cores = length-map (λ c. Core c) (count_from 0 pair.cores) ∙ length-count_from 0 pair.cores in
    let b : length own ≡ length pids * (pair.workers + 2) = length-processes pair (keys pair.node.processes) ∙ ap (λ n. n * (pair.workers + 2)) (ap length (sym e) ∙ length-map (λ (p : Pid). p.0) pids) in
    length-append (cores ++ own) (Script ∷ []) ∙ omega (arith, length-append cores own, a, b)

pub length-offers : (pair : Pair) (xs : List Actor) → length (offers_of pair xs) ≤ length xs
length-offers pair [] = omega arith
length-offers pair (x ∷ xs) = at_first (chosen_by pair x) (length-offers pair xs)
  where
    at_first : (o : Option Chosen) → length (offers_of pair xs) ≤ length xs → length (cons_option o (offers_of pair xs)) ≤ suc (length xs)
    at_first None h = omega arith
    at_first (Some c) h = omega arith

pub get-below : {X : Type 0} (xs : List X) (i : ℕ) (x : X) → slice_get xs i ≡ Some x → i < length xs
get-below [] i x e = cc
get-below (y ∷ xs) zero x e = omega arith
get-below (y ∷ xs) (suc i) x e = let h = get-below xs i x e in omega arith

-- ---- the first offer

pub first-get : (pair : Pair) (xs : List Actor) → first_chosen pair xs ≡ slice_get (offers_of pair xs) 0
first-get pair [] = refl
first-get pair (x ∷ xs) = at_first (chosen_by pair x) (first-get pair xs)
  where
    at_first : (o : Option Chosen) → first_chosen pair xs ≡ slice_get (offers_of pair xs) 0 → (elim o [ None ↦ first_chosen pair xs | Some c ↦ Some c ]) ≡ slice_get (cons_option o (offers_of pair xs)) 0
    at_first None e = e
    at_first (Some c) e = refl

pub get-map : {X : Type 0} (xs : List X) (i : ℕ) → i < length xs → get_or (map (λ x. Some x) xs) i None ≡ slice_get xs i
get-map [] i h = absurd (omega arith)
get-map (x ∷ xs) zero h = refl
get-map (x ∷ xs) (suc i) h = get-map xs i (omega arith)

no_items : {X : Type 0} (xs : List X) → length xs ≡ 0 → xs ≡ []
no_items [] h = refl
no_items (x ∷ xs) h = absurd (omega arith)

-- the first behind the last that acted, else the first of all
pub turn_behind : (pair : Pair) (a : Actor) (x : Choice) → slice_get (offers_of pair (behind a (actors pair))) 0 ≡ Some (as_chosen x) → next_in_turn (Some a) pair ≡ Some (as_chosen x)
turn_behind pair a x e =
    first-get pair (behind a (actors pair) ++ actors pair) ∙ (ap (λ s. slice_get s 0) (offers-append pair (behind a (actors pair)) (actors pair))
    ∙ get-front (offers_of pair (behind a (actors pair))) (offers_of pair (actors pair)) 0 (as_chosen x) e)

pub turn_round : (pair : Pair) (a : Actor) → length (offers_of pair (behind a (actors pair))) ≡ 0 → next_in_turn (Some a) pair ≡ slice_get (offers_of pair (actors pair)) 0
turn_round pair a e =
    first-get pair (behind a (actors pair) ++ actors pair) ∙ (ap (λ s. slice_get s 0) (offers-append pair (behind a (actors pair)) (actors pair))
    ∙ ap (λ s. slice_get (s ++ offers_of pair (actors pair)) 0) (no_items (offers_of pair (behind a (actors pair))) e))
