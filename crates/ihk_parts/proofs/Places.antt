-- The actors behind an actor, from its own place on.
use Rattle.hybrid_model.specs.Pairs.{Pair}
use Rattle.ihk_parts.proofs.Passed.{goes_first, goes_on, goes_same}
use Rattle.ihk_parts.specs.Passing.{Goes, cores_from, numbers_behind, on_from, processes_and_script, with_those_behind, workers_from}
use Rattle.ihk_parts.specs.declared.passing.Choice.{Choice}
use Rattle.mck_word.specs.Identifiers.{pid}
use Rattle.mck_word.specs.Lists.{count_from}
use Rattle.mck_word.specs.Maps.{keys}
use Rattle.mck_word.specs.declared.Pid.{Pid}
use Rattle.run_model.specs.Walks.{actors, actors_of_process, behind, is_same_actor}
use Rattle.run_model.specs.declared.actors.Actor.{Actor}
use Rattle.run_model.specs.declared.actors.Actor.TheVariants.{Core, Kernel, Linux, Script, Worker}
use Rattle.std.proofs.Common.{◌≡◌, ◌≢◌, ℕ, zero, suc, ◌+◌, ◌-◌, ◌<◌, ◌≤◌, List, [], ◌∷◌, ◌++◌, map, Option, Some, None, refl, sym, ◌∙◌, ap, subst, arith, append_assoc, false, cond, eqb, ◌&&◌, flat_map, inl, inr}
use Rattle.std.proofs.lemmas.Bool.{cases_eq, eq-eqb, ne_eqb}

-- ---- lists

-- behind an actor that is none of those of f, these are passed over
past-map : (a : Actor) (f : ℕ → Actor) (ns : List ℕ) (ys : List Actor) → ((n : ℕ) → is_same_actor a (f n) ≡ false) → behind a (map f ns ++ ys) ≡ behind a ys
past-map a f [] ys h = refl
past-map a f (n ∷ ns) ys h = ap (λ b. cond b (map f ns ++ ys) (behind a (map f ns ++ ys))) (h n) ∙ past-map a f ns ys h

-- f tells numbers apart
abbrev pub Apart : (ℕ → Actor) → Type 0
Apart f = (c n : ℕ) → is_same_actor (f c) (f n) ≡ eqb c n

past-count : (f : ℕ → Actor) → Apart f → (c first k : ℕ) (ys : List Actor) → first + k ≤ c → behind (f c) (map f (count_from first k) ++ ys) ≡ behind (f c) ys
past-count f apart c first zero ys h = refl
past-count f apart c first (suc k) ys h =
    let other : is_same_actor (f c) (f first) ≡ false = apart c first ∙ ne_eqb c first (omega arith) in
    ap (λ b. cond b (map f (count_from (first + 1) k) ++ ys) (behind (f c) (map f (count_from (first + 1) k) ++ ys))) other ∙ past-count f apart c (first + 1) k ys (omega arith)

in-count : (f : ℕ → Actor) → Apart f → (c first k : ℕ) (ys : List Actor) → first ≤ c → c < first + k → behind (f c) (map f (count_from first k) ++ ys) ≡ map f (count_from (c + 1) (first + k - (c + 1))) ++ ys
in-count f apart c first zero ys l h = absurd (omega arith)
in-count f apart c first (suc k) ys l h = elim (cases_eq c first) [
  | inl e ↦
      let here = apart c first ∙ eq-eqb c first e in
      let next : first + 1 ≡ c + 1 = omega arith in
      let rest : k ≡ first + suc k - (c + 1) = omega arith in
      ap (λ b. cond b (map f (count_from (first + 1) k) ++ ys) (behind (f c) (map f (count_from (first + 1) k) ++ ys))) here
      ∙ (ap (λ n. map f (count_from n k) ++ ys) next ∙ ap (λ n. map f (count_from (c + 1) n) ++ ys) rest)
  | inr o ↦
      let other = apart c first ∙ ne_eqb c first o in
      let rest : first + 1 + k - (c + 1) ≡ first + suc k - (c + 1) = omega arith in
      ap (λ b. cond b (map f (count_from (first + 1) k) ++ ys) (behind (f c) (map f (count_from (first + 1) k) ++ ys))) other
      ∙ (in-count f apart c (first + 1) k ys (omega arith) (omega arith) ∙ ap (λ n. map f (count_from (c + 1) n) ++ ys) rest)
]

-- from the first number on
in-all : (f : ℕ → Actor) → Apart f → (c k : ℕ) (ys : List Actor) → c < k → behind (f c) (map f (count_from 0 k) ++ ys) ≡ map f (count_from (c + 1) (k - (c + 1))) ++ ys
in-all f apart c k ys h =
    let same : 0 + k ≡ k = omega arith in
    in-count f apart c 0 k ys (omega arith) (omega arith) ∙ ap (λ n. map f (count_from (c + 1) (n - (c + 1))) ++ ys) same

-- ---- all actors

-- the list of all actors, with its end in one piece
pub actors-are : (pair : Pair) → actors pair ≡ map (λ c. Core c) (count_from 0 pair.cores) ++ processes_and_script pair (keys pair.node.processes)
actors-are pair = append_assoc (map (λ c. Core c) (count_from 0 pair.cores)) (flat_map (actors_of_process pair) (keys pair.node.processes)) (Script ∷ [])

pub actors-from : (pair : Pair) → actors pair ≡ cores_from pair 0 ++ processes_and_script pair (keys pair.node.processes)
actors-from pair =
    let e : pair.cores ≡ pair.cores - 0 = omega arith in
    actors-are pair ∙ ap (λ n. map (λ c. Core c) (count_from 0 n) ++ processes_and_script pair (keys pair.node.processes)) e

past-cores : (pair : Pair) (a : Actor) → ((n : ℕ) → is_same_actor a (Core n) ≡ false) → behind a (actors pair) ≡ behind a (processes_and_script pair (keys pair.node.processes))
past-cores pair a h =
    ap (behind a) (actors-are pair) ∙ past-map a (λ c. Core c) (count_from 0 pair.cores) (processes_and_script pair (keys pair.node.processes)) h

-- ---- processes

-- the actors of each process are passed over, and nothing is behind the script
past-processes : (pair : Pair) (a : Actor) → ((q : ℕ) (ys : List Actor) → behind a (actors_of_process pair q ++ ys) ≡ behind a ys) → behind a (Script ∷ []) ≡ []
    → (ps : List ℕ) → behind a (processes_and_script pair ps) ≡ []
past-processes pair a past last [] = last
past-processes pair a past last (q ∷ ps) =
    ap (behind a) (append_assoc (actors_of_process pair q) (flat_map (actors_of_process pair) ps) (Script ∷ []))
    ∙ (past q (processes_and_script pair ps) ∙ past-processes pair a past last ps)

-- the same, but for those of p, of which `own` are behind a
in-processes : (pair : Pair) (a : Actor) (p : ℕ) (own : List Actor) → ((ys : List Actor) → behind a (actors_of_process pair p ++ ys) ≡ own ++ ys)
    → ((q : ℕ) (ys : List Actor) → p ≢ q → behind a (actors_of_process pair q ++ ys) ≡ behind a ys) → behind a (Script ∷ []) ≡ []
    → (ps : List ℕ) → behind a (processes_and_script pair ps) ≡ with_those_behind pair own (numbers_behind p ps)
in-processes pair a p own here past last [] = last
in-processes pair a p own here past last (q ∷ ps) =
    ap (behind a) (append_assoc (actors_of_process pair q) (flat_map (actors_of_process pair) ps) (Script ∷ []))
    ∙ elim (cases_eq p q) [
      | inl e ↦
          subst (λ n. behind a (actors_of_process pair n ++ processes_and_script pair ps) ≡ own ++ processes_and_script pair ps) e (here (processes_and_script pair ps))
          ∙ sym (ap (λ b. with_those_behind pair own (cond b (Some ps) (numbers_behind p ps))) (eq-eqb p q e))
      | inr o ↦
          past q (processes_and_script pair ps) o ∙ (in-processes pair a p own here past last ps
          ∙ sym (ap (λ b. with_those_behind pair own (cond b (Some ps) (numbers_behind p ps))) (ne_eqb p q o)))
    ]

-- ---- each kind of actor

pub behind-core : (pair : Pair) (c : ℕ) → c < pair.cores → behind (Core c) (actors pair) ≡ cores_from pair (c + 1) ++ processes_and_script pair (keys pair.node.processes)
behind-core pair c h =
    ap (behind (Core c)) (actors-are pair) ∙ in-all (λ n. Core n) (λ m n. refl) c pair.cores (processes_and_script pair (keys pair.node.processes)) h

pub behind-no_core : (pair : Pair) (c : ℕ) → pair.cores ≤ c → behind (Core c) (actors pair) ≡ []
behind-no_core pair c h =
    let past = λ (q : ℕ) (ys : List Actor). past-map (Core c) (λ w. Worker (pid q) w) (count_from 0 pair.workers) ys (λ n. refl) in
    ap (behind (Core c)) (actors-are pair)
    ∙ (past-count (λ n. Core n) (λ m n. refl) c 0 pair.cores (processes_and_script pair (keys pair.node.processes)) (omega arith)
    ∙ past-processes pair (Core c) past refl (keys pair.node.processes))

pub behind-script : (pair : Pair) → behind Script (actors pair) ≡ []
behind-script pair =
    let past = λ (q : ℕ) (ys : List Actor). past-map Script (λ w. Worker (pid q) w) (count_from 0 pair.workers) ys (λ n. refl) in
    past-cores pair Script (λ n. refl) ∙ past-processes pair Script past refl (keys pair.node.processes)

pub behind-kernel : (pair : Pair) (p : Pid) → behind (Kernel p) (actors pair) ≡ on_from pair (Linux p ∷ map (λ w. Worker p w) (count_from 0 pair.workers)) p
behind-kernel pair p =
    let own = Linux p ∷ map (λ w. Worker p w) (count_from 0 pair.workers) in
    let after = λ (q : ℕ) (ys : List Actor). Linux (pid q) ∷ (map (λ w. Worker (pid q) w) (count_from 0 pair.workers) ++ ys) in
    let here : (ys : List Actor) → behind (Kernel p) (actors_of_process pair p.0 ++ ys) ≡ own ++ ys =
    λ ys. ap (λ b. cond b (after p.0 ys) (behind (Kernel p) (after p.0 ys))) (eq-eqb p.0 p.0 refl) in
    let past : (q : ℕ) (ys : List Actor) → p.0 ≢ q → behind (Kernel p) (actors_of_process pair q ++ ys) ≡ behind (Kernel p) ys =
    λ q ys o. ap (λ b. cond b (after q ys) (behind (Kernel p) (after q ys))) (ne_eqb p.0 q o)
    ∙ past-map (Kernel p) (λ w. Worker (pid q) w) (count_from 0 pair.workers) ys (λ n. refl) in
    past-cores pair (Kernel p) (λ n. refl) ∙ in-processes pair (Kernel p) p.0 own here past refl (keys pair.node.processes)

pub behind-linux : (pair : Pair) (p : Pid) → behind (Linux p) (actors pair) ≡ on_from pair (workers_from pair p 0) p
behind-linux pair p =
    let e : pair.workers ≡ pair.workers - 0 = omega arith in
    let after = λ (q : ℕ) (ys : List Actor). map (λ w. Worker (pid q) w) (count_from 0 pair.workers) ++ ys in
    let here : (ys : List Actor) → behind (Linux p) (actors_of_process pair p.0 ++ ys) ≡ workers_from pair p 0 ++ ys =
    λ ys. ap (λ b. cond b (after p.0 ys) (behind (Linux p) (after p.0 ys))) (eq-eqb p.0 p.0 refl) ∙ ap (λ n. map (λ w. Worker p w) (count_from 0 n) ++ ys) e in
    let past : (q : ℕ) (ys : List Actor) → p.0 ≢ q → behind (Linux p) (actors_of_process pair q ++ ys) ≡ behind (Linux p) ys =
    λ q ys o. ap (λ b. cond b (after q ys) (behind (Linux p) (after q ys))) (ne_eqb p.0 q o)
    ∙ past-map (Linux p) (λ w. Worker (pid q) w) (count_from 0 pair.workers) ys (λ n. refl) in
    past-cores pair (Linux p) (λ n. refl) ∙ in-processes pair (Linux p) p.0 (workers_from pair p 0) here past refl (keys pair.node.processes)

workers-apart : (p : Pid) → Apart (λ w. Worker p w)
workers-apart p v w = ap (λ b. b && eqb v w) (eq-eqb p.0 p.0 refl)

past-workers : (pair : Pair) (p : Pid) (v q : ℕ) (ys : List Actor) → p.0 ≢ q → behind (Worker p v) (actors_of_process pair q ++ ys) ≡ behind (Worker p v) ys
past-workers pair p v q ys o =
    past-map (Worker p v) (λ w. Worker (pid q) w) (count_from 0 pair.workers) ys (λ w. ap (λ b. b && eqb v w) (ne_eqb p.0 q o))

pub behind-worker : (pair : Pair) (p : Pid) (w : ℕ) → w < pair.workers → behind (Worker p w) (actors pair) ≡ on_from pair (workers_from pair p (w + 1)) p
behind-worker pair p w h =
    let here : (ys : List Actor) → behind (Worker p w) (actors_of_process pair p.0 ++ ys) ≡ workers_from pair p (w + 1) ++ ys =
    λ ys. in-all (λ v. Worker p v) (workers-apart p) w pair.workers ys h in
    past-cores pair (Worker p w) (λ n. refl)
    ∙ in-processes pair (Worker p w) p.0 (workers_from pair p (w + 1)) here (past-workers pair p w) refl (keys pair.node.processes)

pub behind-no_worker : (pair : Pair) (p : Pid) (w : ℕ) → pair.workers ≤ w → behind (Worker p w) (actors pair) ≡ []
behind-no_worker pair p w h =
    let past : (q : ℕ) (ys : List Actor) → behind (Worker p w) (actors_of_process pair q ++ ys) ≡ behind (Worker p w) ys =
    λ q ys. elim (cases_eq p.0 q) [
      | inl e ↦ subst (λ n. behind (Worker p w) (actors_of_process pair n ++ ys) ≡ behind (Worker p w) ys) e (past-count (λ v. Worker p v) (workers-apart p) w 0 pair.workers ys (omega arith))
      | inr o ↦ past-workers pair p w q ys o
    ] in
    past-cores pair (Worker p w) (λ n. refl) ∙ past-processes pair (Worker p w) past refl (keys pair.node.processes)

-- ---- from a place in a process on

module _ (pair : Pair) (own : List Actor) (p : Pid) (numbers : List ℕ) (e : Some numbers ≡ numbers_behind p.0 (keys pair.node.processes)) where
  on_from-is : on_from pair own p ≡ own ++ processes_and_script pair numbers
  on_from-is = ap (with_those_behind pair own) (sym e)

  pub own_found : (a : ℕ) (x : Choice) (b c : ℕ) → Goes pair own a (Some x) b → Goes pair (on_from pair own p) a (Some x) c
  own_found a x b c h = goes_same pair (on_from pair own p) (own ++ processes_and_script pair numbers) a (Some x) c on_from-is (goes_first pair own (processes_and_script pair numbers) a x b c h)

  pub own_passed : (a b : ℕ) (r : Option Choice) (c : ℕ) → Goes pair own a None b → Goes pair (processes_and_script pair numbers) b r c → Goes pair (on_from pair own p) a r c
  own_passed a b r c f h = goes_same pair (on_from pair own p) (own ++ processes_and_script pair numbers) a r c on_from-is (goes_on pair own (processes_and_script pair numbers) a b r c f h)
