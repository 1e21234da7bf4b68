-- What is chosen is offered, and where nothing is chosen nobody has an offer.
use Rattle.hybrid_model.specs.Pairs.{Pair}
use Rattle.hybrid_model.specs.declared.events.Event.{Event}
use Rattle.ihk_parts.specs.Turns.{chosen}
use Rattle.ihk_parts.specs.declared.turn.Turn.TheVariants.{Drawn, Round}
use Rattle.ihk_parts.specs.declared.turn.Turn.{Turn}
use Rattle.rand_pcg.specs.Pcg.{pcg32}
use Rattle.run_model.specs.Walks.{Chosen, actors, behind, chosen_by, first_chosen, in_turn, offer}
use Rattle.run_model.specs.declared.actors.Actor.{Actor}
use Rattle.std.proofs.Common.{Bool, List, None, Option, Some, ap, arith, cond, false, get_or, length, map, refl, subst, suc, sym, true, zero, ℕ, [], ◌%◌, ◌++◌, ◌<◌, ◌==◌, ◌∙◌, ◌∷◌, ◌≡◌}
use Rattle.std.proofs.lemmas.Bool.Decides.{nat_tests}
use Rattle.std.specs.List.{AllByRecursion, cons_option, filter_map}

-- ---- what is chosen is some actor's offer

abbrev pub IsOffered : Pair → Chosen → Type 0
IsOffered pair c = (a : Actor) × (offer pair a ≡ Some c.event)

abbrev chosen_from : Actor → Option Event → Option Chosen
chosen_from a None = None
chosen_from a (Some e) = Some (record { actor = a; event = e })

same_choice : (a : Actor) (o : Option Event) → (elim o [ None ↦ None | Some e ↦ Some (record { actor = a; event = e }) ]) ≡ chosen_from a o
same_choice a None = refl
same_choice a (Some e) = refl

by_offer : (o : Option Event) (a : Actor) (c : Chosen) → chosen_from a o ≡ Some c → o ≡ Some c.event
by_offer None a c h = cc
by_offer (Some e) a c h =
    let made : Chosen = record { actor = a; event = e } in
    let k : made ≡ c = (let s : Some made ≡ Some c = h in cc) in
    ap (λ (x : Chosen). Some x.event) k

by_actor : (pair : Pair) (a : Actor) (c : Chosen) → chosen_by pair a ≡ Some c → IsOffered pair c
by_actor pair a c h = (a, by_offer (offer pair a) a c (sym (same_choice a (offer pair a)) ∙ h))

first_offered : (pair : Pair) (xs : List Actor) (c : Chosen) → first_chosen pair xs ≡ Some c → IsOffered pair c
first_offered pair [] c h = cc
first_offered pair (a ∷ xs) c h = at_first (chosen_by pair a) (by_actor pair a c) (first_offered pair xs c) h
  where
    at_first : (o : Option Chosen) → (o ≡ Some c → IsOffered pair c) → (first_chosen pair xs ≡ Some c → IsOffered pair c) → (elim o [ None ↦ first_chosen pair xs | Some x ↦ Some x ]) ≡ Some c → IsOffered pair c
    at_first None own more q = more q
    at_first (Some x) own more q = own q

all_offered : (pair : Pair) (xs : List Actor) → AllByRecursion (IsOffered pair) (filter_map (chosen_by pair) xs)
all_offered pair [] = tt
all_offered pair (a ∷ xs) = at_first (chosen_by pair a) (by_actor pair a) (all_offered pair xs)
  where
    at_first : (o : Option Chosen) → ((c : Chosen) → o ≡ Some c → IsOffered pair c) → AllByRecursion (IsOffered pair) (filter_map (chosen_by pair) xs) → AllByRecursion (IsOffered pair) (cons_option o (filter_map (chosen_by pair) xs))
    at_first None own h = h
    at_first (Some x) own h = (own x refl, h)

got_one : {X : Type 0} (P : X → Type 0) (xs : List X) (i : ℕ) (x : X) → AllByRecursion P xs → get_or (map (λ y. Some y) xs) i None ≡ Some x → P x
got_one P [] i x h e = cc
got_one P (y ∷ ys) zero x h e = (let k : y ≡ x = (let s : Some y ≡ Some x = e in cc) in subst P k h.0)
got_one P (y ∷ ys) (suc i) x h e = got_one P ys i x h.1 e

drawn : {X : Type 0} (P : X → Type 0) (word : ℕ) (all : List X) (t : Bool) (x : X) → AllByRecursion P all → cond t None (get_or (map (λ y. Some y) all) (word % length all) None) ≡ Some x → P x
drawn P word all true x h e = cc
drawn P word all false x h e = got_one P all (word % length all) x h e

pub chosen_offered : (turn : Turn) (pair : Pair) (c : Chosen) → chosen turn pair ≡ Some c → IsOffered pair c
chosen_offered (Round last) pair c h = first_offered pair (in_turn last (actors pair)) c h
chosen_offered (Drawn g) pair c h =
    let all = filter_map (chosen_by pair) (actors pair) in drawn (IsOffered pair) (pcg32 g).0 all (length all == 0) c (all_offered pair (actors pair)) h

-- ---- nobody has an offer

none_behind : (pair : Pair) (xs ys : List Actor) → first_chosen pair (xs ++ ys) ≡ None → first_chosen pair ys ≡ None
none_behind pair [] ys h = h
none_behind pair (x ∷ xs) ys h = at_first (chosen_by pair x) (none_behind pair xs ys) h
  where
    at_first : (o : Option Chosen) → (first_chosen pair (xs ++ ys) ≡ None → first_chosen pair ys ≡ None) → ◌≡◌ {A = Option Chosen} (elim o [ None ↦ first_chosen pair (xs ++ ys) | Some c ↦ Some c ]) None → first_chosen pair ys ≡ None
    at_first None more q = more q
    at_first (Some c) more q = cc

none_listed : (pair : Pair) (xs : List Actor) → length (filter_map (chosen_by pair) xs) ≡ 0 → first_chosen pair xs ≡ None
none_listed pair [] h = refl
none_listed pair (x ∷ xs) h = at_first (chosen_by pair x) (none_listed pair xs) h
  where
    at_first : (o : Option Chosen) → (length (filter_map (chosen_by pair) xs) ≡ 0 → first_chosen pair xs ≡ None) → length (cons_option o (filter_map (chosen_by pair) xs)) ≡ 0
        → ◌≡◌ {A = Option Chosen} (elim o [ None ↦ first_chosen pair xs | Some c ↦ Some c ]) None
    at_first None more q = more q
    at_first (Some c) more q = absurd (omega arith)

get_none : {X : Type 0} (xs : List X) (i : ℕ) → i < length xs → get_or (map (λ y. Some y) xs) i None ≡ None → ⊥
get_none [] i h e = omega arith
get_none (y ∷ ys) zero h e = cc
get_none (y ∷ ys) (suc i) h e = get_none ys i (omega arith) e

none_drawn : (word : ℕ) (all : List Chosen) (t : Bool) → (length all == 0) ≡ t → cond t None (get_or (map (λ x. Some x) all) (word % length all) None) ≡ None → length all ≡ 0
none_drawn word all true e h = grind (arith, nat_tests)
none_drawn word [] false e h = refl
none_drawn word (x ∷ xs) false e h = absurd (get_none (x ∷ xs) (word % length (x ∷ xs)) (omega arith) h)

none_in_turn : (pair : Pair) (last : Option Actor) → first_chosen pair (in_turn last (actors pair)) ≡ None → first_chosen pair (actors pair) ≡ None
none_in_turn pair None h = h
none_in_turn pair (Some a) h = none_behind pair (behind a (actors pair)) (actors pair) h

pub chosen_none : (turn : Turn) (pair : Pair) → chosen turn pair ≡ None → first_chosen pair (actors pair) ≡ None
chosen_none (Round last) pair h = none_in_turn pair last h
chosen_none (Drawn g) pair h =
    let all = filter_map (chosen_by pair) (actors pair) in none_listed pair (actors pair) (none_drawn (pcg32 g).0 all (length all == 0) refl h)
