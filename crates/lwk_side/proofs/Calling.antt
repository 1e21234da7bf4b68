-- The row of a call by its number.
use Rattle.hybrid_model.specs.Intake.{caller_of}
use Rattle.lwk_side.specs.Shown.{shown_caller}
use Rattle.lwk_side.specs.declared.task.Caller.{Caller}
use Rattle.hybrid_laws.proofs.maps.Lookups.{found-some}
use Rattle.hybrid_laws.proofs.memory.Written.{each-entry}
use Rattle.lwk_threads.proofs.Showing.{entries-each, pair_of}
use Rattle.mck_word.specs.Maps.{Map, at, each, entries}
use Rattle.std.proofs.Common.{arith, ap, refl, ◌∙◌, ◌≡◌}
use Rattle.std.specs.Prelude.{is_some, unwrap_or, IsSome, Bool, List, None, Option, Some, [], cond, false, find, map, option_map, true, ℕ, ◌==◌, ◌∷◌}

find-shown : (q : ℕ) (es : List (ℕ × Caller)) → option_map (λ e. e.0) (find (λ e. e.1.request == q) (map (pair_of shown_caller) es)) ≡ option_map (λ e. e.0) (find (λ e. e.1.request.0 == q) es)
find-shown q [] = refl
find-shown q (e ∷ es) = elim (e.1.request.0 == q) as (λ b. option_map (λ x. x.0) (cond b (Some (pair_of shown_caller e)) (find (λ x. x.1.request == q) (map (pair_of shown_caller) es))) ≡ option_map (λ x. x.0) (cond b (Some e) (find (λ x. x.1.request.0 == q) es))) [
  | true ↦ refl
  | false ↦ find-shown q es
]

pub caller-shown : (q : ℕ) (m : Map Caller) → caller_of (each shown_caller m) q ≡ option_map (λ e. e.0) (find (λ e. e.1.request.0 == q) (entries m))
caller-shown q m = ap (λ es. option_map (λ e. e.0) (find (λ e. e.1.request == q) es)) (entries-each shown_caller m) ∙ find-shown q (entries m)

-- the row that is found is one of the map
pub found-there : (test : ℕ × Caller → Bool) (m : Map Caller) (y : ℕ × Caller) → find test (entries m) ≡ Some y → at m y.0 ≡ Some y.1
found-there test m y e = (found-some test (λ (x : ℕ × Caller). at m x.0 ≡ Some x.1) (entries m) y (each-entry m) e).0

pub is-some : (o : Option Caller) (c : Caller) → o ≡ Some c → IsSome o
is-some None c e = absurd (grind (arith, e))
is-some (Some x) c e = refl

-- what is there is what is looked up
pub there : {V : Type 0} (o : Option V) (d : V) → is_some o ≡ true → o ≡ Some (unwrap_or o d)
there None d e = absurd (grind (arith, e))
there (Some v) d e = refl
