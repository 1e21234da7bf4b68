-- The rows of a map that is seen through slots, in the order of their places.
use Rattle.mck_word.specs.MapLaws.{at-none, at-set_or_cut, same_rows}
use Rattle.mck_word.specs.Maps.{at, entries, each_row, no_rows}
use Rattle.page_pins.specs.Pins.{passes}
use Rattle.page_pins.specs.declared.Pin.{Pin}
use Rattle.mck_word.specs.Slots.{at-slots, by_place, slots_from}
use Rattle.std.proofs.Common.{◌≡◌, ◌<◌, ◌∙◌, ap, arith, refl, sym}
use Rattle.std.proofs.lemmas.Bool.{lt-ltb, eq-eqb, ne_eqb, cases_eq}
use Rattle.std.specs.Cmp.{nat_cmp_total, unsigned_tied}
use Rattle.std.specs.FinMap as finmap
use Rattle.std.specs.FinMap.{find, from_sorted, is_sorted, nat_cmp-IsAntisymmetric}
use Rattle.std.specs.FinMap.Entries.{below_all}
use Rattle.std.specs.List.{list_all}
use Rattle.std.specs.Ordering.{nat_cmp}
use Rattle.std.specs.Prelude.{zero, suc, Bool, List, None, Option, Some, T, [], cond, replicate, slice_index_or, true, false, ℕ, ◌&&◌, ◌==◌, ◌∷◌}
use Rattle.std.proofs.Common.{inl, inr}

module _ {V : Type 0} where
  -- the rows of the slots from place k on
  abbrev pub rows_from : ℕ → List (Option V) → List (ℕ × V)
  rows_from k [] = []
  rows_from k (None ∷ os) = rows_from (suc k) os
  rows_from k (Some v ∷ os) = (k, v) ∷ rows_from (suc k) os

  below-from : (j k : ℕ) (os : List (Option V)) → j < k → T (below_all nat_cmp j (rows_from k os))
  below-from j k [] h = tt
  below-from j k (None ∷ os) h = below-from j (suc k) os (omega arith)
  below-from j k (Some v ∷ os) h = rw (lt-ltb j k h) (below-from j (suc k) os (omega arith))

  sorted-from : (k : ℕ) (os : List (Option V)) → T (is_sorted nat_cmp (rows_from k os))
  sorted-from k [] = tt
  sorted-from k (None ∷ os) = sorted-from (suc k) os
  sorted-from k (Some v ∷ os) =
      elim (below_all nat_cmp k (rows_from (suc k) os)) as (λ b. T b → T (b && is_sorted nat_cmp (rows_from (suc k) os))) [ true ↦ λ _. sorted-from (suc k) os | false ↦ λ h. absurd h ] (below-from k (suc k) os (omega arith))

  find-below : (q k : ℕ) (os : List (Option V)) → q < k → find nat_cmp q (rows_from k os) ≡ None
  find-below q k [] h = refl
  find-below q k (None ∷ os) h = find-below q (suc k) os (omega arith)
  find-below q k (Some v ∷ os) h = rw (lt-ltb q k h) (find-below q (suc k) os (omega arith))

  at-rows : (q k : ℕ) (os : List (Option V)) → at (slots_from k os) q ≡ find nat_cmp q (rows_from k os)
  at-rows q k [] = at-none q
  at-rows q k (None ∷ os) = at-set_or_cut (slots_from (suc k) os) k None q ∙ elim (cases_eq q k) [
    | inl e ↦ rw (eq-eqb q k e) (sym (find-below q (suc k) os (omega arith)))
    | inr n ↦ rw (ne_eqb q k n) (at-rows q (suc k) os)
  ]
  at-rows q k (Some v ∷ os) = at-set_or_cut (slots_from (suc k) os) k (Some v) q ∙ ap (cond (q == k) (Some v)) (at-rows q (suc k) os) ∙ ap (λ b. cond b (Some v) (find nat_cmp q (rows_from (suc k) os))) (sym (unsigned_tied q k))

  entries-slots : (os : List (Option V)) → entries (by_place os) ≡ rows_from 0 os
  unfolding by_place
  entries-slots os =
      ap (λ m. finmap.entries m) (finmap.same_map nat_cmp_total nat_cmp-IsAntisymmetric (slots_from 0 os) (from_sorted {R = nat_cmp} (rows_from 0 os)) (λ q. at-rows q 0 os ∙ sym (finmap.get-from_sorted nat_cmp (rows_from 0 os) q (sorted-from 0 os))))
      ∙ finmap.entries-from_sorted nat_cmp (rows_from 0 os) (sorted-from 0 os)

all-from : (test : Pin → Bool) (k : ℕ) (os : List (Option Pin)) → list_all (λ e. test e.1) (rows_from k os) ≡ list_all (passes test) os
all-from test k [] = refl
all-from test k (None ∷ os) = all-from test (suc k) os
all-from test k (Some v ∷ os) = ap (λ b. test v && b) (all-from test (suc k) os)

-- each row passes where each slot does
pub each-slots : (test : Pin → Bool) (os : List (Option Pin)) → each_row (λ k v. test v) (by_place os) ≡ list_all (passes test) os
each-slots test os = ap (list_all (λ e. test e.1)) (entries-slots os) ∙ all-from test 0 os

module _ {V : Type 0} where
  abbrev pub empties : ℕ → List (Option V)
  empties n = replicate n None

  none-there : (n q : ℕ) → slice_index_or (empties n) q None ≡ None
  none-there zero q = refl
  none-there (suc n) zero = refl
  none-there (suc n) (suc q) = none-there n q

  -- empty slots are no rows
  pub empty-slots : (n : ℕ) → by_place (empties n) ≡ no_rows
  empty-slots n = same_rows _ _ (λ q. at-slots (empties n) q ∙ none-there n q ∙ sym (at-none q))
