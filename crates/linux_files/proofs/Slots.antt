-- The rows of a map that is seen through slots, in the order of their places.
use Rattle.key_rows.specs.Lowest.{lowest-free, lowest-le}
use Rattle.linux_files.specs.Slotted.{names_in_row, names_it, slots_name}
use Rattle.mck_word.specs.Lists.{lowest_not_in}
use Rattle.mck_word.specs.MapLaws.{at-none, at-set_or_cut, same_rows}
use Rattle.mck_word.specs.Maps.{Map, at, count, cut, entries, keys, no_rows, put}
use Rattle.mck_word.specs.Slots.{at-slots, by_place, slots-set, slots_from}
use Rattle.file_tree.specs.CountLaws.{cut-absent}
use Rattle.std.proofs.Common.{◌≡◌, ◌≤◌, ◌<◌, ◌∙◌, ap, arith, inl, inr, length, refl, sym}
use Rattle.std.proofs.lemmas.Bool.{cases_eq, eq-eqb, lt-ltb, ne_eqb, true≢false}
use Rattle.std.proofs.lemmas.List.Sums.{sum_by-cons}
use Rattle.std.proofs.lemmas.List.{length-map}
use Rattle.std.specs.Cmp.{nat_cmp_total, unsigned_tied}
use Rattle.std.specs.FinMap as finmap
use Rattle.std.specs.FinMap.Entries.{below_all}
use Rattle.std.specs.FinMap.{find, from_sorted, is_sorted, nat_cmp-IsAntisymmetric}
use Rattle.std.specs.Ordering.{nat_cmp}
use Rattle.std.specs.Prelude.{zero, suc, List, None, Option, Some, T, [], cond, count_by, false, fold, is_some, replicate, slice_index_or, slice_set, sum_by, true, ℕ, ◌&&◌, ◌+◌, ◌==◌, ◌∷◌}

module _ {V : Type 0} where
  -- the rows of the slots from place k on
  abbrev pub rows_from : ℕ → List (Option V) → List (ℕ × V)
  rows_from k [] = []
  rows_from k (None ∷ os) = rows_from (suc k) os
  rows_from k (Some v ∷ os) = (k, v) ∷ rows_from (suc k) os

  below-from : (j k : ℕ) (os : List (Option V)) → j < k → T (below_all nat_cmp j (rows_from k os))
  below-from j k [] h = tt
  below-from j k (None ∷ os) h = below-from j (suc k) os (omega arith)
  below-from j k (Some v ∷ os) h = rw (lt-ltb j k h) (below-from j (suc k) os (omega arith))

  sorted-from : (k : ℕ) (os : List (Option V)) → T (is_sorted nat_cmp (rows_from k os))
  sorted-from k [] = tt
  sorted-from k (None ∷ os) = sorted-from (suc k) os
  sorted-from k (Some v ∷ os) =
      elim (below_all nat_cmp k (rows_from (suc k) os)) as (λ b. T b → T (b && is_sorted nat_cmp (rows_from (suc k) os))) [ true ↦ λ _. sorted-from (suc k) os | false ↦ λ h. absurd h ] (below-from k (suc k) os (omega arith))

  find-below : (q k : ℕ) (os : List (Option V)) → q < k → find nat_cmp q (rows_from k os) ≡ None
  find-below q k [] h = refl
  find-below q k (None ∷ os) h = find-below q (suc k) os (omega arith)
  find-below q k (Some v ∷ os) h = rw (lt-ltb q k h) (find-below q (suc k) os (omega arith))

  at-rows : (q k : ℕ) (os : List (Option V)) → at (slots_from k os) q ≡ find nat_cmp q (rows_from k os)
  at-rows q k [] = at-none q
  at-rows q k (None ∷ os) = at-set_or_cut (slots_from (suc k) os) k None q ∙ elim (cases_eq q k) [
    | inl e ↦ rw (eq-eqb q k e) (sym (find-below q (suc k) os (omega arith)))
    | inr n ↦ rw (ne_eqb q k n) (at-rows q (suc k) os)
  ]
  at-rows q k (Some v ∷ os) = at-set_or_cut (slots_from (suc k) os) k (Some v) q ∙ ap (cond (q == k) (Some v)) (at-rows q (suc k) os) ∙ ap (λ b. cond b (Some v) (find nat_cmp q (rows_from (suc k) os))) (sym (unsigned_tied q k))

  entries-slots : (os : List (Option V)) → entries (by_place os) ≡ rows_from 0 os
  unfolding by_place
  entries-slots os =
      ap (λ m. finmap.entries m) (finmap.same_map nat_cmp_total nat_cmp-IsAntisymmetric (slots_from 0 os) (from_sorted {R = nat_cmp} (rows_from 0 os)) (λ q. at-rows q 0 os ∙ sym (finmap.get-from_sorted nat_cmp (rows_from 0 os) q (sorted-from 0 os))))
      ∙ finmap.entries-from_sorted nat_cmp (rows_from 0 os) (sorted-from 0 os)

  count-from : (a k : ℕ) (os : List (Option V)) → fold (λ n o. n + cond (is_some o) 1 0) a os ≡ a + length (rows_from k os)
  count-from a k [] = omega arith
  count-from a k (None ∷ os) = let rest = count-from (a + 0) (suc k) os in rest ∙ omega arith
  count-from a k (Some v ∷ os) = let rest = count-from (a + 1) (suc k) os in rest ∙ omega arith

  -- there are as many rows as slots that are not empty
  pub count-slots : (os : List (Option V)) → count_by is_some os ≡ count (by_place os)
  count-slots os = sym (finmap.len-entries (by_place os) ∙ ap length (entries-slots os) ∙ (let n : length (rows_from 0 os) ≡ 0 + length (rows_from 0 os) = omega arith in n) ∙ sym (count-from 0 0 os))

  none-there : (n q : ℕ) → slice_index_or {A = Option V} (replicate n None) q None ≡ None
  none-there zero q = refl
  none-there (suc n) zero = refl
  none-there (suc n) (suc q) = none-there n q

  -- empty slots are no rows
  pub empty-slots : (n : ℕ) → by_place (replicate n None) ≡ no_rows {V = V}
  empty-slots n = same_rows _ _ (λ q. at-slots (replicate n None) q ∙ none-there n q ∙ sym (at-none q))

  pub past-slots : (os : List (Option V)) (k : ℕ) → length os ≤ k → slice_index_or os k None ≡ None
  past-slots [] k h = refl
  past-slots (o ∷ os) zero h = absurd (omega arith)
  past-slots (o ∷ os) (suc k) h = past-slots os k (omega arith)

  -- the first place whose slot is empty is the lowest number that is no key
  pub lowest-slot : (os : List (Option V)) (n : ℕ) → ((i : ℕ) → i < n → is_some (slice_index_or os i None) ≡ true) → slice_index_or os n None ≡ None → n ≡ lowest_not_in (keys (by_place os))
  lowest-slot os n below here = sym (lowest-free (by_place os) n (λ i l. ap is_some (at-slots os i) ∙ below i l) (at-slots os n ∙ here))

  -- a new key is one row more
  pub count-new : (m : Map V) (k : ℕ) (v : V) → at m k ≡ None → count (put m k v) ≡ count m + 1
  count-new m k v h = finmap.len-insert nat_cmp_total m k v ∙ ap (λ o. cond (is_some o) (count m) (count m + 1)) h

  -- the lowest number that is no key is at most the number of keys
  pub lowest-most : (m : Map V) → lowest_not_in (keys m) ≤ count m
  lowest-most m = let most = lowest-le (keys m) in let len = finmap.len-entries m in let same = length-map (entries m) (λ e. e.0) in omega arith

  pub none-there_is : (o : Option V) → is_some o ≡ false → o ≡ None
  none-there_is None h = refl
  none-there_is (Some v) h = absurd (true≢false h)

  -- the lowest number that is no key, where there are fewer keys
  pub lowest-below : (os : List (Option V)) (m : Map V) (place most : ℕ) → by_place os ≡ m → place ≡ lowest_not_in (keys (by_place os)) → count m < most → place < most
  lowest-below os m place most is e h = let few = lowest-most (by_place os) in let same = ap count is in omega arith

  -- a value at that place
  pub slots-new : (os : List (Option V)) (m : Map V) (place : ℕ) (v : V) → by_place os ≡ m → place ≡ lowest_not_in (keys (by_place os)) → place < length os → by_place (slice_set os place (Some v)) ≡ put m (lowest_not_in (keys m)) v
  slots-new os m place v is e h = slots-set os place (Some v) h ∙ ap (λ k. put (by_place os) k v) e ∙ ap (λ m. put m (lowest_not_in (keys m)) v) is

  pub slots-more : (os : List (Option V)) (m : Map V) (place : ℕ) (v : V) → by_place os ≡ m → slice_index_or os place None ≡ None → place < length os → count (by_place (slice_set os place (Some v))) ≡ count m + 1
  slots-more os m place v is none h =
      ap count (slots-set os place (Some v) h) ∙ count-new (by_place os) place v (at-slots os place ∙ none) ∙ ap (λ m. count m + 1) is

  -- a place past the slots is no key
  pub cut-none : (os : List (Option V)) (m : Map V) (k : ℕ) → by_place os ≡ m → length os ≤ k → m ≡ cut m k
  cut-none os m k is h = sym (cut-absent m k (ap (λ m. at m k) (sym is) ∙ at-slots os k ∙ past-slots os k h))

-- how often a row names a description, by its slots
names-from : (d k : ℕ) (os : List (Option ℕ)) → sum_by (λ e. names_it d e.1) (rows_from k os) ≡ slots_name d os
names-from d k [] = refl
names-from d k (None ∷ os) = let rest = names-from d (suc k) os in omega arith
names-from d k (Some n ∷ os) = let rest = names-from d (suc k) os in let one = sum_by-cons (λ (e : ℕ × ℕ). names_it d e.1) (k, n) (rows_from (suc k) os) in omega arith

pub names-slots : (d : ℕ) (os : List (Option ℕ)) → names_in_row d (by_place os) ≡ slots_name d os
names-slots d os = ap (sum_by (λ (e : ℕ × ℕ). names_it d e.1)) (entries-slots os) ∙ names-from d 0 os

pub ruleset slots = (count-slots)
