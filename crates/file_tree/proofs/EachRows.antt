-- The entries of a map whose values are seen in another form.
use Rattle.mck_word.specs.MapLaws.{at-collect, same_rows}
use Rattle.mck_word.specs.Maps.{Map, and_then, count, each, entries, keys}
use Rattle.std.proofs.Common.{ap, arith, refl, subst, sym, ◌∙◌}
use Rattle.std.proofs.lemmas.Option.{slice_get-get_or, slice_get-map}
use Rattle.std.specs.FinMap as finmap
use Rattle.std.specs.FinMap.Entries.{below_all}
use Rattle.std.specs.FinMap.{find, from_sorted, is_sorted}
use Rattle.std.specs.Ordering.{eq_by_cmp, is_lt, nat_cmp}
use Rattle.std.specs.Prelude.{List, None, Option, ◌<◌, ◌≤◌, get_or, zero, Some, option_map, slice_get, T, [], cond, false, length, map as map_list, suc, true, ℕ, ◌&&◌, ◌∷◌, ◌≡◌}

module _ {V W : Type 0} (f : V → W) where
  abbrev pub pair_of : ℕ × V → ℕ × W
  pair_of e = (e.0, f e.1)

  find-mapped : (q : ℕ) (es : List (ℕ × V)) → find nat_cmp q (map_list pair_of es) ≡ and_then (find nat_cmp q es) (λ v. Some (f v))
  find-mapped q [] = refl
  find-mapped q (e ∷ es) =
      elim (eq_by_cmp nat_cmp q e.0) as (λ b. cond b (Some (f e.1)) (find nat_cmp q (map_list pair_of es)) ≡ and_then (cond b (Some e.1) (find nat_cmp q es)) (λ v. Some (f v))) [
        | true ↦ refl
        | false ↦ find-mapped q es
      ]

  below-mapped : (x : ℕ) (es : List (ℕ × V)) → below_all nat_cmp x (map_list pair_of es) ≡ below_all nat_cmp x es
  below-mapped x [] = refl
  below-mapped x (e ∷ es) = ap (λ b. is_lt (nat_cmp x e.0) && b) (below-mapped x es)

  sorted-mapped : (es : List (ℕ × V)) → is_sorted nat_cmp (map_list pair_of es) ≡ is_sorted nat_cmp es
  sorted-mapped [] = refl
  sorted-mapped (e ∷ es) = λ i. below-mapped e.0 es i && sorted-mapped es i

  -- each value in the other form, in the same order
  pub entries-each : (m : Map V) → entries (each f m) ≡ map_list pair_of (entries m)
  entries-each m =
      let rising = subst T (sym (sorted-mapped (entries m))) (finmap.entries_sorted m) in
      let same : each f m ≡ from_sorted {R = nat_cmp} (map_list pair_of (entries m)) = same_rows _ _ (λ q.
      at-collect (λ k v. Some (f v)) m q ∙ ap (λ o. and_then o (λ v. Some (f v))) (finmap.get-entries m q) ∙ sym (find-mapped q (entries m))
      ∙ sym (finmap.get-from_sorted nat_cmp (map_list pair_of (entries m)) q rising)) in
      ap (λ n. entries n) same ∙ finmap.entries-from_sorted nat_cmp (map_list pair_of (entries m)) rising

  keys-mapped : (es : List (ℕ × V)) → map_list (λ e. e.0) (map_list pair_of es) ≡ map_list (λ e. e.0) es
  keys-mapped [] = refl
  keys-mapped (e ∷ es) = ap (λ t. e.0 ∷ t) (keys-mapped es)

  pub keys-each : (m : Map V) → keys (each f m) ≡ keys m
  keys-each m = ap (map_list (λ e. e.0)) (entries-each m) ∙ keys-mapped (entries m)

  length-mapped : (es : List (ℕ × V)) → length (map_list pair_of es) ≡ length es
  length-mapped [] = refl
  length-mapped (e ∷ es) = ap suc (length-mapped es)

  pub count-each : (m : Map V) → count (each f m) ≡ count m
  count-each m = finmap.len-entries (each f m) ∙ ap length (entries-each m) ∙ length-mapped (entries m) ∙ sym (finmap.len-entries m)

-- the key of a row that was read, and past the last row
module _ {V W : Type 0} (m : Map V) (n : Map W) (rows : List (ℕ × V)) (i : ℕ) (same : keys n ≡ keys m) (are : rows ≡ entries m) where
  from-rows : (o : Option (ℕ × V)) → slice_get rows i ≡ o → option_map (λ e. e.0) o ≡ slice_get (keys n) i
  from-rows o is = ap (option_map (λ e. e.0)) (sym is ∙ ap (λ rows. slice_get rows i) are) ∙ sym (slice_get-map (λ e. e.0) (entries m) i) ∙ ap (λ ks. slice_get ks i) (sym same)

  pub key-here : (d : ℕ × V) → i < length rows → Some (get_or rows i d).0 ≡ slice_get (keys n) i
  key-here d l = from-rows (Some (get_or rows i d)) (slice_get-get_or rows i d l)

  pub key-past : length rows ≤ i → None ≡ slice_get (keys n) i
  key-past l = from-rows None (past rows i l)
    where
      past : (rows : List (ℕ × V)) (i : ℕ) → length rows ≤ i → slice_get rows i ≡ None
      past [] i h = refl
      past (x ∷ xs) zero h = absurd (omega arith)
      past (x ∷ xs) (suc i) h = past xs i (omega arith)
