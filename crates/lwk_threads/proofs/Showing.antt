-- The threads that a table shows.
use Rattle.kernel_model.specs.CloneCalls.{cloned_thread}
use Rattle.kernel_model.specs.Nodes.{Node, Thread as NodeThread, lowest_free_place as lowest_place_in}
use Rattle.kernel_model.specs.declared.Does.TheVariants.{Ready}
use Rattle.kernel_model.specs.declared.Does.{Does}
use Rattle.lwk_threads.specs.Shown.{shown, shown_threads}
use Rattle.lwk_threads.specs.Threads.{Threads, clone_clear, clone_regs, cloned, is_of, lowest_free_place}
use Rattle.lwk_threads.specs.declared.Thread.{Thread}
use Rattle.mck_word.specs.Lists.{lowest_not_in}
use Rattle.mck_word.specs.MapLaws.{at-collect, same_rows}
use Rattle.mck_word.specs.Maps.{Map, and_then, each, entries, values}
use Rattle.std.proofs.Common.{◌≡◌, ◌∙◌, ℕ, true, false, List, [], ◌∷◌, Some, cond, eqb, ap, refl, subst, sym}
use Rattle.std.specs.FinMap as map
use Rattle.std.specs.FinMap.{find, from_sorted, is_sorted}
use Rattle.std.specs.FinMap.Entries.{below_all}
use Rattle.std.specs.Ordering.{eq_by_cmp, is_lt, nat_cmp}
use Rattle.std.specs.Prelude.{T, filter, map as map_list, slice_index, ◌&&◌}

module _ {V W : Type 0} (f : V → W) where
  abbrev pub pair_of : ℕ × V → ℕ × W
  pair_of e = (e.0, f e.1)

  find-mapped : (q : ℕ) (es : List (ℕ × V)) → find nat_cmp q (map_list pair_of es) ≡ and_then (find nat_cmp q es) (λ v. Some (f v))
  find-mapped q [] = refl
  find-mapped q (e ∷ es) =
      elim (eq_by_cmp nat_cmp q e.0) as (λ b. cond b (Some (f e.1)) (find nat_cmp q (map_list pair_of es)) ≡ and_then (cond b (Some e.1) (find nat_cmp q es)) (λ v. Some (f v))) [
        | true ↦ refl
        | false ↦ find-mapped q es
      ]

  below-mapped : (x : ℕ) (es : List (ℕ × V)) → below_all nat_cmp x (map_list pair_of es) ≡ below_all nat_cmp x es
  below-mapped x [] = refl
  below-mapped x (e ∷ es) = ap (λ b. is_lt (nat_cmp x e.0) && b) (below-mapped x es)

  sorted-mapped : (es : List (ℕ × V)) → is_sorted nat_cmp (map_list pair_of es) ≡ is_sorted nat_cmp es
  sorted-mapped [] = refl
  sorted-mapped (e ∷ es) = λ i. below-mapped e.0 es i && sorted-mapped es i

  values-mapped : (es : List (ℕ × V)) → map_list (λ e. e.1) (map_list pair_of es) ≡ map_list f (map_list (λ e. e.1) es)
  values-mapped [] = refl
  values-mapped (e ∷ es) = ap (λ t. f e.1 ∷ t) (values-mapped es)

  -- each value changed, in the same order
  pub entries-each : (m : Map V) → entries (each f m) ≡ map_list pair_of (entries m)
  entries-each m =
      let rising = subst T (sym (sorted-mapped (entries m))) (map.entries_sorted m) in
      let same : each f m ≡ from_sorted {R = nat_cmp} (map_list pair_of (entries m)) = same_rows _ _ (λ q.
      at-collect (λ k v. Some (f v)) m q ∙ ap (λ o. and_then o (λ v. Some (f v))) (map.get-entries m q) ∙ sym (find-mapped q (entries m))
      ∙ sym (map.get-from_sorted nat_cmp (map_list pair_of (entries m)) q rising)) in
      ap (λ n. entries n) same ∙ map.entries-from_sorted nat_cmp (map_list pair_of (entries m)) rising

  pub values-each : (m : Map V) → values (each f m) ≡ map_list f (values m)
  values-each m = ap (map_list (λ e. e.1)) (entries-each m) ∙ values-mapped (entries m)

module _ {S : Type 0} (does : S → Does) where
  places-shown : (p : ℕ) (xs : List (Thread S)) → map_list (λ (x : NodeThread). x.place) (filter (λ (x : NodeThread). eqb x.process p) (map_list (shown does) xs)) ≡ map_list (λ (x : Thread S). x.place) (filter (is_of p) xs)
  places-shown p [] = refl
  places-shown p (x ∷ xs) =
      let rest = places-shown p xs in
      elim (eqb x.pid.0 p) as (λ b. map_list (λ (x : NodeThread). x.place) (cond b (shown does x ∷ filter (λ (x : NodeThread). eqb x.process p) (map_list (shown does) xs)) (filter (λ (x : NodeThread). eqb x.process p) (map_list (shown does) xs))) ≡ map_list (λ (x : Thread S). x.place) (cond b (x ∷ filter (is_of p) xs) (filter (is_of p) xs))) [
        | true ↦ ap (λ t. x.place ∷ t) rest
        | false ↦ rest
      ]

  -- the lowest free place in a node is that of the table that it shows
  pub lowest-shown : (node : Node) (t : Threads S) (p : ℕ) → node.threads ≡ shown_threads does t → lowest_place_in node p ≡ lowest_free_place p t
  lowest-shown node t p e =
      ap (λ xs. lowest_not_in (map_list (λ (x : NodeThread). x.place) (filter (λ (x : NodeThread). eqb x.process p) xs))) (ap (λ m. values m) e ∙ values-each (shown does) t.rows)
      ∙ ap lowest_not_in (places-shown p (values t.rows))

  pub cloned-shown : (node : Node) (t : Threads S) (x : Thread S) (args : List ℕ) (state : S) → node.threads ≡ shown_threads does t → does state ≡ Ready
      → cloned_thread node (shown does x) (slice_index args 0) (slice_index args 1) (slice_index args 3) (slice_index args 4) ≡ shown does (cloned args state x t)
  cloned-shown node t x args state e ready = λ i. record {
    process = x.pid.0;
    place = lowest-shown node t x.pid.0 e i;
    regs = clone_regs args x.regs;
    mask = x.mask.0;
    pending = 0;
    clear_address = clone_clear args;
    back = false;
    does = sym ready i;
  }
