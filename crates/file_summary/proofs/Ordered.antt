-- Rows put into their places, one node after another.
use Rattle.file_model.specs.Files.{Files, Name, no_node, node_of}
use Rattle.file_summary.proofs.ByKey.{entries-by-key}
use Rattle.file_summary.specs.Rows.{entry_of, has_name, row_before, row_of, rows_of, with_node}
use Rattle.mck_word.specs.Lists.{insert_by, sorted_by}
use Rattle.mck_word.specs.Maps.{keys}
use Rattle.run_model.specs.Reports.{PathEntry, entry_before, path_entry, paths_in_order}
use Rattle.run_summary.specs.Summaries.{path_row}
use Rattle.std.proofs.Common.{ap, arith, refl, sym, ◌∙◌}
use Rattle.std.specs.List.{cons_option, filter_map, insert, position_or_len}
use Rattle.std.specs.Prelude.{Bool, List, None, Option, Some, [], cond, drop, false, filter, is_some, map, not, slice_get, suc, true, zero, ℕ, ◌+◌, ◌≡◌, ◌∷◌}

-- ---- a place
module _ {A : Type 0} (before : A → A → Bool) where
  pub put-at : (x : A) (ys : List A) → insert ys (position_or_len (before x) ys) x ≡ insert_by before x ys
  put-at x [] = refl
  put-at x (y ∷ ys) = go (before x y) (put-at x ys)
    where
      go : (b : Bool) → insert ys (position_or_len (before x) ys) x ≡ insert_by before x ys → insert (y ∷ ys) (cond (not b) (1 + position_or_len (before x) ys) 0) x ≡ cond b (x ∷ y ∷ ys) (y ∷ insert_by before x ys)
      go true h = refl
      go false h = let e : 1 + position_or_len (before x) ys ≡ suc (position_or_len (before x) ys) = omega arith in ap (λ i. insert (y ∷ ys) i x) e ∙ ap (λ zs. y ∷ zs) h

-- ---- rows and their entries
ordered-insert : (x : PathEntry) (ys : List PathEntry) → map path_row (insert_by entry_before x ys) ≡ insert_by row_before (path_row x) (map path_row ys)
ordered-insert x [] = refl
ordered-insert x (y ∷ ys) = go (entry_before x y) (ordered-insert x ys)
  where
    go : (b : Bool) → map path_row (insert_by entry_before x ys) ≡ insert_by row_before (path_row x) (map path_row ys)
        → map path_row (cond b (x ∷ y ∷ ys) (y ∷ insert_by entry_before x ys)) ≡ cond b (path_row x ∷ path_row y ∷ map path_row ys) (path_row y ∷ insert_by row_before (path_row x) (map path_row ys))
    go true e = refl
    go false e = ap (λ rows. path_row y ∷ rows) e

ordered : (xs : List PathEntry) → map path_row (sorted_by entry_before xs) ≡ sorted_by row_before (map path_row xs)
ordered [] = refl
ordered (x ∷ xs) = ordered-insert x (sorted_by entry_before xs) ∙ ap (insert_by row_before (path_row x)) (ordered xs)

module _ (files : Files) where
  -- one more node in front
  one-more : (n : ℕ) (ns : List ℕ) → rows_of files (n ∷ ns) ≡ with_node files (Some n) (rows_of files ns)
  one-more n ns = go (has_name files n)
    where
      go : (b : Bool) → sorted_by row_before (map (row_of files) (cond b (n ∷ filter (has_name files) ns) (filter (has_name files) ns))) ≡ cond b (insert_by row_before (row_of files n) (rows_of files ns)) (rows_of files ns)
      go true = refl
      go false = refl

  -- the node at a place in front of those behind it
  pub one-at : (ns : List ℕ) (i : ℕ) → rows_of files (drop i ns) ≡ with_node files (slice_get ns i) (rows_of files (drop (i + 1) ns))
  one-at [] zero = refl
  one-at [] (suc i) = let e : suc i + 1 ≡ suc (i + 1) = omega arith in ap (λ j. rows_of files (drop j [])) (sym e)
  one-at (n ∷ ns) zero = one-more n ns
  one-at (n ∷ ns) (suc i) =
      let e : suc i + 1 ≡ suc (i + 1) = omega arith in
      one-at ns i ∙ ap (λ j. with_node files (slice_get ns i) (rows_of files (drop j (n ∷ ns)))) (sym e)

  -- the entries of nodes that have names
  named : (ns : List ℕ) → filter_map (path_entry files) (map (λ n. (n, node_of files n)) ns) ≡ map (entry_of files) (filter (has_name files) ns)
  named [] = refl
  named (n ∷ ns) = go (node_of files n).name (named ns)
    where
      go : (o : Option Name) → filter_map (path_entry files) (map (λ k. (k, node_of files k)) ns) ≡ map (entry_of files) (filter (has_name files) ns)
          → cons_option (elim o as (λ _. Option PathEntry) [ None ↦ None | Some name ↦ Some (entry_of files n) ]) (filter_map (path_entry files) (map (λ k. (k, node_of files k)) ns))
          ≡ map (entry_of files) (cond (is_some o) (n ∷ filter (has_name files) ns) (filter (has_name files) ns))
      go None h = h
      go (Some name) h = ap (λ rest. entry_of files n ∷ rest) h

  twice : (ns : List ℕ) → map path_row (map (entry_of files) ns) ≡ map (row_of files) ns
  twice [] = refl
  twice (n ∷ ns) = ap (λ rows. row_of files n ∷ rows) (twice ns)

  pub all-rows : rows_of files (keys files.nodes) ≡ map path_row (paths_in_order files)
  all-rows = sym (
      ap (λ es. map path_row (sorted_by entry_before (filter_map (path_entry files) es))) (entries-by-key no_node files.nodes)
      ∙ ap (λ es. map path_row (sorted_by entry_before es)) (named (keys files.nodes))
      ∙ ordered (map (entry_of files) (filter (has_name files) (keys files.nodes)))
      ∙ ap (sorted_by row_before) (twice (filter (has_name files) (keys files.nodes)))
      )
