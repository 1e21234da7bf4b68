-- A word of a leaf is set.
use Rattle.std.proofs.Common.{◌≡◌, ◌≢◌, ℕ, ◌%◌, ◌^◌, ◌<◌, ◌≤◌, true, Some, refl, sym, ap, subst, ◌∙◌, inl, inr, arith}
use Rattle.std.proofs.lemmas.Bool.{cases_eq}
use Rattle.std.proofs.lemmas.List.{get_or-set_other, get_or-set_same, length-set}
use Rattle.std.specs.Prelude.{option_map, slice_index, slice_set}
use Rattle.sv_table.proofs.Keys.{key_at-is, kept_at}
use Rattle.sv_table.proofs.LeafEffects.{keys_stay, leaf_at, leaf_others}
use Rattle.sv_table.proofs.LeafSet.{leaf-set}
use Rattle.sv_table.proofs.Opening.{closed}
use Rattle.sv_table.specs.Trees.{IsEntry, IsOpenTree}
use Rattle.sv_table.specs.Walks.{Nodes, key_at, place_of_leaf, walk}
use Rattle.sv_table.specs.Words.{is_present, page_in}

pub record LeafChange (node node2 : Nodes) (leaf page w : ℕ) : Type 0 where
  pub tree : IsOpenTree node2 leaf
  pub full : is_present w ≡ true → IsOpenTree node2 0
  pub keys : (q : ℕ) → q < 262657 → key_at node2 q ≡ key_at node q
  pub here : walk node2 page ≡ page_in w
  pub others : (other : ℕ) → other < 2 ^ 27 → other ≢ page → walk node2 other ≡ walk node other

module _ (node node2 : Nodes) (leaf page w : ℕ) (low : page < 2 ^ 27) (at : key_at node (place_of_leaf page) ≡ Some leaf) (entry : IsEntry w)
    (is : node2 leaf ≡ option_map (λ words. slice_set words (page % 512) w) (node leaf)) (others : (j : ℕ) → j ≢ leaf → node2 j ≡ node j) where
  pub set : IsOpenTree node leaf → LeafChange node node2 leaf page w
  set t =
      let home = t.home in
      let spot = key_at-is node home leaf t.tree (place_of_leaf page) (omega arith) leaf at in
      let placed = spot.placed in
      let k = kept_at node home leaf t.tree leaf spot.there in
      let long = k.2.long in
      let words2 = slice_set k.0 (page % 512) w in
      let now : node2 leaf ≡ Some (slice_set k.0 (page % 512) w) = is ∙ ap (option_map (λ words. slice_set words (page % 512) w)) k.1 in
      let here : slice_index (slice_set k.0 (page % 512) w) (page % 512) ≡ w = get_or-set_same k.0 (page % 512) w 0 (omega arith) in
      let rest : (i : ℕ) → i ≢ page % 512 → slice_index (slice_set k.0 (page % 512) w) i ≡ slice_index k.0 i = λ i o. get_or-set_other k.0 (page % 512) i w 0 o in
      let high : 513 ≤ home leaf = omega arith in
      let tree2 = leaf-set node node2 home leaf leaf leaf k.0 words2 t.tree k.1 high now others
      (length-set k.0 (page % 512) w ∙ k.2.long)
      (λ i l. elim (cases_eq i (page % 512)) [
        | inl same ↦ subst IsEntry (sym here ∙ ap (slice_index (slice_set k.0 (page % 512) w)) (sym same)) entry
        | inr other ↦ subst IsEntry (sym (rest i other)) (k.2.outer high i l)
      ])
      (λ _ o. absurd (o refl))
      (λ j o _. o) in
      let open_tree : IsOpenTree node2 leaf = record { home = home; tree = tree2 } in
      record {
        tree = open_tree;
        full = λ there. closed node2 leaf 0 words2 now (page % 512, omega arith, ap is_present here ∙ there) open_tree;
        keys = keys_stay node node2 home leaf leaf leaf k.0 words2 t.tree tree2 k.1 now others;
        here = leaf_at node node2 home leaf leaf leaf k.0 words2 t.tree tree2 k.1 now others page low at ∙ ap page_in here;
        others = leaf_others node node2 home leaf leaf leaf k.0 words2 t.tree tree2 k.1 now others page low at rest;
      }
