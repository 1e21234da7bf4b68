-- A node without an entry is given back: a table, but for the node above it.
use Rattle.std.proofs.Common.{◌≡◌, ◌≢◌, ◌⊎◌, ℕ, ◌+◌, ◌*◌, ◌<◌, false, List, None, Some, refl, sym, ap, subst, ◌∙◌, inl, inr, arith}
use Rattle.std.proofs.lemmas.Bool.{cases_eq}
use Rattle.std.proofs.lemmas.List.{get_or-set_other, get_or-set_same, length-set}
use Rattle.std.specs.Prelude.{is_some, slice_index, slice_set}
use Rattle.sv_table.proofs.EntryWords.{is_present-node}
use Rattle.sv_table.proofs.Keeping.{Keeps, above-kept, kept-kept, link-kept}
use Rattle.sv_table.proofs.Keys.{home-one, some_from}
use Rattle.sv_table.specs.Trees.{Above, Kept, Link, Tree}
use Rattle.sv_table.specs.Walks.{Nodes, word, word_in}
use Rattle.sv_table.specs.Words.{entry_of_node, is_present}

module _ (node node2 : Nodes) (home : ℕ → ℕ) (parent key i : ℕ) (words empty : List ℕ) (tree : Tree node home key)
    (at : node key ≡ Some empty) (none : (q : ℕ) → q < 512 → is_present (slice_index empty q) ≡ false)
    (was : node parent ≡ Some words) (inner : home parent < 513) (below : i < 512) (linked : slice_index words i ≡ entry_of_node key) (placed : home key ≡ 512 * home parent + 1 + i)
    (gone : node2 key ≡ None) (is : node2 parent ≡ Some (slice_set words i 0)) (others : (j : ℕ) → j ≢ key → j ≢ parent → node2 j ≡ node j) where
  not_root : key ≢ 0
  not_root e = let top = tree.top in let same = ap home e in absurd (omega arith)

  parent_is_other : parent ≢ key
  parent_is_other e = let same = ap home e in absurd (omega arith)

  keeps : Keeps node node2 home home (λ j. j ≢ key)
  keeps = record {
    nodes = λ j s h. elim (cases_eq j parent) [
      | inl same ↦ ap (λ k. is_some (node2 k)) same ∙ ap is_some is
      | inr other ↦ ap is_some (others j s other) ∙ h
    ];
    homes = λ j _ _. refl;
    links = λ p k q s h low l t e. elim (cases_eq p parent) [
      | inl same ↦
          let here : word node p k ≡ slice_index words k = ap (λ o. word_in o k) (ap node same ∙ was) in
          let differs : k ≢ i = (λ f. let zero = ap (slice_index words) f in let one : entry_of_node q ≡ entry_of_node key = sym e ∙ here ∙ zero ∙ linked in t (omega arith)) in
          let there : word node2 p k ≡ slice_index (slice_set words i 0) k = ap (λ o. word_in o k) (ap node2 same ∙ is) in
          there ∙ get_or-set_other words i k 0 0 differs ∙ sym here ∙ e
      | inr other ↦ ap (λ o. word_in o k) (others p s other) ∙ e
    ];
  }

  -- nothing stands below the node
  not_above : (j : ℕ) (a : Above node home j) → a.parent ≢ key
  not_above j a e =
      let here : word node a.parent a.index ≡ slice_index empty a.index = ap (λ o. word_in o a.index) (ap node e ∙ at) in
      let off = none a.index a.below in
      let on = ap is_present (sym here ∙ a.linked) ∙ is_present-node j in
      absurd (cc)

  pub shrunk : Tree node2 home parent
  shrunk =
      record {
        root = keeps.nodes 0 (λ e. not_root (sym e)) tree.root;
        top = tree.top;
        each = λ j ws e. elim (cases_eq j key) [
          | inl same ↦ absurd (let here = ap node2 same in cc)
          | inr other ↦ elim (cases_eq j parent) [
            | inl same ↦
                let both : ws ≡ slice_set words i 0 = (let here = ap node2 same in cc) in
                subst (λ w. Kept node2 home parent j w) (sym both) (subst (λ k. Kept node2 home parent k (slice_set words i 0)) (sym same) over)
            | inr far ↦
                let old : node j ≡ Some ws = sym (others j other far) ∙ e in
                let k = tree.each j ws old in
                kept-kept node node2 home home (λ j. j ≢ key) keeps key parent j ws other (some_from (node j) ws old) k
                (λ place w l q m _ at_place f.
                let up = l.placed in
                let same = ap home f in
                far (home-one node home key tree j parent (some_from (node j) ws old) (some_from (node parent) words was) (omega arith)))
                (λ a. not_above j a)
                (λ a b. k.full a other)
          ]
        ];
      }
    where
      over : Kept node2 home parent parent (slice_set words i 0)
      over =
          let k = tree.each parent words was in
          let long = k.long in
          record {
            small = k.small;
            placed = k.placed;
            long = length-set words i 0 ∙ k.long;
            inner = λ low q l. elim (cases_eq q i) [
              | inl e ↦ inl (ap (slice_index (slice_set words i 0)) e ∙ get_or-set_same words i 0 0 (omega arith))
              | inr d ↦
                  let here : slice_index words q ≡ slice_index (slice_set words i 0) q = sym (get_or-set_other words i q 0 0 d) in
                  subst (λ w. (w ≡ 0) ⊎ Link node2 home (512 * home parent + 1 + q) w) here
                  (elim (k.inner inner q l) [
                    | inl zero ↦ inl zero
                    | inr link ↦ inr (link-kept node node2 home home (λ j. j ≢ key) keeps (512 * home parent + 1 + q) (slice_index words q) link
                        (λ f. let up = link.placed in let same = ap home f in d (omega arith)))
                  ])
            ];
            outer = λ high q l. absurd (omega arith);
            up = λ o. let a = k.up o in above-kept node node2 home home (λ j. j ≢ key) keeps parent parent_is_other (some_from (node parent) words was) a (not_above parent a);
            full = λ _ o. absurd (o refl);
          }
