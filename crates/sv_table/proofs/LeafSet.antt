-- A word put into a leaf leaves a table.
use Rattle.std.proofs.Common.{◌≡◌, ◌≢◌, ℕ, ◌<◌, ◌≤◌, true, List, Some, refl, sym, ap, subst, ◌∙◌, inl, inr, length, arith}
use Rattle.std.proofs.lemmas.Bool.{cases_eq}
use Rattle.std.specs.Prelude.{is_some, slice_index}
use Rattle.sv_table.proofs.Keeping.{Keeps, above-kept, kept-kept}
use Rattle.sv_table.proofs.Keys.{some_from}
use Rattle.sv_table.specs.Trees.{IsEntry, Kept, Tree}
use Rattle.sv_table.specs.Walks.{Nodes, word_in}
use Rattle.sv_table.specs.Words.{HasEntry}

module _ (node node2 : Nodes) (home : ℕ → ℕ) (open_key open_key2 key : ℕ) (words words2 : List ℕ) (tree : Tree node home open_key)
    (was : node key ≡ Some words) (leaf : 513 ≤ home key) (is : node2 key ≡ Some words2) (others : (j : ℕ) → j ≢ key → node2 j ≡ node j) where
  stays : (j : ℕ) → is_some (node j) ≡ true → is_some (node2 j) ≡ true
  stays j h = elim (cases_eq j key) [
    | inl same ↦ ap (λ k. is_some (node2 k)) same ∙ ap is_some is
    | inr other ↦ ap is_some (others j other) ∙ h
  ]

  keeps : Keeps node node2 home home (λ _. Unit {0})
  keeps = record {
    nodes = λ j _ h. stays j h;
    homes = λ j _ _. refl;
    links = λ p i k _ h low l _ e.
        let differs : p ≢ key = (λ same. let high = ap home same in absurd (omega arith)) in
        ap (λ o. word_in o i) (others p differs) ∙ e;
  }

  pub leaf-set : length words2 ≡ 512 → ((i : ℕ) → i < 512 → IsEntry (slice_index words2 i)) → (key ≢ 0 → key ≢ open_key2 → HasEntry words2)
      → ((j : ℕ) → j ≢ key → j ≢ open_key2 → j ≢ open_key) → Tree node2 home open_key2
  leaf-set long entries full open_keys =
      record {
        root = stays 0 tree.root;
        top = tree.top;
        each = λ j ws e. elim (cases_eq j key) [
          | inl same ↦
              let both : ws ≡ words2 = (let here = ap node2 same in cc) in
              subst (λ w. Kept node2 home open_key2 j w) (sym both) (subst (λ k. Kept node2 home open_key2 k words2) (sym same) here)
          | inr other ↦
              let old : node j ≡ Some ws = sym (others j other) ∙ e in
              let k = tree.each j ws old in
              kept-kept node node2 home home (λ _. Unit {0}) keeps open_key open_key2 j ws tt (some_from (node j) ws old) k (λ _ _ _ _ _ _ _. tt) (λ _. tt)
              (λ a b. k.full a (open_keys j other b))
        ];
      }
    where
      here : Kept node2 home open_key2 key words2
      here =
          let k = tree.each key words was in
          let up = k.up in
          record {
            small = k.small;
            placed = k.placed;
            long = long;
            inner = λ low i l. absurd (omega arith);
            outer = λ _ i l. entries i l;
            up = λ o. above-kept node node2 home home (λ _. Unit {0}) keeps key tt (some_from (node key) words was) (up o) tt;
            full = full;
          }
