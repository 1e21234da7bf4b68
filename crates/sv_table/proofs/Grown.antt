-- An empty node below an entry that was absent: a table, but for that node.
use Rattle.std.proofs.Common.{◌≡◌, ◌≢◌, ◌⊎◌, ℕ, ◌+◌, ◌*◌, ◌^◌, ◌<◌, true, cond, eqb, List, None, Some, refl, sym, ap, subst, ◌∙◌, inl, inr, arith}
use Rattle.std.proofs.lemmas.Bool.{cases_eq, eq-eqb, ne_eqb}
use Rattle.std.proofs.lemmas.List.{get_or-replicate, get_or-set_other, get_or-set_same, length-replicate, length-set}
use Rattle.std.specs.Prelude.{is_some, slice_index, slice_set}
use Rattle.sv_table.proofs.EntryWords.{is_present-node}
use Rattle.sv_table.proofs.Keeping.{Keeps, above-kept, kept-kept, link-kept}
use Rattle.sv_table.proofs.Keys.{some_from}
use Rattle.sv_table.specs.Trees.{Kept, Link, Tree}
use Rattle.sv_table.specs.Walks.{Nodes, word, word_in}
use Rattle.sv_table.specs.Words.{empty_node, entry_of_node, is_present}

-- the homes with one more
abbrev pub home_with : (ℕ → ℕ) → ℕ → ℕ → ℕ → ℕ
home_with home key place j = cond (eqb j key) place (home j)

module _ (node node2 : Nodes) (home : ℕ → ℕ) (parent key i : ℕ) (words : List ℕ) (tree : Tree node home parent)
    (absent : node key ≡ None) (was : node parent ≡ Some words) (inner : home parent < 513) (below : i < 512) (free : slice_index words i ≡ 0)
    (small : key < 2 ^ 32) (new : node2 key ≡ Some empty_node) (is : node2 parent ≡ Some (slice_set words i (entry_of_node key)))
    (others : (j : ℕ) → j ≢ key → j ≢ parent → node2 j ≡ node j) where
  place : ℕ
  place = 512 * home parent + 1 + i

  home2 : ℕ → ℕ
  home2 j = home_with home key (512 * home parent + 1 + i) j

  home-new : (j : ℕ) → j ≡ key → home2 j ≡ 512 * home parent + 1 + i
  unfolding home2
  home-new j e = ap (λ b. cond b (512 * home parent + 1 + i) (home j)) (eq-eqb j key e)

  home-old : (j : ℕ) → j ≢ key → home2 j ≡ home j
  unfolding home2
  home-old j e = ap (λ b. cond b (512 * home parent + 1 + i) (home j)) (ne_eqb j key e)

  apart : (j : ℕ) → is_some (node j) ≡ true → j ≢ key
  apart j h e = let none = ap node e ∙ absent in let t = ap is_some none in absurd (cc)

  stays : (j : ℕ) → is_some (node j) ≡ true → is_some (node2 j) ≡ true
  stays j h = elim (cases_eq j parent) [
    | inl same ↦ ap (λ k. is_some (node2 k)) same ∙ ap is_some is
    | inr other ↦ ap is_some (others j (apart j h) other) ∙ h
  ]

  old_words : (j : ℕ) (ws : List ℕ) → node j ≡ Some ws → j ≡ parent → ws ≡ words
  old_words j ws e same = let here = ap node same in cc

  keeps : Keeps node node2 home home2 (λ _. Unit {0})
  keeps = record {
    nodes = λ j _ h. stays j h;
    homes = λ j _ h. home-old j (apart j h);
    links = λ p k q _ h low l _ e. elim (cases_eq p parent) [
      | inl same ↦
          let here : word node p k ≡ slice_index words k = ap (λ o. word_in o k) (ap node same ∙ was) in
          let differs : k ≢ i = (λ f. let zero = ap (slice_index words) f in absurd (omega arith)) in
          let there : word node2 p k ≡ slice_index (slice_set words i (entry_of_node key)) k = ap (λ o. word_in o k) (ap node2 same ∙ is) in
          there ∙ get_or-set_other words i k (entry_of_node key) 0 differs ∙ sym here ∙ e
      | inr other ↦ ap (λ o. word_in o k) (others p (apart p h) other) ∙ e
    ];
  }

  pub grown : Tree node2 (home_with home key (512 * home parent + 1 + i)) key
  unfolding home2
  grown =
      record {
        root = stays 0 tree.root;
        top = home-old 0 (apart 0 tree.root) ∙ tree.top;
        each = λ j ws e. elim (cases_eq j key) [
          | inl same ↦
              let both : ws ≡ empty_node = (let here = ap node2 same in cc) in
              subst (λ w. Kept node2 home2 key j w) (sym both) (subst (λ k. Kept node2 home2 key k empty_node) (sym same) child)
          | inr other ↦ elim (cases_eq j parent) [
            | inl same ↦
                let both : ws ≡ slice_set words i (entry_of_node key) = (let here = ap node2 same in cc) in
                subst (λ w. Kept node2 home2 key j w) (sym both) (subst (λ k. Kept node2 home2 key k (slice_set words i (entry_of_node key))) (sym same) over)
            | inr far ↦
                let old : node j ≡ Some ws = sym (others j other far) ∙ e in
                let k = tree.each j ws old in
                kept-kept node node2 home home2 (λ _. Unit {0}) keeps parent key j ws tt (some_from (node j) ws old) k (λ _ _ _ _ _ _ _. tt) (λ _. tt) (λ a b. k.full a far)
          ]
        ];
      }
    where
      over : Kept node2 home2 key parent (slice_set words i (entry_of_node key))
      over =
          let k = tree.each parent words was in
          let own : home2 parent ≡ home parent = home-old parent (apart parent (some_from (node parent) words was)) in
          let placed = k.placed in
          let long = k.long in
          let same : slice_index (slice_set words i (entry_of_node key)) i ≡ entry_of_node key = get_or-set_same words i (entry_of_node key) 0 (omega arith) in
          record {
            small = k.small;
            placed = omega arith;
            long = length-set words i (entry_of_node key) ∙ k.long;
            inner = λ low q l. elim (cases_eq q i) [
              | inl e ↦
                  let here : slice_index (slice_set words i (entry_of_node key)) q ≡ entry_of_node key = ap (slice_index (slice_set words i (entry_of_node key))) e ∙ same in
                  inr (record { key = key; is = here; there = ap is_some new; placed = home-new key refl ∙ (let p : 512 * home parent + 1 + i ≡ 512 * home2 parent + 1 + q = omega arith in p) })
              | inr d ↦
                  let here : slice_index words q ≡ slice_index (slice_set words i (entry_of_node key)) q = sym (get_or-set_other words i q (entry_of_node key) 0 d) in
                  let at : 512 * home parent + 1 + q ≡ 512 * home2 parent + 1 + q = omega arith in
                  subst (λ w. (w ≡ 0) ⊎ Link node2 home2 (512 * home2 parent + 1 + q) w) here
                  (elim (k.inner inner q l) [
                    | inl zero ↦ inl zero
                    | inr link ↦ inr (subst (λ p. Link node2 home2 p (slice_index words q)) at (link-kept node node2 home home2 (λ _. Unit {0}) keeps (512 * home parent + 1 + q) (slice_index words q) link tt))
                  ])
            ];
            outer = λ high q l. absurd (omega arith);
            up = λ o. above-kept node node2 home home2 (λ _. Unit {0}) keeps parent tt (some_from (node parent) words was) (k.up o) tt;
            full = λ _ _. (i, below, ap is_present same ∙ is_present-node key);
          }

      child : Kept node2 home2 key key empty_node
      child =
          let own : home2 key ≡ 512 * home parent + 1 + i = home-new key refl in
          record {
            small = small;
            placed = omega arith;
            long = length-replicate {A = ℕ} 512 0;
            inner = λ low q l. inl (get_or-replicate 512 q 0 0 l);
            outer = λ high q l. inl (get_or-replicate 512 q 0 0 l);
            up = λ o. record {
              parent = parent;
              index = i;
              below = below;
              inner = (let own = home-old parent (apart parent (some_from (node parent) words was)) in omega arith);
              there = stays parent (some_from (node parent) words was);
              placed = (let over = home-old parent (apart parent (some_from (node parent) words was)) in omega arith);
              linked = ap (λ o. word_in o i) is ∙ get_or-set_same words i (entry_of_node key) 0 (let long = (tree.each parent words was).long in omega arith);
            };
            full = λ _ o. absurd (o refl);
          }
