-- The node at a place, in a table: the key that the walk meets is the one whose home the place is.
use Rattle.mck_word.specs.Maps.{and_then}
use Rattle.std.proofs.Common.{◌≡◌, ℕ, ◌+◌, ◌*◌, ◌-◌, ◌<◌, ◌≤◌, true, List, Option, None, Some, refl, sym, ap, subst, ◌∙◌, inl, inr, arith}
use Rattle.std.proofs.lemmas.Bool.{cases_eq, cases_lt, ne_eqb, lt-ltb, le-ltb}
use Rattle.std.specs.Prelude.{is_some, slice_index}
use Rattle.sv_table.proofs.EntryWords.{node_in-entry, node_in-none}
use Rattle.sv_table.specs.Trees.{Above, IsOpenTree, Kept, Tree}
use Rattle.sv_table.specs.Walks.{Nodes, above, child, depth, down, entry_above, key_at, word, word_in}
use Rattle.sv_table.specs.Words.{node_in}

pub some_of : {A : Type 0} (o : Option A) → is_some o ≡ true → (x : A) × (o ≡ Some x)
some_of None h = absurd (cc)
some_of (Some x) h = (x, refl)

pub some_from : {A : Type 0} (o : Option A) (x : A) → o ≡ Some x → is_some o ≡ true
some_from o x e = ap is_some e

-- a place below 513 and one from there on
depth-low : (place : ℕ) → 1 ≤ place → place < 513 → depth place ≡ 1
depth-low place a b = rw (ne_eqb place 0 (omega arith), lt-ltb place 513 b) refl

depth-high : (place : ℕ) → 513 ≤ place → depth place ≡ 2
depth-high place a = rw (ne_eqb place 0 (omega arith), le-ltb place 513 a) refl

module _ (node : Nodes) where
  pub key_at-root : key_at node 0 ≡ Some 0
  unfolding key_at down
  key_at-root = refl

  pub key_at-step : (place : ℕ) → 1 ≤ place → place < 262657 → key_at node place ≡ and_then (key_at node (above place)) (λ key. child node key (entry_above place))
  unfolding key_at down
  key_at-step place a b = elim (cases_lt place 513) [
    | inl low ↦
        let up : above place ≡ 0 = omega arith in
        rw (depth-low place a low, up) refl
    | inr high ↦
        let up : 1 ≤ above place = omega arith in
        let low : above place < 513 = omega arith in
        rw (depth-high place high, depth-low (above place) up low) refl
  ]

  key_at-low : (place : ℕ) → 1 ≤ place → place < 513 → key_at node place ≡ child node 0 (entry_above place)
  key_at-low place a b =
      let up : above place ≡ 0 = omega arith in
      key_at-step place a (omega arith) ∙ ap (λ o. and_then o (λ k. child node k (entry_above place))) (ap (key_at node) up ∙ key_at-root)

  pub key_at-child : (place : ℕ) → 1 ≤ place → place < 513 → (o : Option ℕ) → o ≡ child node 0 (entry_above place) → o ≡ key_at node place
  key_at-child place a b o e = e ∙ sym (key_at-low place a b)

  pub key_at-high : (place : ℕ) → 513 ≤ place → place < 262657 → key_at node place ≡ and_then (child node 0 (above place - 1)) (λ k. child node k (entry_above place))
  key_at-high place a b =
      let same : entry_above (above place) ≡ above place - 1 = omega arith in
      key_at-step place (omega arith) b ∙ ap (λ o. and_then o (λ k. child node k (entry_above place))) (key_at-low (above place) (omega arith) (omega arith) ∙ ap (child node 0) same)

-- the key has a node, whose home the place is
pub record IsAt (node : Nodes) (home : ℕ → ℕ) (place key : ℕ) : Type 0 where
  pub there : is_some (node key) ≡ true
  pub placed : home key ≡ place

module _ (node : Nodes) (home : ℕ → ℕ) (open_key : ℕ) (tree : Tree node home open_key) where
  pub kept_at : (key : ℕ) → is_some (node key) ≡ true → (words : List ℕ) × (node key ≡ Some words) × Kept node home open_key key words
  kept_at key h = let p = some_of (node key) h in (p.0, p.1, tree.each key p.0 p.1)

  -- the entry of an inner node leads to the child
  pub child-at : (key : ℕ) → is_some (node key) ≡ true → home key < 513 → (i : ℕ) → i < 512 → (below : ℕ) → child node key i ≡ Some below → IsAt node home (512 * home key + 1 + i) below
  unfolding child
  child-at key h low i l below e =
      let p = kept_at key h in
      let here : word node key i ≡ slice_index p.0 i = ap (λ o. word_in o i) p.1 in
      elim (p.2.inner low i l) [
        | inl zero ↦ absurd (let none = ap node_in (here ∙ zero) ∙ node_in-none in cc)
        | inr link ↦
            let found : child node key i ≡ Some link.key = ap node_in (here ∙ link.is) ∙ node_in-entry link.key in
            let same : link.key ≡ below = cc in
            subst (λ k. IsAt node home (512 * home key + 1 + i) k) same (record { there = link.there; placed = link.placed })
      ]

  at-step : (place : ℕ) → 1 ≤ place → place < 262657 → ((key : ℕ) → key_at node (above place) ≡ Some key → IsAt node home (above place) key)
      → (key : ℕ) → key_at node place ≡ Some key → IsAt node home place key
  at-step place a b up key e = by_parent (key_at node (above place)) refl
    where
      by_parent : (o : Option ℕ) → key_at node (above place) ≡ o → IsAt node home place key
      by_parent None is = absurd (let none = key_at-step node place a b ∙ ap (λ o. and_then o (λ k. child node k (entry_above place))) is in cc)
      by_parent (Some parent) is =
          let p = up parent is in
          let found : child node parent (entry_above place) ≡ Some key = sym (ap (λ o. and_then o (λ k. child node k (entry_above place))) is) ∙ sym (key_at-step node place a b) ∙ e in
          let at = child-at parent p.there (let same = p.placed in omega arith) (entry_above place) (omega arith) key found in
          let same : 512 * home parent + 1 + entry_above place ≡ place = (let is = p.placed in omega arith) in
          subst (λ n. IsAt node home n key) same at

  at-root : (key : ℕ) → key_at node 0 ≡ Some key → IsAt node home 0 key
  at-root key e = let same : 0 ≡ key = (let r = key_at-root node in cc) in subst (λ k. IsAt node home 0 k) same (record { there = tree.root; placed = tree.top })

  at-middle : (place : ℕ) → place < 513 → (key : ℕ) → key_at node place ≡ Some key → IsAt node home place key
  at-middle place l = elim (cases_eq place 0) [
    | inl zero ↦ subst (λ n. (key : ℕ) → key_at node n ≡ Some key → IsAt node home n key) (sym zero) at-root
    | inr more ↦
        let up : 0 ≡ above place = omega arith in
        at-step place (omega arith) (omega arith) (subst (λ n. (key : ℕ) → key_at node n ≡ Some key → IsAt node home n key) up at-root)
  ]

  -- what the walk meets at a place is there and has its home there
  pub key_at-is : (place : ℕ) → place < 262657 → (key : ℕ) → key_at node place ≡ Some key → IsAt node home place key
  key_at-is place l = elim (cases_lt place 513) [
    | inl low ↦ at-middle place low
    | inr high ↦ at-step place (omega arith) l (at-middle (above place) (omega arith))
  ]

  home-step : (key : ℕ) (up : Above node home key) → home key < 262657 → key_at node (home up.parent) ≡ Some up.parent → key_at node (home key) ≡ Some key
  unfolding child
  home-step key up small e =
      let is = up.placed in
      let low = up.below in
      let parent : above (home key) ≡ home up.parent = omega arith in
      let index : entry_above (home key) ≡ up.index = omega arith in
      key_at-step node (home key) (omega arith) small
      ∙ ap (λ o. and_then o (λ k. child node k (entry_above (home key)))) (ap (key_at node) parent ∙ e)
      ∙ ap (child node up.parent) index
      ∙ ap node_in up.linked ∙ node_in-entry key

  home-zero : key_at node (home 0) ≡ Some 0
  home-zero = ap (key_at node) tree.top ∙ key_at-root node

  home-middle : (key : ℕ) → is_some (node key) ≡ true → home key < 513 → key_at node (home key) ≡ Some key
  home-middle key h low = elim (cases_eq key 0) [
    | inl zero ↦ subst (λ k. key_at node (home k) ≡ Some k) (sym zero) home-zero
    | inr other ↦
        let p = kept_at key h in
        let up = p.2.up other in
        let is = up.placed in
        let parent : home up.parent ≡ 0 = omega arith in
        elim (cases_eq up.parent 0) [
          | inl root ↦ home-step key up p.2.placed (subst (λ k. key_at node (home k) ≡ Some k) (sym root) home-zero)
          | inr differs ↦ absurd (let q = kept_at up.parent up.there in let again = (q.2.up differs).placed in omega arith)
        ]
  ]

  -- and the node at a key's home is the key's
  pub key_at-home : (key : ℕ) → is_some (node key) ≡ true → key_at node (home key) ≡ Some key
  key_at-home key h = elim (cases_eq key 0) [
    | inl zero ↦ subst (λ k. key_at node (home k) ≡ Some k) (sym zero) home-zero
    | inr other ↦
        let p = kept_at key h in
        let up = p.2.up other in
        home-step key up p.2.placed (home-middle up.parent up.there up.inner)
  ]

  -- two keys with one home are one
  pub home-one : (j k : ℕ) → is_some (node j) ≡ true → is_some (node k) ≡ true → home j ≡ home k → j ≡ k
  home-one j k a b same = let p = key_at-home j a in let q = key_at-home k b in let e = ap (key_at node) same in cc

-- where two tables have the same key at home at a place, or none, the walk meets the same
module _ (node node2 : Nodes) (home home2 : ℕ → ℕ) (open_key open_key2 : ℕ) (tree : Tree node home open_key) (tree2 : Tree node2 home2 open_key2) where
  pub key_at-same : (place : ℕ) → place < 262657 → ((key : ℕ) → IsAt node home place key → IsAt node2 home2 place key) → ((key : ℕ) → IsAt node2 home2 place key → IsAt node home place key) → key_at node2 place ≡ key_at node place
  key_at-same place l there back = by_answers (key_at node place) (key_at node2 place) refl refl
    where
      by_answers : (o p : Option ℕ) → key_at node place ≡ o → key_at node2 place ≡ p → p ≡ o
      by_answers None None a b = refl
      by_answers None (Some key) a b =
          let at = back key (key_at-is node2 home2 open_key2 tree2 place l key b) in
          let found = key_at-home node home open_key tree key at.there in
          let same = ap (key_at node) at.placed in
          absurd (cc)
      by_answers (Some key) p a b =
          let at = there key (key_at-is node home open_key tree place l key a) in
          let found = key_at-home node2 home2 open_key2 tree2 key at.there in
          let same = ap (key_at node2) at.placed in
          cc

module _ (node : Nodes) (home : ℕ → ℕ) (open_key : ℕ) (tree : Tree node home open_key) where
  pub key_at-none : (place : ℕ) → place < 262657 → ((key : ℕ) → IsAt node home place key → ⊥) → key_at node place ≡ None
  key_at-none place l no_key = by_answer (key_at node place) refl
    where
      by_answer : (o : Option ℕ) → key_at node place ≡ o → o ≡ None
      by_answer None e = refl
      by_answer (Some key) e = absurd (no_key key (key_at-is node home open_key tree place l key e))

-- what the walk meets is there
pub met : (node : Nodes) (open_key place key : ℕ) → IsOpenTree node open_key → place < 262657 → key_at node place ≡ Some key → is_some (node key) ≡ true
met node open_key place key t l e = (key_at-is node t.home open_key t.tree place l key e).there
