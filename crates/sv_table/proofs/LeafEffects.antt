-- What the walk finds after a word was put into a leaf.
use Rattle.std.proofs.Common.{◌≡◌, ◌≢◌, ℕ, ◌%◌, ◌^◌, ◌<◌, List, Some, sym, ap, ◌∙◌, inl, inr, arith}
use Rattle.std.proofs.lemmas.Bool.{cases_eq}
use Rattle.std.specs.Prelude.{is_some, slice_index}
use Rattle.sv_table.proofs.Keys.{key_at-is, key_at-same}
use Rattle.sv_table.proofs.Walked.{walk-kept, walk-some}
use Rattle.sv_table.specs.Trees.{Tree}
use Rattle.sv_table.specs.Walks.{Nodes, key_at, place_of_leaf, walk, word_in}
use Rattle.sv_table.specs.Words.{page_in}

module _ (node node2 : Nodes) (home : ℕ → ℕ) (open_key open_key2 key : ℕ) (words words2 : List ℕ) (tree : Tree node home open_key) (tree2 : Tree node2 home open_key2)
    (was : node key ≡ Some words) (is : node2 key ≡ Some words2) (others : (j : ℕ) → j ≢ key → node2 j ≡ node j) where
  there : (j : ℕ) → is_some (node2 j) ≡ is_some (node j)
  there j = elim (cases_eq j key) [
    | inl same ↦ ap (λ k. is_some (node2 k)) same ∙ ap is_some is ∙ sym (ap (λ k. is_some (node k)) same ∙ ap is_some was)
    | inr other ↦ ap is_some (others j other)
  ]

  pub keys_stay : (place : ℕ) → place < 262657 → key_at node2 place ≡ key_at node place
  keys_stay place l = key_at-same node node2 home home open_key open_key2 tree tree2 place l
      (λ k a. record { there = there k ∙ a.there; placed = a.placed })
      (λ k a. record { there = sym (there k) ∙ a.there; placed = a.placed })

  pub leaf_at : (page : ℕ) → page < 2 ^ 27 → key_at node (place_of_leaf page) ≡ Some key → walk node2 page ≡ page_in (slice_index words2 (page % 512))
  leaf_at page l e =
      walk-some node2 page l key (keys_stay (place_of_leaf page) (omega arith) ∙ e)
      ∙ ap (λ o. page_in (word_in o (page % 512))) is

  -- other pages keep what they have, where other words of the leaf stay
  pub leaf_others : (page : ℕ) → page < 2 ^ 27 → key_at node (place_of_leaf page) ≡ Some key → ((i : ℕ) → i ≢ page % 512 → slice_index words2 i ≡ slice_index words i)
      → (other : ℕ) → other < 2 ^ 27 → other ≢ page → walk node2 other ≡ walk node other
  leaf_others page l e same other m differs =
      walk-kept node node2 other m (keys_stay (place_of_leaf other) (omega arith)) (λ leaf at. ap page_in (elim (cases_eq leaf key) [
        | inl here ↦
            let a = key_at-is node home open_key tree (place_of_leaf page) (omega arith) key e in
            let b = key_at-is node home open_key tree (place_of_leaf other) (omega arith) leaf at in
            let places : place_of_leaf other ≡ place_of_leaf page = sym b.placed ∙ ap home here ∙ a.placed in
            ap (λ o. word_in o (other % 512)) (ap node2 here ∙ is) ∙ same (other % 512) (omega arith) ∙ sym (ap (λ o. word_in o (other % 512)) (ap node here ∙ was))
        | inr far ↦ ap (λ o. word_in o (other % 512)) (others leaf far)
      ]))
