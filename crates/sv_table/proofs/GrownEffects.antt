-- What the walk finds after an empty node was put below an entry.
use Rattle.std.proofs.Common.{◌≡◌, ◌≢◌, ℕ, ◌%◌, ◌^◌, ◌<◌, true, cond, List, None, Some, refl, sym, ap, ◌∙◌, inl, inr, arith}
use Rattle.std.proofs.lemmas.Bool.{cases_eq, eq-eqb, ne_eqb}
use Rattle.std.proofs.lemmas.List.{get_or-replicate}
use Rattle.std.specs.Prelude.{is_some}
use Rattle.sv_table.proofs.EntryWords.{page_in-none}
use Rattle.sv_table.proofs.Grown.{home_with}
use Rattle.sv_table.proofs.Keys.{key_at-home, key_at-is, key_at-same}
use Rattle.sv_table.proofs.Walked.{walk-kept, walk-none, walk-some}
use Rattle.sv_table.specs.Trees.{Tree}
use Rattle.sv_table.specs.Walks.{Nodes, key_at, place_of_leaf, walk, word_in}
use Rattle.sv_table.specs.Words.{empty_node, page_in}

module _ (node node2 : Nodes) (home : ℕ → ℕ) (parent key place : ℕ) (words2 : List ℕ) (tree : Tree node home parent) (tree2 : Tree node2 (home_with home key place) key)
    (absent : node key ≡ None) (was : is_some (node parent) ≡ true) (inner : home parent < 513) (new : node2 key ≡ Some empty_node) (is : node2 parent ≡ Some words2)
    (others : (j : ℕ) → j ≢ key → j ≢ parent → node2 j ≡ node j) where
  apart : (j : ℕ) → is_some (node j) ≡ true → j ≢ key
  apart j h e = let none = ap node e ∙ absent in let t = ap is_some none in absurd (cc)

  home-old : (j : ℕ) → j ≢ key → home_with home key place j ≡ home j
  home-old j e = ap (λ b. cond b place (home j)) (ne_eqb j key e)

  home-new : home_with home key place key ≡ place
  home-new = ap (λ b. cond b place (home key)) (eq-eqb key key refl)

  there : (j : ℕ) → j ≢ key → is_some (node2 j) ≡ is_some (node j)
  there j e = elim (cases_eq j parent) [
    | inl same ↦ ap (λ k. is_some (node2 k)) same ∙ ap is_some is ∙ sym (ap (λ k. is_some (node k)) same ∙ was)
    | inr other ↦ ap is_some (others j e other)
  ]

  pub key_comes : key_at node2 place ≡ Some key
  key_comes = ap (key_at node2) (sym home-new) ∙ key_at-home node2 (home_with home key place) key tree2 key (ap is_some new)

  pub keys_stay : (q : ℕ) → q < 262657 → q ≢ place → key_at node2 q ≡ key_at node q
  keys_stay q l other = key_at-same node node2 home (home_with home key place) parent key tree tree2 q l
      (λ k a. let o = apart k a.there in record { there = there k o ∙ a.there; placed = home-old k o ∙ a.placed })
      (λ k a.
      let o : k ≢ key = (λ e. other (sym (sym home-new ∙ ap (home_with home key place) (sym e) ∙ a.placed))) in
      record { there = sym (there k o) ∙ a.there; placed = sym (home-old k o) ∙ a.placed })

  pub walks_stay : key_at node place ≡ None → (page : ℕ) → page < 2 ^ 27 → walk node2 page ≡ walk node page
  walks_stay none page l = elim (cases_eq (place_of_leaf page) place) [
    | inl same ↦
        walk-some node2 page l key (ap (key_at node2) same ∙ key_comes)
        ∙ ap (λ o. page_in (word_in o (page % 512))) new
        ∙ ap page_in (get_or-replicate 512 (page % 512) 0 0 (omega arith))
        ∙ page_in-none
        ∙ sym (walk-none node page l (ap (key_at node) same ∙ none))
    | inr other ↦ walk-kept node node2 page l (keys_stay (place_of_leaf page) (omega arith) other) (λ leaf e.
        let a = key_at-is node home parent tree (place_of_leaf page) (omega arith) leaf e in
        let placed = a.placed in
        let far : leaf ≢ parent = (λ f. let same = ap home f in absurd (omega arith)) in
        ap (λ o. page_in (word_in o (page % 512))) (others leaf (apart leaf a.there) far))
  ]
