-- What the walk finds after an empty node was given back.
use Rattle.std.proofs.Common.{◌≡◌, ◌≢◌, ℕ, ◌%◌, ◌/◌, ◌^◌, ◌<◌, true, false, cond, List, None, Some, sym, ap, ◌∙◌, inl, inr, arith}
use Rattle.std.proofs.lemmas.Bool.{cases_eq}
use Rattle.std.specs.Prelude.{is_some, slice_index}
use Rattle.sv_table.proofs.Keys.{home-one, key_at-is, key_at-none, key_at-same, some_from}
use Rattle.sv_table.proofs.Walked.{walk-kept, walk-none, walk-some}
use Rattle.sv_table.specs.Trees.{Tree}
use Rattle.sv_table.specs.Walks.{Nodes, key_at, place_of_leaf, walk, word_in}
use Rattle.sv_table.specs.Words.{is_present, page_in}

page_in-off : (w : ℕ) → is_present w ≡ false → page_in w ≡ None
unfolding page_in
page_in-off w e = ap (λ b. cond b (Some (record { 0 = w / 1024 }, record { 0 = w / 2 % 256 })) None) e

module _ (node node2 : Nodes) (home : ℕ → ℕ) (parent key place : ℕ) (empty words2 : List ℕ) (tree : Tree node home key) (tree2 : Tree node2 home parent)
    (at : node key ≡ Some empty) (none : (q : ℕ) → q < 512 → is_present (slice_index empty q) ≡ false) (was : is_some (node parent) ≡ true) (inner : home parent < 513)
    (placed : home key ≡ place) (gone : node2 key ≡ None) (is : node2 parent ≡ Some words2) (others : (j : ℕ) → j ≢ key → j ≢ parent → node2 j ≡ node j) where
  away : (j : ℕ) → is_some (node2 j) ≡ true → j ≢ key
  away j h e = let off = ap node2 e ∙ gone in let t = ap is_some off in absurd (cc)

  there : (j : ℕ) → j ≢ key → is_some (node2 j) ≡ is_some (node j)
  there j e = elim (cases_eq j parent) [
    | inl same ↦ ap (λ k. is_some (node2 k)) same ∙ ap is_some is ∙ sym (ap (λ k. is_some (node k)) same ∙ was)
    | inr other ↦ ap is_some (others j e other)
  ]

  pub key_goes : place < 262657 → key_at node2 place ≡ None
  key_goes l = key_at-none node2 home parent tree2 place l (λ k a.
      let o = away k a.there in
      o (home-one node home key tree k key (sym (there k o) ∙ a.there) (some_from (node key) empty at) (a.placed ∙ sym placed)))

  pub keys_stay : (q : ℕ) → q < 262657 → q ≢ place → key_at node2 q ≡ key_at node q
  keys_stay q l other = key_at-same node node2 home home key parent tree tree2 q l
      (λ k a.
      let o : k ≢ key = (λ e. other (sym a.placed ∙ ap home e ∙ placed)) in
      record { there = there k o ∙ a.there; placed = a.placed })
      (λ k a. record { there = sym (there k (away k a.there)) ∙ a.there; placed = a.placed })

  pub walks_stay : key_at node place ≡ Some key → place < 262657 → (page : ℕ) → page < 2 ^ 27 → walk node2 page ≡ walk node page
  walks_stay here low page l = elim (cases_eq (place_of_leaf page) place) [
    | inl same ↦
        walk-none node2 page l (ap (key_at node2) same ∙ key_goes low)
        ∙ sym (walk-some node page l key (ap (key_at node) same ∙ here)
        ∙ ap (λ o. page_in (word_in o (page % 512))) at
        ∙ page_in-off (slice_index empty (page % 512)) (none (page % 512) (omega arith)))
    | inr other ↦ walk-kept node node2 page l (keys_stay (place_of_leaf page) (omega arith) other) (λ leaf e.
        let a = key_at-is node home key tree (place_of_leaf page) (omega arith) leaf e in
        let spot = a.placed in
        let far : leaf ≢ parent = (λ f. let same = ap home f in absurd (omega arith)) in
        let apart : leaf ≢ key = (λ f. let same = ap home f in other (omega arith)) in
        ap (λ o. page_in (word_in o (page % 512))) (others leaf apart far))
  ]
