-- A node made in the slab, and put below its entry.
use Rattle.mck_word.specs.Maps.{and_then}
use Rattle.std.proofs.Common.{◌≡◌, ◌≢◌, ℕ, ◌+◌, ◌*◌, ◌^◌, ◌<◌, ◌≤◌, true, List, None, Some, sym, ap, subst, ◌∙◌, inl, inr, arith}
use Rattle.std.specs.Prelude.{is_some, option_map, slice_index, slice_set}
use Rattle.sv_table.proofs.EntryWords.{node_in-entry}
use Rattle.sv_table.proofs.Grown.{grown, home_with}
use Rattle.sv_table.proofs.GrownEffects.{key_comes, keys_stay, walks_stay}
use Rattle.sv_table.proofs.Keys.{key_at-is, key_at-step, kept_at, met}
use Rattle.sv_table.specs.Changes.{SameWalks}
use Rattle.sv_table.specs.Trees.{IsOpenTree, Tree}
use Rattle.sv_table.specs.Walks.{Nodes, above, child, entry_above, key_at, word_in}
use Rattle.sv_table.specs.Words.{empty_node, entry_of_node, node_in}

pub record Made (node node2 : Nodes) (place key : ℕ) : Type 0 where
  pub tree : IsOpenTree node2 key
  pub found : key_at node2 place ≡ Some key
  pub none : key_at node place ≡ None
  pub keys : (q : ℕ) → q < 262657 → q ≢ place → key_at node2 q ≡ key_at node q
  pub walks : SameWalks node node2

-- the node below an entry stands at its place
pub key_at-below : (node : Nodes) (parent place : ℕ) → 1 ≤ place → place < 262657 → key_at node (above place) ≡ Some parent → key_at node place ≡ child node parent (entry_above place)
key_at-below node parent place a b at = key_at-step node place a b ∙ ap (λ o. and_then o (λ k. child node k (entry_above place))) at

module _ (node node2 : Nodes) (parent place key : ℕ) (low : 1 ≤ place) (high : place < 262657) (small : key < 2 ^ 32)
    (none : node key ≡ None) (at : key_at node (above place) ≡ Some parent) (free : child node parent (entry_above place) ≡ None)
    (new : node2 key ≡ Some empty_node) (is : node2 parent ≡ option_map (λ words. slice_set words (entry_above place) (entry_of_node key)) (node parent))
    (others : (j : ℕ) → j ≢ key → j ≢ parent → node2 j ≡ node j) where
  pub made : IsOpenTree node parent → Made node node2 place key
  unfolding child
  made t =
      let home = t.home in
      let spot = key_at-is node home parent t.tree (above place) (omega arith) parent at in
      let placed = spot.placed in
      let inner : home parent < 513 = omega arith in
      let k = kept_at node home parent t.tree parent spot.there in
      let empty : slice_index k.0 (entry_above place) ≡ 0 =
      elim (k.2.inner inner (entry_above place) (omega arith)) [
        | inl zero ↦ zero
        | inr link ↦ absurd (
            let here : node_in (slice_index k.0 (entry_above place)) ≡ None = sym (ap (λ o. node_in (word_in o (entry_above place))) k.1) ∙ free in
            let there : node_in (slice_index k.0 (entry_above place)) ≡ Some link.key = ap node_in link.is ∙ node_in-entry link.key in
            cc)
      ] in
      let now : node2 parent ≡ Some (slice_set k.0 (entry_above place) (entry_of_node key)) = is ∙ ap (option_map (λ words. slice_set words (entry_above place) (entry_of_node key))) k.1 in
      let tree2 = grown node node2 home parent key (entry_above place) k.0 t.tree none k.1 inner (omega arith) empty small new now others in
      let same : 512 * home parent + 1 + entry_above place ≡ place = omega arith in
      let tree3 : Tree node2 (home_with home key place) key = subst (λ p. Tree node2 (home_with home key p) key) same tree2 in
      let first = key_at-below node parent place low high at ∙ free in
      record {
        tree = record { home = home_with home key place; tree = tree3 };
        found = key_comes node node2 home parent key place (slice_set k.0 (entry_above place) (entry_of_node key)) t.tree tree3 none spot.there inner new now others;
        none = first;
        keys = keys_stay node node2 home parent key place (slice_set k.0 (entry_above place) (entry_of_node key)) t.tree tree3 none spot.there inner new now others;
        walks = walks_stay node node2 home parent key place (slice_set k.0 (entry_above place) (entry_of_node key)) t.tree tree3 none spot.there inner new now others first;
      }

-- a key that had no node is another than the parent's, which stays
module _ (node mid : Nodes) (parent place key : ℕ) (high : place < 262657) (none : node key ≡ None) (at : key_at node (above place) ≡ Some parent) (tree : IsOpenTree node parent)
    (rest : (j : ℕ) → j ≢ key → mid j ≡ node j) where
  parent_apart : parent ≢ key
  parent_apart e = let t = met node parent (above place) parent tree (omega arith) at in let off = ap node e ∙ none in let f = ap is_some off in absurd (cc)

  pub parent_there : is_some (mid parent) ≡ true
  parent_there = ap is_some (rest parent parent_apart) ∙ met node parent (above place) parent tree (omega arith) at

-- in two steps: the node comes in, and then the entry
module _ (node mid node2 : Nodes) (parent place key w : ℕ) (words : List ℕ) (low : 1 ≤ place) (high : place < 262657) (small : key < 2 ^ 32)
    (none : node key ≡ None) (at : key_at node (above place) ≡ Some parent) (tree : IsOpenTree node parent)
    (empty : words ≡ empty_node) (comes : mid key ≡ Some words) (rest : (j : ℕ) → j ≢ key → mid j ≡ node j) where
  pub made_in_two : child node parent (entry_above place) ≡ None → w ≡ entry_of_node key → node2 parent ≡ option_map (λ words. slice_set words (entry_above place) w) (mid parent)
      → ((j : ℕ) → j ≢ parent → node2 j ≡ mid j) → Made node node2 place key
  made_in_two free entry set others =
      let apart : parent ≢ key = parent_apart node mid parent place key high none at tree rest in
      made node node2 parent place key low high small none at free
      (others key (λ e. apart (sym e)) ∙ comes ∙ ap Some empty)
      (set ∙ ap (λ x. option_map (λ words. slice_set words (entry_above place) x) (mid parent)) entry ∙ ap (option_map (λ words. slice_set words (entry_above place) (entry_of_node key))) (rest parent apart))
      (λ j a b. others j b ∙ rest j a)
      tree
