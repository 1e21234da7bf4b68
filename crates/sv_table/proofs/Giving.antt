-- A node given back where it has no entry.
use Rattle.std.proofs.Common.{◌≡◌, ◌≢◌, ℕ, ◌+◌, ◌*◌, ◌<◌, ◌≤◌, true, false, eqb, List, Option, None, Some, sym, ap, ◌∙◌, inl, inr, arith}
use Rattle.std.specs.Prelude.{count_by, is_some, option_map, slice_index, slice_set}
use Rattle.sv_table.proofs.Entries.{has_entry, no_entry}
use Rattle.sv_table.proofs.EntryWords.{node_in-entry, node_in-none}
use Rattle.sv_table.proofs.Keys.{key_at-is, kept_at, met}
use Rattle.sv_table.proofs.Making.{key_at-below}
use Rattle.sv_table.proofs.Opening.{closed}
use Rattle.sv_table.proofs.Shrunk.{shrunk}
use Rattle.sv_table.proofs.ShrunkEffects.{key_goes, keys_stay, walks_stay}
use Rattle.sv_table.specs.Changes.{SameWalks}
use Rattle.sv_table.specs.Trees.{IsOpenTree}
use Rattle.sv_table.specs.Walks.{Nodes, above, child, entry_above, key_at, word_in}
use Rattle.sv_table.specs.Words.{entry_of_node, is_present, node_in}

-- the entry that leads to a node is that node's
leads_nowhere : (w key : ℕ) → w ≡ 0 → node_in w ≡ Some key → {P : Type 0} → P
leads_nowhere w key e leads = let none : node_in w ≡ None = ap node_in e ∙ node_in-none in absurd (cc)

leads_there : (w link key : ℕ) → w ≡ entry_of_node link → node_in w ≡ Some key → w ≡ entry_of_node key
leads_there w link key e leads =
    let other : node_in w ≡ Some link = ap node_in e ∙ node_in-entry link in
    let same : link ≡ key = cc in
    e ∙ ap entry_of_node same

mapped : (o p : Option (List ℕ)) (words : List ℕ) (i : ℕ) → p ≡ option_map (λ words. slice_set words i 0) o → o ≡ Some words → p ≡ Some (slice_set words i 0)
mapped o p words i is at = is ∙ ap (option_map (λ words. slice_set words i 0)) at

pub record Given (node node2 : Nodes) (parent place : ℕ) : Type 0 where
  pub tree : IsOpenTree node2 parent
  pub gone : key_at node2 place ≡ None
  pub keys : (q : ℕ) → q < 262657 → q ≢ place → key_at node2 q ≡ key_at node q
  pub walks : SameWalks node node2

module _ (node node2 : Nodes) (parent place key : ℕ) (empty : List ℕ) (low : 1 ≤ place) (high : place < 262657)
    (at : key_at node place ≡ Some key) (over : key_at node (above place) ≡ Some parent)
    (was : node key ≡ Some empty) (none : eqb (count_by is_present empty) 0 ≡ true)
    (gone : node2 key ≡ None) (is : node2 parent ≡ option_map (λ words. slice_set words (entry_above place) 0) (node parent))
    (others : (j : ℕ) → j ≢ key → j ≢ parent → node2 j ≡ node j) where
  pub given : IsOpenTree node key → Given node node2 parent place
  unfolding child
  given t =
      let home = t.home in
      let spot = key_at-is node home key t.tree place high key at in
      let top = key_at-is node home key t.tree (above place) (omega arith) parent over in
      let above_placed = top.placed in
      let inner : home parent < 513 = omega arith in
      let k = kept_at node home key t.tree parent top.there in
      let below = key_at-below node parent place low high over in
      let placed : home key ≡ 512 * home parent + 1 + entry_above place = (let p = spot.placed in omega arith) in
      let leads : node_in (slice_index k.0 (entry_above place)) ≡ Some key = sym (ap (λ o. node_in (word_in o (entry_above place))) k.1) ∙ sym below ∙ at in
      let linked : slice_index k.0 (entry_above place) ≡ entry_of_node key =
      elim (k.2.inner inner (entry_above place) (omega arith)) [
        | inl zero ↦ leads_nowhere (slice_index k.0 (entry_above place)) key zero leads
        | inr link ↦ leads_there (slice_index k.0 (entry_above place)) link.key key link.is leads
      ] in
      let now = mapped (node parent) (node2 parent) k.0 (entry_above place) is k.1 in
      let off = no_entry empty (t.tree.each key empty was).long none in
      let tree2 = shrunk node node2 home parent key (entry_above place) k.0 empty t.tree was off k.1 inner (omega arith) linked placed gone now others in
      record {
        tree = record { home = home; tree = tree2 };
        gone = key_goes node node2 home parent key place empty (slice_set k.0 (entry_above place) 0) t.tree tree2 was off top.there inner spot.placed gone now others high;
        keys = keys_stay node node2 home parent key place empty (slice_set k.0 (entry_above place) 0) t.tree tree2 was off top.there inner spot.placed gone now others;
        walks = walks_stay node node2 home parent key place empty (slice_set k.0 (entry_above place) 0) t.tree tree2 was off top.there inner spot.placed gone now others at high;
      }

-- a node that is not empty stays
pub not_given : (node : Nodes) (parent key : ℕ) (words : List ℕ) → node key ≡ Some words → eqb (count_by is_present words) 0 ≡ false → IsOpenTree node key → IsOpenTree node parent
not_given node parent key words at some t = closed node key parent words at (has_entry words (t.tree.each key words at).long some) t

-- in two steps: the node goes, and then its entry
module _ (node mid : Nodes) (parent place key : ℕ) (low : 1 ≤ place) (high : place < 262657)
    (at : key_at node place ≡ Some key) (over : key_at node (above place) ≡ Some parent) (tree : IsOpenTree node key) (rest : (j : ℕ) → j ≢ key → mid j ≡ node j) where
  parent_apart : parent ≢ key
  parent_apart e =
      let spot = key_at-is node tree.home key tree.tree place high key at in
      let top = key_at-is node tree.home key tree.tree (above place) (omega arith) parent over in
      let a = spot.placed in
      let b = top.placed in
      let same = ap tree.home e in
      absurd (omega arith)

  pub parent_there : is_some (mid parent) ≡ true
  parent_there = ap is_some (rest parent parent_apart) ∙ met node key (above place) parent tree (omega arith) over

  pub given_in_two : (node2 : Nodes) (empty : List ℕ) → node key ≡ Some empty → eqb (count_by is_present empty) 0 ≡ true → mid key ≡ None
      → node2 parent ≡ option_map (λ words. slice_set words (entry_above place) 0) (mid parent) → ((j : ℕ) → j ≢ parent → node2 j ≡ mid j) → Given node node2 parent place
  given_in_two node2 empty was none gone set others =
      given node node2 parent place key empty low high at over was none
      (others key (λ e. parent_apart (sym e)) ∙ gone)
      (set ∙ ap (option_map (λ words. slice_set words (entry_above place) 0)) (rest parent parent_apart))
      (λ j a b. others j b ∙ rest j a)
      tree
