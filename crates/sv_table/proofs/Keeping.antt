-- What stays of a node where nodes elsewhere change.
use Rattle.std.proofs.Common.{◌≡◌, ◌≢◌, ℕ, ◌+◌, ◌*◌, ◌<◌, true, List, refl, subst, ◌∙◌, inl, inr, arith}
use Rattle.std.specs.Prelude.{is_some, slice_index}
use Rattle.sv_table.specs.Trees.{Above, Kept, Link}
use Rattle.sv_table.specs.Walks.{Nodes, word}
use Rattle.sv_table.specs.Words.{HasEntry, entry_of_node}

-- the nodes that stay keep their homes and the links between them
pub record Keeps (node node2 : Nodes) (home home2 : ℕ → ℕ) (Stays : ℕ → Type 0) : Type 0 where
  pub nodes : (j : ℕ) → Stays j → is_some (node j) ≡ true → is_some (node2 j) ≡ true
  pub homes : (j : ℕ) → Stays j → is_some (node j) ≡ true → home2 j ≡ home j
  pub links : (p i key : ℕ) → Stays p → is_some (node p) ≡ true → home p < 513 → i < 512 → Stays key → word node p i ≡ entry_of_node key → word node2 p i ≡ entry_of_node key

module _ (node node2 : Nodes) (home home2 : ℕ → ℕ) (Stays : ℕ → Type 0) (keeps : Keeps node node2 home home2 Stays) where
  pub link-kept : (place w : ℕ) (l : Link node home place w) → Stays l.key → Link node2 home2 place w
  link-kept place w l s = record { key = l.key; is = l.is; there = keeps.nodes l.key s l.there; placed = keeps.homes l.key s l.there ∙ l.placed }

  pub above-kept : (key : ℕ) → Stays key → is_some (node key) ≡ true → (a : Above node home key) → Stays a.parent → Above node2 home2 key
  above-kept key s h a t =
      let same : home2 a.parent ≡ home a.parent = keeps.homes a.parent t a.there in
      let placed = a.placed in
      let own : home2 key ≡ home key = keeps.homes key s h in
      let inner = a.inner in
      record {
        parent = a.parent;
        index = a.index;
        below = a.below;
        inner = omega arith;
        there = keeps.nodes a.parent t a.there;
        placed = omega arith;
        linked = keeps.links a.parent a.index key t a.there a.inner a.below s a.linked;
      }

  -- a node whose words stay keeps all, where the nodes that it leads to and the one above it stay
  pub kept-kept : (open_key open_key2 key : ℕ) (words : List ℕ) → Stays key → is_some (node key) ≡ true → Kept node home open_key key words
      → ((place w : ℕ) (l : Link node home place w) → (i : ℕ) → i < 512 → w ≡ slice_index words i → place ≡ 512 * home key + 1 + i → Stays l.key)
      → ((a : Above node home key) → Stays a.parent)
      → (key ≢ 0 → key ≢ open_key2 → HasEntry words)
      → Kept node2 home2 open_key2 key words
  kept-kept open_key open_key2 key words s h k below over full =
      let own : home2 key ≡ home key = keeps.homes key s h in
      let placed = k.placed in
      record {
        small = k.small;
        placed = omega arith;
        long = k.long;
        inner = λ low i l. elim (k.inner (omega arith) i l) [
          | inl zero ↦ inl zero
          | inr link ↦
              let same : 512 * home key + 1 + i ≡ 512 * home2 key + 1 + i = omega arith in
              inr (subst (λ p. Link node2 home2 p (slice_index words i)) same (link-kept (512 * home key + 1 + i) (slice_index words i) link (below (512 * home key + 1 + i) (slice_index words i) link i l refl refl)))
        ];
        outer = λ high i l. k.outer (omega arith) i l;
        up = λ o. let a = k.up o in above-kept key s h a (over a);
        full = full;
      }
