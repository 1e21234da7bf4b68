-- Which node of a table may be without an entry.
use Rattle.std.proofs.Common.{◌≡◌, ◌≢◌, ℕ, ◌<◌, true, cond, List, None, Some, sym, ap, subst, ◌∙◌, inl, inr, ◌/◌}
use Rattle.std.proofs.lemmas.Bool.{cases_Bool, cases_eq}
use Rattle.std.specs.Prelude.{slice_index}
use Rattle.sv_table.proofs.Keys.{kept_at, key_at-is}
use Rattle.sv_table.specs.Trees.{IsOpenTree, Kept}
use Rattle.sv_table.specs.Walks.{Nodes, child, key_at, word_in}
use Rattle.sv_table.specs.Words.{HasEntry, is_present, node_in}

-- a node with an entry need not be let open
pub closed : (node : Nodes) (key other : ℕ) (words : List ℕ) → node key ≡ Some words → HasEntry words → IsOpenTree node key → IsOpenTree node other
closed node key other words at full t =
    record {
      home = t.home;
      tree = record {
        root = t.tree.root;
        top = t.tree.top;
        each = λ j ws e.
            let k = t.tree.each j ws e in
            record {
              small = k.small;
              placed = k.placed;
              long = k.long;
              inner = k.inner;
              outer = k.outer;
              up = k.up;
              full = λ a b. by_key j ws e k a;
            };
      };
    }
  where
    by_key : (j : ℕ) (ws : List ℕ) → node j ≡ Some ws → Kept node t.home key j ws → j ≢ 0 → HasEntry ws
    by_key j ws e k a = elim (cases_eq j key) [
      | inl same ↦ let both : words ≡ ws = (let here = ap node same in cc) in subst HasEntry both full
      | inr other ↦ k.full a other
    ]

-- any node may be let open
pub opened : (node : Nodes) (key : ℕ) → IsOpenTree node 0 → IsOpenTree node key
opened node key t =
    record {
      home = t.home;
      tree = record {
        root = t.tree.root;
        top = t.tree.top;
        each = λ j ws e.
            let k = t.tree.each j ws e in
            record {
              small = k.small;
              placed = k.placed;
              long = k.long;
              inner = k.inner;
              outer = k.outer;
              up = k.up;
              full = λ a b. k.full a a;
            };
      };
    }

node_in-some : (w key : ℕ) → node_in w ≡ Some key → is_present w ≡ true
unfolding node_in
node_in-some w key e = elim (cases_Bool (is_present w)) [
  | inl on ↦ on
  | inr off ↦ absurd (let none : node_in w ≡ None = ap (λ b. cond b (Some (w / 1024)) None) off in cc)
]

-- a node that leads to another has an entry
pub leads : (node : Nodes) (parent key place i : ℕ) → place < 262657 → i < 512 → key_at node place ≡ Some parent → child node parent i ≡ Some key → IsOpenTree node parent → IsOpenTree node key
unfolding child
leads node parent key place i l m at e t =
    let spot = key_at-is node t.home parent t.tree place l parent at in
    let k = kept_at node t.home parent t.tree parent spot.there in
    let here : is_present (slice_index k.0 i) ≡ true = node_in-some (slice_index k.0 i) key (sym (ap (λ o. node_in (word_in o i)) k.1) ∙ e) in
    closed node parent key k.0 k.1 (i, m, here) t
