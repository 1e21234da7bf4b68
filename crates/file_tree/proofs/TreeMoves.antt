-- What a tree keeps, call by call.
use Rattle.file_model.specs.Files.{Inode, Name, empty_directory, no_node, root}
use Rattle.file_model.specs.Paths.{stands_as}
use Rattle.file_tree.proofs.IndexEdits.{index-added}
use Rattle.file_tree.proofs.Members.{no-value}
use Rattle.file_tree.proofs.Stored.{at-here, at-other}
use Rattle.file_tree.proofs.Totals.{counted, total-none, total-put}
use Rattle.file_tree.proofs.TreeKeeps.{at-changed, bytes-added, bytes-changed, index-along, index-changed, used-added, used-changed, used-raised, used-released, used-unlinked}
use Rattle.file_tree.proofs.TreeWords.{index-child}
use Rattle.file_tree.specs.Counting.{count_in, lowered, raised}
use Rattle.file_tree.specs.Index.{IsIndex, tagged}
use Rattle.file_tree.specs.Tables.{NodeTable}
use Rattle.file_tree.specs.Tags.{Tag, named_as, place, tag_cmp, tag_in}
use Rattle.file_tree.specs.Trees.{IsTree, NodesUsed, bytes_in, node_in, settled_at}
use Rattle.file_tree.specs.declared.index.Listed.{Listed}
use Rattle.mck_word.specs.Lists.{spliced}
use Rattle.mck_word.specs.MapLaws.{at-none}
use Rattle.mck_word.specs.Maps.{Map, and_then, at, change, entries, no_rows, put}
use Rattle.std.proofs.Common.{ap, arith, inl, inr, refl, subst, sym, ◌∙◌}
use Rattle.std.proofs.lemmas.Bool.{cases_eq, eq-eqb}
use Rattle.std.proofs.lemmas.List.{length-append, length-drop, length-take}
use Rattle.std.specs.List.{insert}
use Rattle.std.specs.Prelude.{Bool, List, None, Option, Some, [], drop, find, is_some, length, max, nat_lt, option_map, replicate, suc, take, true, unwrap_or, zero, ℕ, ◌++◌, ◌+◌, ◌-◌, ◌==◌, ◌^◌, ◌||◌, ◌≡◌, ◌≢◌, ◌≤◌, ◌⊎◌}

along-used : (holds others : Map ℕ) (m k : Map Inode) → others ≡ holds → k ≡ m → NodesUsed holds m → NodesUsed others k
along-used holds others m k e f h = subst (λ (others : Map ℕ). NodesUsed others k) (sym e) (subst (NodesUsed holds) (sym f) h)

-- held once more, and once less
pub tree-held : (nodes : NodeTable) (names : List Listed) (holds more : Map ℕ) (sum n : ℕ) → IsTree nodes names holds sum → more ≡ raised n holds → IsTree nodes names more sum
tree-held nodes names holds more sum n h e = record { index = h.index; bytes = h.bytes; used = along-used (raised n holds) more nodes.map nodes.map e refl (used-raised holds n nodes.map h.used); few = h.few }

pub tree-released : (nodes new : NodeTable) (names : List Listed) (holds less : Map ℕ) (sum left n : ℕ) → IsTree nodes names holds sum → less ≡ lowered n holds → new.map ≡ settled_at less n nodes.map → left ≡ bytes_in new.map
    → IsIndex new.map new.keys names → IsTree new names less left
tree-released nodes new names holds less sum left n h e map bytes index = record {
  index = index;
  bytes = bytes;
  used = subst (λ (less : Map ℕ). new.map ≡ settled_at less n nodes.map → NodesUsed less new.map) (sym e) (λ map. subst (NodesUsed (lowered n holds)) (sym map) (used-released holds n nodes.map h.used)) map;
  few = h.few;
}

-- without a name
pub bytes-unnamed : (m k : Map Inode) (n sum : ℕ) → k ≡ change m n (λ (x : Inode). record x { name = None }) → sum ≡ bytes_in m → sum ≡ bytes_in k
bytes-unnamed m k n sum e h =
    let a = bytes-changed m n (λ (x : Inode). record x { name = None }) in
    let b = ap (λ (o : Option Inode). length (unwrap_or o no_node).bytes) (at-changed m n (λ (x : Inode). record x { name = None })) in
    let d = same (at m n) in
    let c = ap bytes_in e in
    omega arith
  where
    same : (o : Option Inode) → length (unwrap_or (option_map (λ (x : Inode). record x { name = None }) o) no_node).bytes ≡ length (unwrap_or o no_node).bytes
    same None = refl
    same (Some x) = refl

pub tree-unlinked : (nodes new : NodeTable) (names : List Listed) (others : List Listed) (holds : Map ℕ) (m : Map Inode) (sum left n : ℕ) → IsTree nodes names holds sum → m ≡ change nodes.map n (λ (x : Inode). record x { name = None })
    → new.map ≡ settled_at holds n m → left ≡ bytes_in new.map → IsIndex new.map new.keys others → length others ≤ length names → IsTree new others holds left
tree-unlinked nodes new names others holds m sum left n h e map bytes index less = record {
  index = index;
  bytes = bytes;
  used = subst (NodesUsed holds) (sym (map ∙ ap (settled_at holds n) e)) (used-unlinked holds n nodes.map (λ (x : Inode). record x { name = None }) h.used);
  few = (let f = h.few in omega arith);
}

-- other bytes in a file
pub tree-written : (nodes new : NodeTable) (names : List Listed) (holds : Map ℕ) (sum n : ℕ) (f : List ℕ → List ℕ) (after : ℕ) → IsTree nodes names holds sum → new.map ≡ change nodes.map n (λ (x : Inode). record x { bytes = f x.bytes }) → new.keys ≡ nodes.keys
    → after + length (node_in nodes.map n).bytes ≡ sum + length (node_in new.map n).bytes → IsTree new names holds after
tree-written nodes new names holds sum n f after h map keys sums = record {
  index = index-along (change nodes.map n (λ (x : Inode). record x { bytes = f x.bytes })) new.map nodes.keys new.keys names names map keys refl
      (index-changed nodes.map nodes.keys names n (λ (x : Inode). record x { bytes = f x.bytes }) (λ x. refl) (λ x. refl) h.index);
  bytes = (
      let a = bytes-changed nodes.map n (λ (x : Inode). record x { bytes = f x.bytes }) in
      let b = ap bytes_in map in
      let c = ap (λ (k : Map Inode). length (node_in k n).bytes) map in
      let d = h.bytes in
      omega arith);
  used = subst (NodesUsed holds) (sym map) (used-changed holds n nodes.map (λ (x : Inode). record x { bytes = f x.bytes }) (λ x. refl) h.used);
  few = h.few;
}

-- a node that is added
pub tree-added : (nodes new : NodeTable) (names rows others : List Listed) (holds : Map ℕ) (sum after directory key i : ℕ) (name : Name) (x : Inode) → IsTree nodes names holds sum
    → at nodes.map nodes.next ≡ None → at nodes.keys nodes.next ≡ None → option_map (λ (e : ℕ × Inode). e.0) (find (λ (e : ℕ × Inode). stands_as directory name e.1) (entries nodes.map)) ≡ None
    → x.parent ≡ directory → x.name ≡ Some name → new.map ≡ put nodes.map nodes.next x → new.keys ≡ put nodes.keys nodes.next key → rows ≡ names → i ≡ place tag_cmp (directory, name) (tagged nodes.map rows)
    → others ≡ insert names i (record { node = nodes.next; key = key }) → after ≡ sum + length x.bytes → length others ≤ 2 ^ 32 → IsTree new others holds after
tree-added nodes new names rows others holds sum after directory key i name x h fresh free absent parent named map keys same is items sums few =
    let at_place = is ∙ ap (λ (rows : List Listed). place tag_cmp (directory, name) (tagged nodes.map rows)) same in
    let tag = ap (option_map {T = Name} {U = Tag} (λ (n : Name). (x.parent, n))) named ∙ ap (λ (p : ℕ). Some (p, name)) parent in
    record {
      index = index-along _ new.map _ new.keys _ others map keys (items ∙ ap (λ (j : ℕ). insert names j (record { node = nodes.next; key = key })) at_place)
          (index-added nodes.map nodes.keys names h.index nodes.next key free x (directory, name) tag (sym (index-child nodes.map nodes.keys names h.index directory name) ∙ absent));
      bytes = (
          let a = bytes-added nodes.map nodes.next x fresh in
          let b = ap bytes_in map in
          let c = h.bytes in
          omega arith);
      used = subst (NodesUsed holds) (sym map) (used-added holds nodes.next nodes.map x (ap is_some named) h.used);
      few = few;
    }

-- the root alone
pub tree-new : (nodes : NodeTable) (names : List Listed) (holds : Map ℕ) → nodes.map ≡ put no_rows root (empty_directory root None) → names ≡ [] → IsTree nodes names holds 0
tree-new nodes names holds map none =
    subst (λ (names : List Listed). IsTree nodes names holds 0) (sym none) (record {
      index = record { each = tt; rises = tt; listed = λ n tag e. no-value tag (sym e ∙ nameless n) };
      bytes = (
          let a = ap bytes_in map in
          let b = total-put (λ (x : Inode). length x.bytes) no_rows root (empty_directory root None) in
          let c = total-none (λ (x : Inode). length x.bytes) in
          let d = ap (counted (λ (x : Inode). length x.bytes)) (at-none root) in
          omega arith);
      used = λ n x e. ap (λ (b : Bool). b || is_some x.name || nat_lt 0 (count_in holds n)) (own n x e (cases_eq n root));
      few = omega arith;
    })
  where
    at_root : (n : ℕ) → (n ≡ root) ⊎ (n ≢ root) → and_then (at (put no_rows root (empty_directory root None)) n) named_as ≡ None
    at_root n (inl s) = ap (λ o. and_then o named_as) (at-here no_rows root n (empty_directory root None) s)
    at_root n (inr apart) = ap (λ o. and_then o named_as) (at-other no_rows root n (empty_directory root None) apart ∙ at-none n)

    nameless : (n : ℕ) → tag_in nodes.map n ≡ None
    nameless n = ap (λ (m : Map Inode). tag_in m n) map ∙ at_root n (cases_eq n root)

    own : (n : ℕ) (x : Inode) → at nodes.map n ≡ Some x → (n ≡ root) ⊎ (n ≢ root) → (n == root) ≡ true
    own n x e (inl s) = eq-eqb n root s
    own n x e (inr apart) = no-value x (sym e ∙ ap (λ (m : Map Inode). at m n) map ∙ at-other no_rows root n (empty_directory root None) apart ∙ at-none n)

-- ---- how long bytes are

length-zeros : (k : ℕ) → length {A = ℕ} (replicate k 0) ≡ k
length-zeros zero = refl
length-zeros (suc k) = ap suc (length-zeros k)

length-spliced : (bs : List ℕ) (o : ℕ) (new : List ℕ) → length (spliced bs o new) ≡ max (length bs) (o + length new)
length-spliced bs o new =
    let a = length-append (take o bs ++ replicate (o - length bs) 0 ++ new) (drop (o + length new) bs) in
    let b = length-append (take o bs ++ replicate (o - length bs) 0) new in
    let c = length-append (take o bs) (replicate (o - length bs) 0) in
    let d = length-take o bs in
    let e = length-zeros (o - length bs) in
    let f = length-drop (o + length new) bs in
    omega arith

-- a file that is written is at most as long as it was or as what was written reaches
pub written-most : (m k : Map Inode) (n o : ℕ) (new : List ℕ) → k ≡ change m n (λ (x : Inode). record x { bytes = spliced x.bytes o new }) → length (node_in k n).bytes ≤ max (length (node_in m n).bytes) (o + length new)
written-most m k n o new e =
    let a = ap (λ (k : Map Inode). length (node_in k n).bytes) e in
    let b = ap (λ (o : Option Inode). length (unwrap_or o no_node).bytes) (at-changed m n (λ (x : Inode). record x { bytes = spliced x.bytes o new })) in
    let c = most (at m n) in
    omega arith
  where
    most : (p : Option Inode) → length (unwrap_or (option_map (λ (x : Inode). record x { bytes = spliced x.bytes o new }) p) no_node).bytes ≤ max (length (unwrap_or p no_node).bytes) (o + length new)
    most None = omega arith
    most (Some x) = let is = length-spliced x.bytes o new in omega arith

-- a file that is cut has no bytes
pub cut-none : (m k : Map Inode) (n : ℕ) → k ≡ change m n (λ (x : Inode). record x { bytes = [] }) → length (node_in k n).bytes ≡ 0
cut-none m k n e =
    ap (λ (k : Map Inode). length (node_in k n).bytes) e ∙ ap (λ (o : Option Inode). length (unwrap_or o no_node).bytes) (at-changed m n (λ (x : Inode). record x { bytes = [] })) ∙ none (at m n)
  where
    none : (p : Option Inode) → length (unwrap_or (option_map (λ (x : Inode). record x { bytes = [] }) p) no_node).bytes ≡ 0
    none None = refl
    none (Some x) = refl
