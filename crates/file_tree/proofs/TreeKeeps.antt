-- What a tree keeps while its nodes change.
use Rattle.file_model.specs.Files.{Inode, Name, no_node, root}
use Rattle.file_tree.proofs.IndexEdits.{index-kept, index-removed, index-unlinked}
use Rattle.file_tree.proofs.Indexed.{length-tagged}
use Rattle.file_tree.proofs.Members.{no-value, value-same}
use Rattle.file_tree.proofs.Named.{named-is, unnamed}
use Rattle.file_tree.proofs.Placed.{found-at}
use Rattle.file_tree.proofs.Stored.{at-here, at-other, change-absent, change-same, change-there}
use Rattle.file_tree.proofs.TagOrder.{tag_same, tag_total}
use Rattle.file_tree.proofs.Totals.{counted, total-cut, total-put}
use Rattle.file_tree.specs.CountLaws.{count-lowered, count-raised, one_at}
use Rattle.file_tree.specs.Counting.{count_in, lowered, raised}
use Rattle.file_tree.specs.Index.{IsIndex, tagged}
use Rattle.file_tree.specs.Tags.{Tag, named_as, place, tag_at, tag_cmp, tag_in, tag_of}
use Rattle.file_tree.specs.Trees.{NodesUsed, bytes_in, node_in, settled_at, used_by, used_row}
use Rattle.file_tree.specs.declared.index.Listed.{Listed}
use Rattle.mck_word.specs.MapLaws.{at-cut}
use Rattle.mck_word.specs.Maps.{Map, and_then, at, change, cut, put}
use Rattle.std.proofs.Common.{ap, arith, inl, inr, refl, subst, sym, ◌∙◌}
use Rattle.std.proofs.lemmas.Bool.Decides.{nat_tests}
use Rattle.std.proofs.lemmas.Bool.{cases_eq, true≢false}
use Rattle.std.specs.List.{remove}
use Rattle.std.specs.Prelude.{Bool, List, None, Option, Some, T, cond, false, is_some, length, nat_lt, option_map, true, unwrap_or, ℕ, ◌+◌, ◌<◌, ◌==◌, ◌||◌, ◌≡◌, ◌≢◌, ◌≤◌, ◌⊎◌}

-- ---- which nodes live

no-name : Inode → Inode
no-name x = record x { name = None }

at-change : (m : Map Inode) (n q : ℕ) (f : Inode → Inode) → q ≢ n → at (change m n f) q ≡ at m q
at-change m n q f apart = go (at m n) refl
  where
    go : (o : Option Inode) → at m n ≡ o → at (change m n f) q ≡ at m q
    go None e = ap (λ (k : Map Inode). at k q) (change-absent m n f e)
    go (Some x) e = ap (λ (k : Map Inode). at k q) (change-there m n f x e) ∙ at-other m n q (f x) apart

pub at-changed : (m : Map Inode) (n : ℕ) (f : Inode → Inode) → at (change m n f) n ≡ option_map f (at m n)
at-changed m n f = go (at m n) refl
  where
    go : (o : Option Inode) → at m n ≡ o → at (change m n f) n ≡ option_map f o
    go None e = ap (λ (k : Map Inode). at k n) (change-absent m n f e) ∙ e
    go (Some x) e = ap (λ (k : Map Inode). at k n) (change-there m n f x e) ∙ at-here m n n (f x) refl

-- a node lives on where its name and its holds are as before
pub used-settled : (holds : Map ℕ) (n : ℕ) (m : Map Inode) → ((q : ℕ) (x : Inode) → q ≢ n → at m q ≡ Some x → used_by holds q x ≡ true) → NodesUsed holds (settled_at holds n m)
used-settled holds n m h = λ q x e. go (at m n) refl (used_row holds n (at m n)) refl q x e
  where
    own : (q : ℕ) (x : Inode) → used_row holds n (at m n) ≡ true → at m q ≡ Some x → (q ≡ n) ⊎ (q ≢ n) → used_by holds q x ≡ true
    own q x u e (inl same) = ap (λ (j : ℕ). used_by holds j x) same ∙ ap (used_row holds n) (sym e ∙ ap (at m) same) ∙ u
    own q x u e (inr apart) = h q x apart e

    left : (q : ℕ) (x : Inode) → at (cut m n) q ≡ Some x → (b : Bool) → (q == n) ≡ b → used_by holds q x ≡ true
    left q x e true f = no-value x (sym (sym (at-cut m n q ∙ ap (λ b. cond b None (at m q)) f) ∙ e))
    left q x e false f = h q x (let apart : q ≢ n = grind (arith, nat_tests, f) in apart) (sym (at-cut m n q ∙ ap (λ b. cond b None (at m q)) f) ∙ e)

    go : (o : Option Inode) → at m n ≡ o → (b : Bool) → used_row holds n (at m n) ≡ b → (q : ℕ) (x : Inode) → at (cond b m (cut m n)) q ≡ Some x → used_by holds q x ≡ true
    go o p true u q x e = own q x u e (cases_eq q n)
    go o p false u q x e = left q x e (q == n) refl

more-used : (holds more : Map ℕ) (q : ℕ) (x : Inode) → count_in holds q ≤ count_in more q → used_by holds q x ≡ true → used_by more q x ≡ true
more-used holds more q x l = go (q == root || is_some x.name)
  where
    up : (a b : ℕ) → a ≤ b → nat_lt 0 a ≡ true → nat_lt 0 b ≡ true
    up a b l h = grind (arith, nat_tests, l, h)

    go : (b : Bool) → (b || nat_lt 0 (count_in holds q)) ≡ true → (b || nat_lt 0 (count_in more q)) ≡ true
    go true h = refl
    go false h = up (count_in holds q) (count_in more q) l h

pub used-raised : (holds : Map ℕ) (n : ℕ) (m : Map Inode) → NodesUsed holds m → NodesUsed (raised n holds) m
used-raised holds n m h = λ q x e. more-used holds (raised n holds) q x (let is = count-raised n holds q in omega arith) (h q x e)

pub used-released : (holds : Map ℕ) (n : ℕ) (m : Map Inode) → NodesUsed holds m → NodesUsed (lowered n holds) (settled_at (lowered n holds) n m)
used-released holds n m h =
    used-settled (lowered n holds) n m (λ q x apart e. (
    let is = count-lowered n holds q in
    let none : one_at n q ≡ 0 = (let b : (q == n) ≡ false = grind (arith, nat_tests, apart) in ap (λ (b : Bool). cond b 1 0) b) in
    more-used holds (lowered n holds) q x (omega arith) (h q x e)))

pub used-unlinked : (holds : Map ℕ) (n : ℕ) (m : Map Inode) (f : Inode → Inode) → NodesUsed holds m → NodesUsed holds (settled_at holds n (change m n f))
used-unlinked holds n m f h = used-settled holds n (change m n f) (λ q x apart e. h q x (sym (at-change m n q f apart) ∙ e))

pub used-changed : (holds : Map ℕ) (n : ℕ) (m : Map Inode) (f : Inode → Inode) → ((x : Inode) → (f x).name ≡ x.name) → NodesUsed holds m → NodesUsed holds (change m n f)
used-changed holds n m f same h = λ q x e. go q x e (cases_eq q n)
  where
    renamed : (x y : Inode) → f y ≡ x → at m n ≡ Some y → used_by holds n x ≡ true
    renamed x y e a = ap (λ (o : Option Name). n == root || is_some o || nat_lt 0 (count_in holds n)) (ap (λ (z : Inode). z.name) (sym e) ∙ same y) ∙ h n y a

    there : (x : Inode) (o : Option Inode) → at m n ≡ o → option_map f o ≡ Some x → used_by holds n x ≡ true
    there x None a e = no-value x (sym e)
    there x (Some y) a e = renamed x y (value-same (f y) x e) a

    go : (q : ℕ) (x : Inode) → at (change m n f) q ≡ Some x → (q ≡ n) ⊎ (q ≢ n) → used_by holds q x ≡ true
    go q x e (inl s) = ap (λ (j : ℕ). used_by holds j x) s ∙ there x (at m n) refl (sym (at-changed m n f) ∙ ap (at (change m n f)) (sym s) ∙ e)
    go q x e (inr apart) = h q x (sym (at-change m n q f apart) ∙ e)

pub used-added : (holds : Map ℕ) (n : ℕ) (m : Map Inode) (x : Inode) → is_some x.name ≡ true → NodesUsed holds m → NodesUsed holds (put m n x)
used-added holds n m x named h = λ q y e. go q y e (cases_eq q n)
  where
    either : (a b : Bool) → (a || true || b) ≡ true
    either true b = refl
    either false b = refl

    go : (q : ℕ) (y : Inode) → at (put m n x) q ≡ Some y → (q ≡ n) ⊎ (q ≢ n) → used_by holds q y ≡ true
    go q y e (inl s) =
        let is = value-same x y (sym (at-here m n q x s) ∙ e) in
        ap (λ (b : Bool). q == root || b || nat_lt 0 (count_in holds q)) (ap (λ (z : Inode). is_some z.name) (sym is) ∙ named) ∙ either (q == root) (nat_lt 0 (count_in holds q))
    go q y e (inr apart) = h q y (sym (at-other m n q x apart) ∙ e)

-- ---- the bytes of all files

bytes : Inode → ℕ
bytes x = length x.bytes

pub bytes-changed : (m : Map Inode) (n : ℕ) (f : Inode → Inode) → bytes_in (change m n f) + length (node_in m n).bytes ≡ bytes_in m + length (node_in (change m n f) n).bytes
bytes-changed m n f = go (at m n) refl
  where
    go : (o : Option Inode) → at m n ≡ o → bytes_in (change m n f) + length (node_in m n).bytes ≡ bytes_in m + length (node_in (change m n f) n).bytes
    go None e =
        let same = change-absent m n f e in
        let a = ap bytes_in same in
        let b = ap (λ (k : Map Inode). length (node_in k n).bytes) same in
        omega arith
    go (Some x) e =
        let put_is = total-put (λ (x : Inode). length x.bytes) m n (f x) in
        let before = ap (counted (λ (x : Inode). length x.bytes)) e in
        let was = ap (λ (o : Option Inode). length (unwrap_or o no_node).bytes) e in
        let changed = ap bytes_in (change-there m n f x e) in
        let now = ap (λ (o : Option Inode). length (unwrap_or o no_node).bytes) (ap (λ (k : Map Inode). at k n) (change-there m n f x e) ∙ at-here m n n (f x) refl) in
        omega arith

pub bytes-cut : (m : Map Inode) (n : ℕ) → bytes_in (cut m n) + length (node_in m n).bytes ≡ bytes_in m
bytes-cut m n = go (at m n) refl (total-cut (λ (x : Inode). length x.bytes) m n)
  where
    go : (o : Option Inode) → at m n ≡ o → bytes_in (cut m n) + counted (λ (x : Inode). length x.bytes) (at m n) ≡ bytes_in m → bytes_in (cut m n) + length (node_in m n).bytes ≡ bytes_in m
    go None e h = let a = ap (counted (λ (x : Inode). length x.bytes)) e in let b = ap (λ (o : Option Inode). length (unwrap_or o no_node).bytes) e in omega arith
    go (Some x) e h = let a = ap (counted (λ (x : Inode). length x.bytes)) e in let b = ap (λ (o : Option Inode). length (unwrap_or o no_node).bytes) e in omega arith

pub bytes-most : (m : Map Inode) (n : ℕ) → length (node_in m n).bytes ≤ bytes_in m
bytes-most m n = let c = bytes-cut m n in omega arith

pub bytes-added : (m : Map Inode) (n : ℕ) (x : Inode) → at m n ≡ None → bytes_in (put m n x) ≡ bytes_in m + length x.bytes
bytes-added m n x none = let a = total-put (λ (x : Inode). length x.bytes) m n x in let b = ap (counted (λ (x : Inode). length x.bytes)) none in omega arith

-- ---- the index of names

pub index-changed : (m : Map Inode) (keys : Map ℕ) (rows : List Listed) (n : ℕ) (f : Inode → Inode) → ((x : Inode) → named_as (f x) ≡ named_as x) → ((x : Inode) → tag_of (f x) ≡ tag_of x) → IsIndex m keys rows → IsIndex (change m n f) keys rows
index-changed m keys rows n f names tags h = index-kept m (change m n f) keys rows (λ q. name_at q (cases_eq q n)) (λ q. tag_there q (cases_eq q n)) h
  where
    mapped : (o : Option Inode) → and_then (option_map f o) named_as ≡ and_then o named_as
    mapped None = refl
    mapped (Some x) = names x

    shown : (o : Option Inode) → tag_of (unwrap_or (option_map f o) no_node) ≡ tag_of (unwrap_or o no_node)
    shown None = refl
    shown (Some x) = tags x

    name_at : (q : ℕ) → (q ≡ n) ⊎ (q ≢ n) → tag_in (change m n f) q ≡ tag_in m q
    name_at q (inl s) = ap (tag_in (change m n f)) s ∙ ap (λ o. and_then o named_as) (at-changed m n f) ∙ mapped (at m n) ∙ ap (tag_in m) (sym s)
    name_at q (inr apart) = ap (λ o. and_then o named_as) (at-change m n q f apart)

    tag_there : (q : ℕ) → (q ≡ n) ⊎ (q ≢ n) → tag_at (change m n f) q ≡ tag_at m q
    tag_there q (inl s) = ap (tag_at (change m n f)) s ∙ ap (λ o. tag_of (unwrap_or o no_node)) (at-changed m n f) ∙ shown (at m n) ∙ ap (tag_at m) (sym s)
    tag_there q (inr apart) = ap (λ o. tag_of (unwrap_or o no_node)) (at-change m n q f apart)

-- a node that doesn't live has no name
pub index-settled : (m : Map Inode) (keys : Map ℕ) (rows : List Listed) (holds : Map ℕ) (n : ℕ) → used_row holds n (at m n) ≡ false → IsIndex m keys rows → IsIndex (cut m n) (cut keys n) rows
index-settled m keys rows holds n unused h = index-removed m keys rows h n (go (at m n) unused)
  where
    both : (a b c : Bool) → (a || b || c) ≡ false → b ≡ false
    both true b c e = absurd (true≢false e)
    both false true c e = absurd (true≢false e)
    both false false c e = refl

    nameless : (x : Inode) (o : Option Name) → x.name ≡ o → is_some o ≡ false → named_as x ≡ None
    nameless x None e f = unnamed x e
    nameless x (Some name) e f = absurd (true≢false f)

    go : (o : Option Inode) → used_row holds n o ≡ false → and_then o named_as ≡ None
    go None e = refl
    go (Some x) e = nameless x x.name refl (both (n == root) (is_some x.name) (nat_lt 0 (count_in holds n)) e)

-- a node with a name loses it
pub index-unnamed : (m : Map Inode) (keys : Map ℕ) (rows : List Listed) (n i : ℕ) → Some i ≡ option_map (λ (t : Tag). place tag_cmp t (tagged m rows)) (tag_in m n) → IsIndex m keys rows
    → IsIndex (change m n (λ (x : Inode). record x { name = None })) keys (remove rows i)
index-unnamed m keys rows n i is h = go (at m n) refl (tag_in m n) refl is
  where
    go : (o : Option Inode) → at m n ≡ o → (p : Option Tag) → tag_in m n ≡ p → Some i ≡ option_map (λ (t : Tag). place tag_cmp t (tagged m rows)) p → IsIndex (change m n (λ (x : Inode). record x { name = None })) keys (remove rows i)
    go o e None f g = no-value i g
    go None e (Some t) f g = no-value t (sym (sym (ap (λ o. and_then o named_as) e) ∙ f))
    go (Some x) e (Some t) f g =
        subst (λ (k : Map Inode). IsIndex k keys (remove rows i)) (sym (change-there m n (λ (x : Inode). record x { name = None }) x e))
        (subst (λ (j : ℕ). IsIndex (put m n (record x { name = None })) keys (remove rows j)) (sym (value-same i (place tag_cmp t (tagged m rows)) g)) (index-unlinked m keys rows h n t f (record x { name = None }) refl))

-- a node without a name stays as it is
pub unnamed-same : (m : Map Inode) (keys : Map ℕ) (rows : List Listed) (n : ℕ) → None ≡ option_map (λ (t : Tag). place tag_cmp t (tagged m rows)) (tag_in m n) → m ≡ change m n (λ (x : Inode). record x { name = None })
unnamed-same m keys rows n is = sym (change-same m n (λ (x : Inode). record x { name = None }) (λ x e. go x x.name refl e (tag_in m n) refl is))
  where
    go : (x : Inode) (o : Option Name) → x.name ≡ o → at m n ≡ Some x → (p : Option Tag) → tag_in m n ≡ p → None ≡ option_map (λ (t : Tag). place tag_cmp t (tagged m rows)) p → record x { name = None } ≡ x
    go x None f e p g h = λ i. record x { name = sym f i }
    go x (Some name) f e None g h = no-value (x.parent, name) (sym (named-is x name f) ∙ sym (ap (λ o. and_then o named_as) e) ∙ g)
    go x (Some name) f e (Some t) g h = no-value (place tag_cmp t (tagged m rows)) (sym h)

-- the place of a node with a name is one of the index
pub listed-within : (m : Map Inode) (keys : Map ℕ) (rows : List Listed) (n i : ℕ) → Some i ≡ option_map (λ (t : Tag). place tag_cmp t (tagged m rows)) (tag_in m n) → IsIndex m keys rows → i < length rows
listed-within m keys rows n i is h = go (tag_in m n) refl is
  where
    go : (p : Option Tag) → tag_in m n ≡ p → Some i ≡ option_map (λ (t : Tag). place tag_cmp t (tagged m rows)) p → i < length rows
    go None f g = no-value i g
    go (Some t) f g =
        let there = found-at tag_cmp tag_total tag_same t (tagged m rows) h.rises (subst (λ o. T (is_some o)) (sym (h.listed n t f)) tt) in
        let long = length-tagged m rows in
        let same = value-same i (place tag_cmp t (tagged m rows)) g in
        omega arith

pub index-along : (m k : Map Inode) (keys others : Map ℕ) (rows items : List Listed) → k ≡ m → others ≡ keys → items ≡ rows → IsIndex m keys rows → IsIndex k others items
index-along m k keys others rows items e f g h =
    subst (λ (k : Map Inode). IsIndex k others items) (sym e) (subst (λ (others : Map ℕ). IsIndex m others items) (sym f) (subst (λ (items : List Listed). IsIndex m keys items) (sym g) h))
