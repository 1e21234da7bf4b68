-- What a change of one node, a new node and a removal make of the nodes that are shown.
use Rattle.file_model.specs.Files.{Inode}
use Rattle.file_tree.proofs.Stored.{at-here, change-absent, change-same, change-there, row-there, shown-added, shown-at, shown-changed, shown-removed, some-none, stored-added, stored-changed, stored-removed}
use Rattle.file_tree.specs.CountLaws.{cut-absent}
use Rattle.file_tree.specs.Shown.{AreStored, no_row, row_at, shown}
use Rattle.file_tree.specs.Tables.{NodeRow, most_numbers}
use Rattle.mck_word.specs.EachLaws.{each-none}
use Rattle.mck_word.specs.MapLaws.{at-none}
use Rattle.mck_word.specs.Maps.{Map, at, change, cut, no_rows, put}
use Rattle.slab.proofs.SlabLemmas.{Updates-with_value}
use Rattle.slab.specs.Slab.{ContainsKey, Slab, Updates, get, with_value}
use Rattle.std.proofs.Common.{ap, arith, refl, subst, sym, ◌∙◌}
use Rattle.std.specs.Prelude.{IfSome, ◌+◌, IsSome, None, OnOk, Option, Result, Some, is_some, unwrap_or, ℕ, ◌<◌, ◌≡◌, ◌≤◌}

abbrev pub inode : NodeRow → Inode
inode r = r.inode

abbrev pub room : NodeRow → ℕ
room r = r.room

is-there : {V : Type 0} (o : Option V) (v : V) → o ≡ Some v → IsSome o
is-there o v e = ap is_some e

pub none-if : (m : Map ℕ) (n end : ℕ) → at m n ≡ None → IfSome (at m n) (λ most. end ≤ most)
none-if m n end e = subst (λ o. IfSome o (λ most. end ≤ most)) (sym e) tt

module _ (slab : Slab NodeRow) (keys : Map ℕ) (next n : ℕ) (h : AreStored slab keys next) where
  pub contains : (key : ℕ) → at keys n ≡ Some key → ContainsKey slab key
  contains key e = is-there (get slab key) (row_at slab key) (row-there slab keys next n key h e)

  row-is : (key : ℕ) (r : NodeRow) → get slab key ≡ Some r → row_at slab key ≡ r
  row-is key r e = ap (λ (o : Option NodeRow). unwrap_or o no_row) e

  -- where there is no key, there is nothing to change
  pub absent : {W : Type 0} (f : NodeRow → W) (m : Map W) → shown f slab keys ≡ m → at keys n ≡ None → at m n ≡ None
  absent f m is e = sym (ap (λ m. at m n) is) ∙ shown-at f slab keys next n None h e

  pub absent-change : (m : Map Inode) (f : Inode → Inode) → shown inode slab keys ≡ m → at keys n ≡ None → m ≡ change m n f
  absent-change m f is e = sym (change-absent m n f (absent inode m is e))

  pub absent-cut : (m : Map Inode) → shown inode slab keys ≡ m → at keys n ≡ None → m ≡ cut m n
  absent-cut m is e = sym (cut-absent m n (absent inode m is e))

  module _ (key : ℕ) (e : at keys n ≡ Some key) (r new : NodeRow) (there : get slab key ≡ Some r) where
    updated : Updates slab (with_value slab key new) key (Some new)
    updated = Updates-with_value slab key new (is-there (get slab key) r there)

    -- a node changed where it stands
    pub changed-stored : new.number ≡ r.number → AreStored (with_value slab key new) keys next
    changed-stored number = stored-changed slab (with_value slab key new) keys next n key h new e (number ∙ ap (λ (x : NodeRow). x.number) (sym (row-is key r there))) updated

    pub changed-shown : {W : Type 0} (f : NodeRow → W) (m : Map W) → shown f slab keys ≡ m → shown f (with_value slab key new) keys ≡ put m n (f new)
    changed-shown f m is = shown-changed f slab (with_value slab key new) keys next n key h new e updated ∙ ap (λ m. put m n (f new)) is

    at-shown : {W : Type 0} (f : NodeRow → W) (m : Map W) → shown f slab keys ≡ m → at m n ≡ Some (f r)
    at-shown f m is = sym (ap (λ m. at m n) is) ∙ shown-at f slab keys next n (Some key) h e ∙ ap (λ x. Some (f x)) (row-is key r there)

    pub changed-map : (f : Inode → Inode) (m : Map Inode) → shown inode slab keys ≡ m → new.inode ≡ f r.inode → shown inode (with_value slab key new) keys ≡ change m n f
    changed-map f m is same = changed-shown inode m is ∙ ap (put m n) same ∙ sym (change-there m n f r.inode (at-shown inode m is))

    -- a node of which the shown part is the same
    pub kept-map : (m : Map Inode) → shown inode slab keys ≡ m → new.inode ≡ r.inode → shown inode (with_value slab key new) keys ≡ m
    kept-map m is same = changed-map (λ x. x) m is same ∙ change-same m n (λ x. x) (λ v _. refl)

    -- room that was made
    pub room-made : {R : Type 0} {E : Type 0} (result : Result R E) (end : ℕ) → OnOk result (end ≤ new.room) → OnOk result (IfSome (at (shown room (with_value slab key new) keys) n) (λ most. end ≤ most))
    room-made result end l =
        let here = ap (λ m. at m n) (changed-shown room (shown room slab keys) refl) ∙ at-here (shown room slab keys) n n room_now refl in
        subst (λ o. OnOk result (IfSome o (λ most. end ≤ most))) (sym here) l
      where
        room_now : ℕ
        room_now = new.room

    pub room-there : (m : Map ℕ) (end : ℕ) → shown room slab keys ≡ m → IfSome (at m n) (λ most. end ≤ most) → end ≤ r.room
    room-there m end is l = subst (λ o. IfSome o (λ most. end ≤ most)) (at-shown room m is) l

-- a new node under a new number
module _ (slab new : Slab NodeRow) (keys : Map ℕ) (next key : ℕ) (h : AreStored slab keys next) where
  pub next-free : at keys next ≡ None
  next-free = go (at keys next) refl
    where
      go : (o : Option ℕ) → at keys next ≡ o → o ≡ None
      go None e = refl
      go (Some k) e = absurd (omega (arith, h.below next k e))

  pub added-map : (r : NodeRow) (m : Map Inode) (rows : Map ℕ) → get slab key ≡ None → Updates slab new key (Some r) → rows ≡ put keys next key → shown inode slab keys ≡ m → shown inode new rows ≡ put m next r.inode
  added-map r m rows none u are is = ap (shown inode new) are ∙ shown-added inode slab new keys next next key h r none u ∙ ap (λ m. put m next r.inode) is

  pub added-stored : (r : NodeRow) (rows : Map ℕ) → r.number ≡ next → next < most_numbers → get slab key ≡ None → Updates slab new key (Some r) → rows ≡ put keys next key → AreStored new rows (next + 1)
  added-stored r rows number l none u are = subst (λ (rows : Map ℕ). AreStored new rows (next + 1)) (sym are) (stored-added slab new keys next next key h r refl number l none u)

-- a node that is taken out
module _ (slab new : Slab NodeRow) (keys : Map ℕ) (next n key : ℕ) (h : AreStored slab keys next) (e : at keys n ≡ Some key) (u : Updates slab new key None) (rows : Map ℕ) (are : rows ≡ cut keys n) where
  pub removed-map : (m : Map Inode) → shown inode slab keys ≡ m → shown inode new rows ≡ cut m n
  removed-map m is = ap (shown inode new) are ∙ shown-removed inode slab new keys next n key h e u ∙ ap (λ m. cut m n) is

  pub removed-stored : AreStored new rows next
  removed-stored = subst (λ (rows : Map ℕ). AreStored new rows next) (sym are) (stored-removed slab new keys next n key h e u)

-- no nodes
pub none-stored : (slab : Slab NodeRow) (rows : Map ℕ) → rows ≡ no_rows → AreStored slab rows 1
none-stored slab rows are = record { stored = λ n key e. gone n key e; below = λ n key e. gone n key e; most = omega arith }
  where
    gone : {A : Type 0} (n key : ℕ) → at rows n ≡ Some key → A
    gone n key e = some-none key (sym e ∙ ap (λ (m : Map ℕ). at m n) are ∙ at-none n)

pub none-shown : (slab : Slab NodeRow) (rows : Map ℕ) → rows ≡ no_rows → shown inode slab rows ≡ no_rows
none-shown slab rows are = ap (shown inode slab) are ∙ each-none (λ (key : ℕ). inode (row_at slab key))
