-- What the changes of files leave of the pieces that may be cut: closing takes some away, a node that is opened or emptied adds one.
use Rattle.file_model.specs.Files.{Files, Inode, change_description, close_all, hold, is_open, is_same_target, leave, lowest_free, opened, set_offset, settled, used_description, used_node, used_pipe, without_unused_descriptions, without_unused_targets}
use Rattle.file_model.specs.declared.descriptions.Description.{Description}
use Rattle.file_model.specs.declared.descriptions.Target.TheVariants.{OfNode, ReadEnd, WriteEnd}
use Rattle.file_model.specs.declared.descriptions.Target.{Target}
use Rattle.hybrid_laws.proofs.maps.Lookups.{no-row}
use Rattle.hybrid_laws.proofs.maps.Sums.{counted_at, counted_in, total-cut-by, total-le}
use Rattle.hybrid_laws.proofs.memory.Written.{each-entry}
use Rattle.hybrid_laws.proofs.node.Primitives.{at-change}
use Rattle.hybrid_model.specs.Tallies.{Each, as_number}
use Rattle.mck_word.specs.MapLaws.{at-collect, at-cut, at-put}
use Rattle.mck_word.specs.Maps.{and_then, at, collect, cut, entries, total}
use Rattle.std.proofs.Common.{ap, arith, refl, sym, ◌∙◌}
use Rattle.std.proofs.lemmas.Bool.Decides.{nat_tests}
use Rattle.std.specs.List.{list_any}
use Rattle.std.specs.Prelude.{Bool, List, None, Option, Some, [], cond, false, is_some, length, nat_lt, option_map, sum_by, true, ℕ, ◌&&◌, ◌+◌, ◌-◌, ◌==◌, ◌∷◌, ◌≡◌, ◌≤◌, ◌||◌}
use Rattle.work_laws.proofs.sides.Rows.{entries-le}
use Rattle.work_laws.specs.KernelLeft.{console_left, file_left, files_left, pipe_left}

-- ---- tests of rows
module _ {V : Type 0} (test : ℕ → V → Bool) where
  none-passes : (es : List (ℕ × V)) → Each (λ (e : ℕ × V). test e.0 e.1 ≡ false) es → list_any (λ (e : ℕ × V). test e.0 e.1) es ≡ false
  none-passes [] h = refl
  none-passes (e ∷ es) h = ap (λ b. b || list_any (λ (x : ℕ × V). test x.0 x.1) es) h.0 ∙ none-passes es h.1

-- ---- descriptions

-- each description of the second files was there, open on the same
abbrev pub WasOpen : Files → Files → Type 0
WasOpen a b = (d : ℕ) (x : Description) → at b.descriptions d ≡ Some x → (y : Description) × (at a.descriptions d ≡ Some y) × (y.target ≡ x.target)

module _ (a b : Files) (t : Target) (was : (d : ℕ) (x : Description) → at b.descriptions d ≡ Some x → is_same_target x.target t ≡ true → (y : Description) × (at a.descriptions d ≡ Some y) × (y.target ≡ x.target)) where
  each-closed : is_open a t ≡ false → (es : List (ℕ × Description)) → Each (λ (e : ℕ × Description). at b.descriptions e.0 ≡ Some e.1) es → Each (λ (e : ℕ × Description). is_same_target e.1.target t ≡ false) es
  each-closed none [] h = tt
  each-closed none (e ∷ es) h = (go (is_same_target e.1.target t) refl, each-closed none es h.1)
    where
      go : (c : Bool) → is_same_target e.1.target t ≡ c → c ≡ false
      go false f = refl
      go true f = absurd (
          let y = was e.0 e.1 h.0 f in
          let n = no-row (λ d (x : Description). is_same_target x.target t) a.descriptions none e.0 y.0 y.1 in
          let s = ap (λ (z : Target). is_same_target z t) y.2 in
          grind (arith, n, s, f)
          )

  pub open-less : is_open b t ≡ true → is_open a t ≡ true
  open-less e = go (is_open a t) refl
    where
      go : (c : Bool) → is_open a t ≡ c → c ≡ true
      go true f = refl
      go false f = absurd (let n = none-passes (λ d (x : Description). is_same_target x.target t) (entries b.descriptions) (each-closed f (entries b.descriptions) (each-entry b.descriptions)) in grind (arith, n, e))

was-open : (a b : Files) → WasOpen a b → (t : Target) → is_open b t ≡ true → is_open a t ≡ true
was-open a b h t = open-less a b t (λ d x e f. h d x e)

-- ---- files
and-less : (b c d : Bool) → (b ≡ true → c ≡ true) → as_number (b && d) ≤ as_number (c && d)
and-less true true d h = omega arith
and-less true false d h = absurd (let e = h refl in grind (arith, e))
and-less false true true h = omega arith
and-less false true false h = omega arith
and-less false false d h = omega arith

number-most : (b : Bool) → as_number b ≤ 1
number-most true = omega arith
number-most false = omega arith

-- the same nodes or fewer, and no other node open
pub nodes-under : (a b : Files) → ((n : ℕ) → is_open b (OfNode n) ≡ true → is_open a (OfNode n) ≡ true) → ((n : ℕ) (x : Inode) → at b.nodes n ≡ Some x → (y : Inode) × (at a.nodes n ≡ Some y) × (length y.bytes ≡ length x.bytes))
    → sum_by (file_left b) (entries b.nodes) ≤ sum_by (file_left a) (entries a.nodes)
nodes-under a b opens nodes = entries-le (file_left b) (file_left a) b.nodes a.nodes (λ n x e. (
    let y = nodes n x e in
    let c = and-less (is_open b (OfNode n)) (is_open a (OfNode n)) (nat_lt (length x.bytes) 1048576) (opens n) in
    let d = ap (counted_at (file_left a) n) y.1 in
    let s = ap (λ (j : ℕ). as_number (is_open a (OfNode n) && nat_lt j 1048576)) y.2 in
    omega (arith, c, d, s)))

-- fewer descriptions
pub nodes-less : (a b : Files) → WasOpen a b → ((n : ℕ) (x : Inode) → at b.nodes n ≡ Some x → (y : Inode) × (at a.nodes n ≡ Some y) × (length y.bytes ≡ length x.bytes))
    → sum_by (file_left b) (entries b.nodes) ≤ sum_by (file_left a) (entries a.nodes)
nodes-less a b h nodes = nodes-under a b (λ n. was-open a b h (OfNode n)) nodes

-- nothing but descriptions and names differ, and pipes may go
pub record FilesLess (a b : Files) : Type 0 where
  pub was : WasOpen a b
  pub nodes : (n : ℕ) (x : Inode) → at b.nodes n ≡ Some x → (y : Inode) × (at a.nodes n ≡ Some y) × (length y.bytes ≡ length x.bytes)
  pub pipes : total pipe_left b.pipes ≤ total pipe_left a.pipes
  pub consoles : b.consoles ≡ a.consoles

pub left-less : (a b : Files) → FilesLess a b → files_left b ≤ files_left a
left-less a b q =
    let n = nodes-less a b q.was q.nodes in
    let p = q.pipes in
    let c = ap (λ m. total console_left m) q.consoles in
    omega (arith, n, p, c)

pub was-same : (a : Files) → WasOpen a a
was-same a d x e = (x, e, refl)

pub nodes-same : (a : Files) (n : ℕ) (x : Inode) → at a.nodes n ≡ Some x → (y : Inode) × (at a.nodes n ≡ Some y) × (length y.bytes ≡ length x.bytes)
nodes-same a n x e = (x, e, refl)

-- ---- a description that changes
pub was-change : (a : Files) (d : ℕ) (f : Description → Description) → ((x : Description) → (f x).target ≡ x.target) → WasOpen a (change_description d f a)
was-change a d f h e x is = go (e == d) refl (sym (at-change a.descriptions d f e) ∙ is)
  where
    row : (o : Option Description) → option_map f o ≡ Some x → (y : Description) × (o ≡ Some y) × (y.target ≡ x.target)
    row None g = absurd (grind (arith, g))
    row (Some y) g = let z : f y ≡ x = cc in (y, refl, sym (h y) ∙ ap (λ (w : Description). w.target) z)

    go : (b : Bool) → (e == d) ≡ b → cond b (option_map f (at a.descriptions d)) (at a.descriptions e) ≡ Some x → (y : Description) × (at a.descriptions e ≡ Some y) × (y.target ≡ x.target)
    go false g i = (x, i, refl)
    go true g i = let j : e ≡ d = grind (arith, nat_tests, g) in let r = row (at a.descriptions d) i in (r.0, ap (at a.descriptions) j ∙ r.1, r.2)

described-less : (a : Files) (d : ℕ) (f : Description → Description) → ((x : Description) → (f x).target ≡ x.target) → files_left (change_description d f a) ≤ files_left a
described-less a d f h = left-less a (change_description d f a) (record { was = was-change a d f h; nodes = nodes-same a; pipes = omega arith; consoles = refl })

pub offset-less : (a : Files) (d offset : ℕ) → files_left (set_offset d offset a) ≤ files_left a
offset-less a d offset = described-less a d (λ x. record x { offset = offset }) (λ x. refl)

pub hold-less : (a : Files) (d : ℕ) → files_left (hold d a) ≤ files_left a
hold-less a d = described-less a d (λ x. record x { calls = x.calls + 1 }) (λ x. refl)

-- ---- what nobody names any more goes
without-less : (a : Files) → files_left (without_unused_descriptions a) ≤ files_left a
without-less a = left-less a (without_unused_descriptions a) (record { was = was; nodes = nodes-same a; pipes = omega arith; consoles = refl })
  where
    row : (d : ℕ) (o : Option Description) (x : Description) → and_then o (used_description a d) ≡ Some x → (y : Description) × (o ≡ Some y) × (y.target ≡ x.target)
    row d None x e = absurd (grind (arith, e))
    row d (Some y) x e = by (nat_lt 0 y.calls || _) e
      where
        by : (b : Bool) → cond b (Some y) None ≡ Some x → (z : Description) × (Some y ≡ Some z) × (z.target ≡ x.target)
        by true f = let g : y ≡ x = cc in (y, refl, ap (λ (w : Description). w.target) g)
        by false f = absurd (grind (arith, f))

    was : WasOpen a (without_unused_descriptions a)
    was d x e = row d (at a.descriptions d) x (sym (at-collect (used_description a) a.descriptions d) ∙ e)

targets-less : (a : Files) → files_left (without_unused_targets a) ≤ files_left a
targets-less a = left-less a (without_unused_targets a) (record { was = was-same a; nodes = nodes; pipes = pipes; consoles = refl })
  where
    kept : {V : Type 0} (b : Bool) (y x : V) → cond b (Some y) None ≡ Some x → y ≡ x
    kept true y x f = cc
    kept false y x f = absurd (grind (arith, f))

    row : (n : ℕ) (o : Option Inode) (x : Inode) → and_then o (used_node a n) ≡ Some x → (y : Inode) × (o ≡ Some y) × (length y.bytes ≡ length x.bytes)
    row n None x e = absurd (grind (arith, e))
    row n (Some y) x e = (y, refl, ap (λ (w : Inode). length w.bytes) (kept (n == 1 || is_some y.name || is_open a (OfNode n)) y x e))

    nodes : (n : ℕ) (x : Inode) → at (without_unused_targets a).nodes n ≡ Some x → (y : Inode) × (at a.nodes n ≡ Some y) × (length y.bytes ≡ length x.bytes)
    nodes n x e = row n (at a.nodes n) x (sym (at-collect (used_node a) a.nodes n) ∙ e)

    cell : (n : ℕ) (o : Option (List ℕ)) → counted_in pipe_left (and_then o (used_pipe a n)) ≤ counted_in pipe_left o
    cell n None = omega arith
    cell n (Some y) = by (is_open a (ReadEnd n) || is_open a (WriteEnd n))
      where
        by : (b : Bool) → counted_in pipe_left (cond b (Some y) None) ≤ pipe_left y
        by true = omega arith
        by false = omega arith

    pipes : total pipe_left (collect (used_pipe a) a.pipes) ≤ total pipe_left a.pipes
    pipes = total-le pipe_left (collect (used_pipe a) a.pipes) a.pipes (λ n. (let x = ap (counted_in pipe_left) (at-collect (used_pipe a) a.pipes n) in let y = cell n (at a.pipes n) in omega (arith, x, y)))

pub settled-less : (a : Files) → files_left (settled a) ≤ files_left a
unfolding settled
settled-less a = let x = without-less a in let y = targets-less (without_unused_descriptions a) in omega (arith, x, y)

-- the descriptors of a process go
pub close_all-less : (a : Files) (process : ℕ) → files_left (close_all process a) ≤ files_left a
close_all-less a process = settled-less (record a { descriptors = cut a.descriptors process })

pub leave-less : (a : Files) (d : ℕ) → files_left (leave d a) ≤ files_left a
leave-less a d =
    let b = change_description d (λ (x : Description). record x { calls = x.calls - 1 }) a in
    let x = settled-less b in
    let y = described-less a d (λ x. record x { calls = x.calls - 1 }) (λ x. refl) in
    omega (arith, x, y)

-- ---- a node that is opened, made or emptied
module _ (a b : Files) (n : ℕ) (nodes : (m : ℕ) → (m == n) ≡ false → at b.nodes m ≡ at a.nodes m) (opens : (m : ℕ) → (m == n) ≡ false → is_open b (OfNode m) ≡ true → is_open a (OfNode m) ≡ true) where
  other-rows : (m : ℕ) (x : Inode) → at (cut b.nodes n) m ≡ Some x → file_left b (m, x) ≤ counted_at (file_left a) m (at (cut a.nodes n) m)
  other-rows m x e = go (m == n) refl (sym (at-cut b.nodes n m) ∙ e)
    where
      go : (c : Bool) → (m == n) ≡ c → cond c None (at b.nodes m) ≡ Some x → file_left b (m, x) ≤ counted_at (file_left a) m (at (cut a.nodes n) m)
      go true f g = absurd (grind (arith, g))
      go false f g =
          let i = ap (counted_at (file_left a) m) (at-cut a.nodes n m ∙ ap (λ c. cond c None (at a.nodes m)) f ∙ sym (nodes m f) ∙ g) in
          let j = and-less (is_open b (OfNode m)) (is_open a (OfNode m)) (nat_lt (length x.bytes) 1048576) (opens m f) in
          omega (arith, i, j)

  own-row : (o : Option Inode) → counted_at (file_left b) n o ≤ 1
  own-row None = omega arith
  own-row (Some x) = number-most (is_open b (OfNode n) && nat_lt (length x.bytes) 1048576)

  pub one-node : sum_by (file_left b) (entries b.nodes) ≤ sum_by (file_left a) (entries a.nodes) + 1
  one-node =
      let x = total-cut-by (file_left b) b.nodes n in
      let y = total-cut-by (file_left a) a.nodes n in
      let z = own-row (at b.nodes n) in
      let w = entries-le (file_left b) (file_left a) (cut b.nodes n) (cut a.nodes n) other-rows in
      omega (arith, x, y, z, w)

-- a description more, on that node or on no node at all
module _ (process : ℕ) (target : Target) (r w app : Bool) (a : Files) (t : Target) (other : is_same_target target t ≡ false) where
  pub opened-was : is_open (opened process target r w app a) t ≡ true → is_open a t ≡ true
  opened-was = open-less a (opened process target r w app a) t (λ d x e f. row d x (d == lowest_free a.descriptions) (sym (at-put a.descriptions (lowest_free a.descriptions) new d) ∙ e) f)
    where
      new : Description
      new = record { target = target; readable = r; writable = w; append = app; offset = 0; calls = 0 }

      row : (d : ℕ) (x : Description) (b : Bool) → cond b (Some new) (at a.descriptions d) ≡ Some x → is_same_target x.target t ≡ true → (y : Description) × (at a.descriptions d ≡ Some y) × (y.target ≡ x.target)
      row d x true e f = absurd (let g : new ≡ x = cc in let h = ap (λ (z : Description). is_same_target z.target t) g in grind (arith, h, f, other))
      row d x false e f = (x, e, refl)

pub opened-node : (process n : ℕ) (r w app : Bool) (a : Files) (m : ℕ) → (m == n) ≡ false → is_open (opened process (OfNode n) r w app a) (OfNode m) ≡ true → is_open a (OfNode m) ≡ true
opened-node process n r w app a m e = opened-was process (OfNode n) r w app a (OfNode m) (grind (arith, nat_tests, e))
