-- The sides at the boot, guest by guest: each has its memory in the lowest free frames, and the other sides show what they showed.
use Rattle.std.specs.FinMap as finmap
use Rattle.hybrid_laws.proofs.boot.Pages.{count-guest}
use Rattle.hybrid_laws.proofs.maps.Reading.{each-same}
use Rattle.hybrid_laws.proofs.maps.Sums.{counted_in, total-put}
use Rattle.hybrid_laws.proofs.memory.Copying.{bytes_copied, frames_copied, length_copied, or_else, put_all, put_all-entries, shown_copied}
use Rattle.hybrid_laws.proofs.memory.NewSide.{no-at}
use Rattle.hybrid_laws.proofs.reap.Reap.{count-each, each-none}
use Rattle.hybrid_laws.proofs.trap.Forks.{frames-fewer}
use Rattle.hybrid_laws.specs.OneProcess.{FramesOf, with_table}
use Rattle.hybrid_model.specs.Boot.{Booted, shortage_from, with_guest}
use Rattle.hybrid_model.specs.Globals.{Frames, copies}
use Rattle.hybrid_model.specs.Shown.{shown_call, shown_own}
use Rattle.hybrid_model.specs.Sides.{Row, Side, new_side, no_lwk}
use Rattle.hybrid_model.specs.Spaces.{Space, copied_pages, first_number, page_at_lowest, rest_numbers, shown_memory, shown_row}
use Rattle.hybrid_model.specs.Tallies.{Reads, if_same}
use Rattle.isa_model.specs.Memory.{Memory, Page}
use Rattle.job_model.specs.declared.image.Image.{Image}
use Rattle.job_model.specs.declared.job.GuestLine.{GuestLine}
use Rattle.kernel_model.specs.Layout.{guest_memory, needed_frames}
use Rattle.kernel_model.specs.OneKernel.{Guest, by_guest, guest_own, guests_from, rows_of_guests}
use Rattle.kernel_model.specs.Pages.{zero_page}
use Rattle.mck_flags.specs.declared.rights.Rights.{Rights}
use Rattle.mck_word.specs.MapLaws.{at-collect, at-none, at-put}
use Rattle.mck_word.specs.Maps.{Map, and_then, at, count, each, entries, no_rows, total}
use Rattle.std.proofs.Common.{ap, arith, refl, subst, sym, ◌∙◌}
use Rattle.std.proofs.lemmas.Bool.Decides.{nat_tests}
use Rattle.std.proofs.lemmas.List.Sums.{sum_by-cons}
use Rattle.std.specs.Prelude.{Bool, List, None, Option, Some, [], cond, false, fold, if◌then◌else◌, is_some, length, nat_lt, suc, true, unwrap_or, ℕ, ◌+◌, ◌-◌, ◌<◌, ◌==◌, ◌∷◌, ◌≡◌, ◌≤◌}
use mathlib.Core.Path.{fun_ext}

abbrev pub tables_in : Map Side → ℕ → Reads Row
tables_in sides p = at (unwrap_or (at sides p) (new_side 0)).lwk.table

abbrev pub fresh_side : ℕ → Map Row → Side
fresh_side rings table = record (new_side rings) { lwk = record no_lwk { table = table } }

abbrev pub rows_of : Side → ℕ
rows_of s = count s.lwk.table

-- ---- rows and free frames below a number
pub record Under (n : ℕ) (sp : Space) : Type 0 where
  pub rows : (i : ℕ) (r : Row) → at sp.table i ≡ Some r → r.0.0 < n
  pub free : (f : ℕ) → 1 ≤ copies f sp.free → f < n

under-lowest : (n : ℕ) (rights : Rights) (bytes : List ℕ) (i : ℕ) (sp : Space) → 1 ≤ length sp.free → Under n sp → Under n (page_at_lowest rights bytes i sp)
under-lowest n rights bytes i sp l b = record { rows = λ j r e. row j r (j == i) (sym (at-put sp.table i (record { 0 = first_number sp.free }, rights) j) ∙ e); free = λ f m. b.free f (more sp.free f m) }
  where
    first : (o : List ℕ) → 1 ≤ length o → 1 ≤ copies (first_number o) o
    first [] k = absurd (omega (arith, k))
    first (f ∷ free) k = let s : if_same f f ≡ 1 = grind (arith, nat_tests) in omega (arith, s)

    row : (j : ℕ) (r : Row) (x : Bool) → cond x (Some (record { 0 = first_number sp.free }, rights)) (at sp.table j) ≡ Some r → r.0.0 < n
    row j r true k = let s : (record { 0 = first_number sp.free }, rights) ≡ r = cc in subst (λ (z : Row). z.0.0 < n) s (b.free (first_number sp.free) (first sp.free l))
    row j r false k = b.rows j r k

    more : (o : List ℕ) (f : ℕ) → 1 ≤ copies f (rest_numbers o) → 1 ≤ copies f o
    more [] f k = k
    more (g ∷ free) f k = omega (arith, k)

fewer-left : (rights : Rights) (bytes : List ℕ) (i n : ℕ) (sp : Space) → suc n ≤ length sp.free → n ≤ length (page_at_lowest rights bytes i sp).free
fewer-left rights bytes i n sp l = go sp.free l
  where
    go : (o : List ℕ) → suc n ≤ length o → n ≤ length (rest_numbers o)
    go [] e = absurd (omega (arith, e))
    go (f ∷ free) e = omega (arith, e)

under-copied : (n : ℕ) (es : List (ℕ × Page)) (sp : Space) → length es ≤ length sp.free → Under n sp → Under n (copied_pages es sp)
under-copied n [] sp l b = b
under-copied n (e ∷ es) sp l b = under-copied n es (page_at_lowest e.1.rights e.1.bytes e.0 sp) (fewer-left e.1.rights e.1.bytes e.0 (length es) sp l) (under-lowest n e.1.rights e.1.bytes e.0 sp (omega (arith, l)) b)

-- ---- what holds once the guests below n are there
pub record Grown (n limit rings : ℕ) (b : Booted) : Type 0 where
  pub frames : Frames (tables_in b.sides) b.free
  pub rows_below : (p i : ℕ) (r : Row) → tables_in b.sides p i ≡ Some r → r.0.0 < limit
  pub free_below : (f : ℕ) → 1 ≤ copies f b.free → f < limit
  pub counted : length b.free + total rows_of b.sides ≡ limit
  pub new : (q : ℕ) → n ≤ q → at b.sides q ≡ None
  pub fresh : (q : ℕ) (s : Side) → at b.sides q ≡ Some s → s ≡ fresh_side rings s.lwk.table

-- ---- a guest more
module _ (limit rings : ℕ) (b : Booted) (g : Guest) (grown : Grown g.number limit rings b) (enough : count (guest_memory g.image g.arguments) ≤ length b.free) where
  abbrev p : ℕ
  p = g.number

  abbrev memory : Memory
  memory = guest_memory g.image g.arguments

  abbrev begins : Space
  begins = record { table = no_rows; frames = b.frames; free = b.free }

  abbrev pages : List (ℕ × Page)
  pages = entries memory

  abbrev sp : Space
  sp = copied_pages pages begins

  fits : length pages ≤ length b.free
  fits = let a = finmap.len-entries memory in omega (arith, a, enough)

  begins-frames : FramesOf (tables_in b.sides) p begins
  begins-frames = frames-fewer (tables_in b.sides) (with_table (tables_in b.sides) p (at no_rows)) b.free fewer grown.frames
    where
      fewer : (q i : ℕ) (r : Row) → with_table (tables_in b.sides) p (at no_rows) q i ≡ Some r → tables_in b.sides q i ≡ Some r
      fewer q i r e = go (q == p) e
        where
          go : (x : Bool) → (if x then at no_rows else tables_in b.sides q) i ≡ Some r → tables_in b.sides q i ≡ Some r
          go true k = absurd (no-at i r k)
          go false k = k

  copied-frames : FramesOf (tables_in b.sides) p sp
  copied-frames = frames_copied (tables_in b.sides) p pages begins fits begins-frames

  copied-shown : shown_memory sp.table sp.frames ≡ memory
  copied-shown = shown_copied (tables_in b.sides) p pages begins fits begins-frames ∙ ap (put_all pages) (each-none (shown_row b.frames) no_rows (λ i. at-none i)) ∙ put_all-entries memory

  pub left-over : length sp.free + count memory ≡ length b.free
  left-over = let a = length_copied (tables_in b.sides) p pages begins fits in let c = finmap.len-entries memory in omega (arith, a, c)

  rows-copied : count sp.table ≡ count memory
  rows-copied = sym (count-each (shown_row sp.frames) sp.table) ∙ ap count copied-shown

  abbrev side : Side
  side = fresh_side rings sp.table

  abbrev now : Booted
  now = with_guest rings b g

  tables-now : tables_in now.sides ≡ with_table (tables_in b.sides) p (at sp.table)
  tables-now = fun_ext (λ q. ap (λ (o : Option Side). at (unwrap_or o (new_side 0)).lwk.table) (at-put b.sides p side q) ∙ go q (q == p))
    where
      go : (q : ℕ) (x : Bool) → at (unwrap_or (cond x (Some side) (at b.sides q)) (new_side 0)).lwk.table ≡ (if x then at sp.table else tables_in b.sides q)
      go q true = refl
      go q false = refl

  under : Under limit sp
  under = under-copied limit pages begins fits (record { rows = λ i r e. absurd (no-at i r e); free = grown.free_below })

  pub grown-more : Grown (p + 1) limit rings now
  grown-more = record {
    frames = subst (λ (t : ℕ → Reads Row). Frames t sp.free) (sym tables-now) copied-frames;
    rows_below = subst (λ (t : ℕ → Reads Row). (q i : ℕ) (r : Row) → t q i ≡ Some r → r.0.0 < limit) (sym tables-now) (λ q i r e. below q i r (q == p) e);
    free_below = under.free;
    counted = counts;
    new = λ q l. at-put b.sides p side q ∙ (let d : (q == p) ≡ false = grind (arith, nat_tests, l) in ap (λ x. cond x (Some side) (at b.sides q)) d) ∙ grown.new q (omega (arith, l));
    fresh = λ q s e. fresh-now q s (q == p) (sym (at-put b.sides p side q) ∙ e);
  }
    where
      below : (q i : ℕ) (r : Row) (x : Bool) → (if x then at sp.table else tables_in b.sides q) i ≡ Some r → r.0.0 < limit
      below q i r true e = under.rows i r e
      below q i r false e = grown.rows_below q i r e

      counts : length sp.free + total rows_of now.sides ≡ limit
      counts =
          let a = total-put rows_of b.sides p side in
          let n = ap (counted_in rows_of) (grown.new p (omega arith)) in
          let c = grown.counted in
          omega (arith, a, n, c, left-over, rows-copied)

      fresh-now : (q : ℕ) (s : Side) (x : Bool) → cond x (Some side) (at b.sides q) ≡ Some s → s ≡ fresh_side rings s.lwk.table
      fresh-now q s true e = let y : side ≡ s = cc in subst (λ (z : Side). z ≡ fresh_side rings z.lwk.table) y refl
      fresh-now q s false e = grown.fresh q s e

  -- what is shown
  own-shown : shown_own sp.frames side ≡ guest_own g
  own-shown =
      let a = copied-shown in
      let c = each-none (shown_call side) no_rows (λ i. at-none i) in
      λ i. record { memory = a i; calls = c i }

  other-shown : (q : ℕ) (s : Side) → at b.sides q ≡ Some s → shown_own sp.frames s ≡ shown_own b.frames s
  other-shown q s e =
      let a = each-same (shown_row sp.frames) (shown_row b.frames) s.lwk.table (λ j r f.
      (let n = grown.frames.not_free q j r (ap (λ (o : Option Side). at (unwrap_or o (new_side 0)).lwk.table j) e ∙ f) in
      let k = ap (λ (o : Option (List ℕ)). unwrap_or o zero_page) (bytes_copied (tables_in b.sides) p pages r.0.0 begins fits n) in
      λ i. record { rights = r.1; bytes = k i })) in
      λ i. record { memory = a i; calls = each (shown_call s) s.lwk.callers }

  pub shown-more : (q : ℕ) → at (each (shown_own now.frames) now.sides) q ≡ cond (q == p) (Some (guest_own g)) (at (each (shown_own b.frames) b.sides) q)
  shown-more q =
      at-collect (λ k v. Some (shown_own sp.frames v)) now.sides q ∙ ap (λ o. and_then o (λ v. Some (shown_own sp.frames v))) (at-put b.sides p side q) ∙ go (q == p)
    where
      old : (o : Option Side) → at b.sides q ≡ o → and_then o (λ v. Some (shown_own sp.frames v)) ≡ and_then o (λ v. Some (shown_own b.frames v))
      old None e = refl
      old (Some s) e = ap Some (other-shown q s e)

      go : (x : Bool) → and_then (cond x (Some side) (at b.sides q)) (λ v. Some (shown_own sp.frames v)) ≡ cond x (Some (guest_own g)) (at (each (shown_own b.frames) b.sides) q)
      go true = ap Some own-shown
      go false = old (at b.sides q) refl ∙ sym (at-collect (λ k v. Some (shown_own b.frames v)) b.sides q)

-- ---- all guests
pub by-guest-at : {V : Type 0} (f : Guest → V) (n : ℕ) (as_ : List GuestLine) (images : List Image) (q : ℕ) (v : V) → at (by_guest f (guests_from n as_ images)) q ≡ Some v → (g : Guest) × (f g ≡ v) × (g.number ≡ q) × (n ≤ q) × (q < n + length as_)
by-guest-at f n [] images q v e = absurd (no-at q v e)
by-guest-at f n (a ∷ as_) [] q v e = absurd (no-at q v e)
by-guest-at {V} f n (a ∷ as_) (image ∷ images) q v e = go (q == n) refl (sym (at-put (by_guest f (guests_from (n + 1) as_ images)) n (f (record { number = n; arguments = a.args; image = image })) q) ∙ e) (by-guest-at f (n + 1) as_ images q v)
  where
    go : (x : Bool) → (q == n) ≡ x → cond x (Some (f (record { number = n; arguments = a.args; image = image }))) (at (by_guest f (guests_from (n + 1) as_ images)) q) ≡ Some v → (at (by_guest f (guests_from (n + 1) as_ images)) q ≡ Some v → (g : Guest) × (f g ≡ v) × (g.number ≡ q) × (n + 1 ≤ q) × (q < n + 1 + length as_))
        → (g : Guest) × (f g ≡ v) × (g.number ≡ q) × (n ≤ q) × (q < n + length (a ∷ as_))
    go true k u i = let y : q ≡ n = grind (arith, nat_tests, k) in (record { number = n; arguments = a.args; image = image }, cc, sym y, omega (arith, y), omega (arith, y))
    go false k u i = let r = i u in (r.0, r.1, r.2, omega (arith, r.3), omega (arith, r.4))

-- whether a number is a guest's
pub by-guest-is : {V W : Type 0} (f : Guest → V) (k : Guest → W) (gs : List Guest) (q : ℕ) → is_some (at (by_guest f gs) q) ≡ is_some (at (by_guest k gs) q)
by-guest-is f k [] q = ap is_some (at-none q) ∙ sym (ap is_some (at-none q))
by-guest-is f k (g ∷ gs) q = ap is_some (at-put (by_guest f gs) g.number (f g) q) ∙ go (q == g.number) (by-guest-is f k gs q) ∙ sym (ap is_some (at-put (by_guest k gs) g.number (k g) q))
  where
    go : (x : Bool) → is_some (at (by_guest f gs) q) ≡ is_some (at (by_guest k gs) q) → is_some (cond x (Some (f g)) (at (by_guest f gs) q)) ≡ is_some (cond x (Some (k g)) (at (by_guest k gs) q))
    go true i = refl
    go false i = i

by-guest-none : {V : Type 0} (f : Guest → V) (n : ℕ) (as_ : List GuestLine) (images : List Image) (q : ℕ) → q < n → at (by_guest f (guests_from n as_ images)) q ≡ None
by-guest-none {V} f n as_ images q l = go (at (by_guest f (guests_from n as_ images)) q) refl
  where
    go : (o : Option V) → at (by_guest f (guests_from n as_ images)) q ≡ o → o ≡ None
    go None e = refl
    go (Some v) e = absurd (let r = by-guest-at f n as_ images q v e in let m = r.3 in omega (arith, l, m))

-- more frames leave no shortage where there was none
suffices : (gs : List Guest) (a c : ℕ) → a ≤ c → shortage_from a gs ≡ None → shortage_from c gs ≡ None
suffices [] a c l e = refl
suffices (g ∷ gs) a c l e = go (nat_lt a (needed_frames g.image)) refl e (suffices gs (a - needed_frames g.image) (c - needed_frames g.image) (omega (arith, l)))
  where
    go : (x : Bool) → nat_lt a (needed_frames g.image) ≡ x → cond x (Some (record { guest = g.number; needed = needed_frames g.image; free = a })) (shortage_from (a - needed_frames g.image) gs) ≡ None → (shortage_from (a - needed_frames g.image) gs ≡ None → shortage_from (c - needed_frames g.image) gs ≡ None) → shortage_from c (g ∷ gs) ≡ None
    go true f k i = absurd (grind (arith, k))
    go false f k i =
        let d : nat_lt c (needed_frames g.image) ≡ false = grind (arith, nat_tests, f, l) in
        ap (λ x. cond x (Some (record { guest = g.number; needed = needed_frames g.image; free = c })) (shortage_from (c - needed_frames g.image) gs)) d ∙ i k

pub record Guests (gs : List Guest) (n limit rings : ℕ) (b z : Booted) : Type 0 where
  pub last : ℕ
  pub grown : Grown last limit rings z
  pub shown : (q : ℕ) → at (each (shown_own z.frames) z.sides) q ≡ or_else (at (by_guest guest_own gs) q) (at (each (shown_own b.frames) b.sides) q)
  pub left : length z.free + rows_of_guests gs ≡ length b.free

or-none : {V : Type 0} (o x : Option V) → o ≡ None → x ≡ or_else o x
or-none o x e = sym (ap (λ y. or_else y x) e)

pub all-guests : (as_ : List GuestLine) (images : List Image) (n limit rings : ℕ) (b : Booted) → Grown n limit rings b → shortage_from (length b.free) (guests_from n as_ images) ≡ None → Guests (guests_from n as_ images) n limit rings b (fold (with_guest rings) b (guests_from n as_ images))
all-guests [] images n limit rings b grown e = record { last = n; grown = grown; shown = λ q. or-none (at (by_guest guest_own []) q) (at (each (shown_own b.frames) b.sides) q) (at-none q); left = omega arith }
all-guests (a ∷ as_) [] n limit rings b grown e = record { last = n; grown = grown; shown = λ q. or-none (at (by_guest guest_own []) q) (at (each (shown_own b.frames) b.sides) q) (at-none q); left = omega arith }
all-guests (a ∷ as_) (image ∷ images) n limit rings b grown e = go (nat_lt (length b.free) (needed_frames image)) refl e (all-guests as_ images (n + 1) limit rings (with_guest rings b (record { number = n; arguments = a.args; image = image })))
  where
    go : (x : Bool) → nat_lt (length b.free) (needed_frames image) ≡ x → cond x (Some (record { guest = n; needed = needed_frames image; free = length b.free })) (shortage_from (length b.free - needed_frames image) (guests_from (n + 1) as_ images)) ≡ None
        → (Grown (n + 1) limit rings (with_guest rings b (record { number = n; arguments = a.args; image = image })) → shortage_from (length (with_guest rings b (record { number = n; arguments = a.args; image = image })).free) (guests_from (n + 1) as_ images) ≡ None
        → Guests (guests_from (n + 1) as_ images) (n + 1) limit rings (with_guest rings b (record { number = n; arguments = a.args; image = image })) (fold (with_guest rings) (with_guest rings b (record { number = n; arguments = a.args; image = image })) (guests_from (n + 1) as_ images)))
        → Guests (guests_from n (a ∷ as_) (image ∷ images)) n limit rings b (fold (with_guest rings) b (guests_from n (a ∷ as_) (image ∷ images)))
    go true f k i = absurd (grind (arith, k))
    go false f k i =
        let most = count-guest image a.args in
        let enough : count (guest_memory image a.args) ≤ length b.free = grind (arith, nat_tests, f, most) in
        let over = left-over limit rings b (record { number = n; arguments = a.args; image = image }) grown enough in
        let rest = i (grown-more limit rings b (record { number = n; arguments = a.args; image = image }) grown enough)
        (suffices (guests_from (n + 1) as_ images) (length b.free - needed_frames image) (length (with_guest rings b (record { number = n; arguments = a.args; image = image })).free) (omega (arith, over, most)) k) in
        record {
          last = rest.last;
          grown = rest.grown;
          shown = λ q. rest.shown q ∙ ap (or_else (at (by_guest guest_own (guests_from (n + 1) as_ images)) q)) (shown-more limit rings b (record { number = n; arguments = a.args; image = image }) grown enough q) ∙ by-key q (q == n) refl
              ∙ sym (ap (λ o. or_else o (at (each (shown_own b.frames) b.sides) q)) (at-put (by_guest guest_own (guests_from (n + 1) as_ images)) n (guest_own (record { number = n; arguments = a.args; image = image })) q));
          left = (let l = rest.left in let s = sum_by-cons (λ (y : Guest). count (guest_memory y.image y.arguments)) (record { number = n; arguments = a.args; image = image }) (guests_from (n + 1) as_ images) in omega (arith, l, over, s));
        }
      where
        by-key : (q : ℕ) (x : Bool) → (q == n) ≡ x → or_else (at (by_guest guest_own (guests_from (n + 1) as_ images)) q) (cond x (Some (guest_own (record { number = n; arguments = a.args; image = image }))) (at (each (shown_own b.frames) b.sides) q))
            ≡ or_else (cond x (Some (guest_own (record { number = n; arguments = a.args; image = image }))) (at (by_guest guest_own (guests_from (n + 1) as_ images)) q)) (at (each (shown_own b.frames) b.sides) q)
        by-key q false j = refl
        by-key q true j = ap (λ o. or_else o (Some (guest_own (record { number = n; arguments = a.args; image = image })))) (by-guest-none guest_own (n + 1) as_ images q (grind (arith, nat_tests, j)))
