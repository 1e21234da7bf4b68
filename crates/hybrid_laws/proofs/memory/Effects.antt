-- A whole effect: what it leaves outside its ranges, how many frames its dropped pages give back, and that the one-kernel machine does the same.
use Rattle.kernel_model.specs.Spaces as one
use Rattle.hybrid_laws.proofs.maps.Sums.{counted_at, sum_of, total-cut-by}
use Rattle.hybrid_laws.proofs.memory.Adding.{add_other, frames_add, frames_protect, outside_range, protect_other, shown_add, shown_protect}
use Rattle.hybrid_laws.proofs.memory.Dropping.{drop_other, frames_drops, shown_drops, shown_space}
use Rattle.hybrid_laws.proofs.memory.Written.{each-entry}
use Rattle.hybrid_laws.proofs.run.Run.{TableApart}
use Rattle.hybrid_laws.specs.OneProcess.{FramesOf}
use Rattle.hybrid_model.specs.Globals.{copies}
use Rattle.hybrid_model.specs.Sides.{Row}
use Rattle.hybrid_model.specs.Spaces.{Space, add_page, after_effect, drop_page, protect_page, rest_numbers, shown_memory}
use Rattle.hybrid_model.specs.Tallies.{Each, Reads}
use Rattle.isa_model.specs.Memory.{Memory, Page}
use Rattle.kernel_model.specs.MemoryCalls.{Effect, count_present}
use Rattle.kernel_model.specs.Pages.{pages_count, range}
use Rattle.kernel_model.specs.Spaces.{OneSpace, each_in, each_page}
use Rattle.mck_flags.specs.declared.rights.Rights.{Rights}
use Rattle.mck_word.specs.MapLaws.{at-cut}
use Rattle.mck_word.specs.Maps.{at, entries}
use Rattle.mck_word.specs.Pages.{in_range}
use Rattle.mck_word.specs.declared.PageRange.{PageRange}
use Rattle.std.proofs.Common.{ap, arith, refl, sym, ◌∙◌}
use Rattle.std.proofs.lemmas.Bool.Decides.{nat_tests}
use Rattle.std.proofs.lemmas.List.Sums.{sum_by-cons}
use Rattle.std.specs.Prelude.{Bool, List, None, Option, Some, [], cond, false, filter, if◌then◌else◌, length, map, nat_le, suc, true, zero, ℕ, ◌+◌, ◌-◌, ◌<◌, ◌==◌, ◌∷◌, ◌≡◌, ◌≢◌, ◌≤◌}

-- ---- pages of a range, counted
module _ (r : PageRange) where
  abbrev pub inside : ℕ × Page → ℕ
  inside e = if in_range r e.0 then 1 else 0

  pub count-inside : (m : Memory) → count_present m r ≡ sum_of inside (entries m)
  count-inside m = go (entries m)
    where
      step : (b : Bool) (k : ℕ) (ks : List ℕ) (n : ℕ) → length ks ≡ n → ◌≡◌ {A = ℕ} (length (cond b (k ∷ ks) ks)) ((if b then 1 else 0) + n)
      step true k ks n e = omega (arith, e)
      step false k ks n e = omega (arith, e)

      go : (es : List (ℕ × Page)) → length (filter (in_range r) (map (λ (e : ℕ × Page). e.0) es)) ≡ sum_of inside es
      go [] = refl
      go (e ∷ es) = step (in_range r e.0) e.0 (filter (in_range r) (map (λ (x : ℕ × Page). x.0) es)) (sum_of inside es) (go es) ∙ sym (sum_by-cons inside e es)

  drop-total : (i : ℕ) (sp : OneSpace) → in_range r i ≡ true → (one.drop_page i sp).free + sum_of inside (entries (one.drop_page i sp).memory) ≡ sp.free + sum_of inside (entries sp.memory)
  unfolding one.drop_page
  drop-total i sp e = let t = total-cut-by inside sp.memory i in let s = same (at sp.memory i) in omega (arith, t, s)
    where
      same : (o : Option Page) → counted_at inside i o ≡ one.present o
      same None = refl
      same (Some x) = rw e refl

  drops-total : (n low : ℕ) (sp : OneSpace) → r.lo ≤ low → low + n ≤ r.hi → (each_page one.drop_page n low sp).free + sum_of inside (entries (each_page one.drop_page n low sp).memory) ≡ sp.free + sum_of inside (entries sp.memory)
  drops-total zero low sp a b = refl
  drops-total (suc n) low sp a b = drops-total n (suc low) (one.drop_page low sp) (omega (arith, a)) (omega (arith, b)) ∙ drop-total low sp (grind (arith, nat_tests, a, b))

  -- after it no page of the range is there
  drop-at : (i j : ℕ) (sp : OneSpace) → at (one.drop_page i sp).memory j ≡ cond (j == i) None (at sp.memory j)
  unfolding one.drop_page
  drop-at i j sp = at-cut sp.memory i j

  none-stays : (n low j : ℕ) (sp : OneSpace) → at sp.memory j ≡ None → at (each_page one.drop_page n low sp).memory j ≡ None
  none-stays zero low j sp e = e
  none-stays (suc n) low j sp e = none-stays n (suc low) j (one.drop_page low sp) (drop-at low j sp ∙ ap (cond (j == low) None) e ∙ both-none (j == low))
    where
      both-none : (b : Bool) → ◌≡◌ {A = Option Page} (cond b None None) None
      both-none true = refl
      both-none false = refl

  pub drops-none : (n low j : ℕ) (sp : OneSpace) → low ≤ j → j < low + n → at (each_page one.drop_page n low sp).memory j ≡ None
  drops-none zero low j sp a b = absurd (omega (arith, a, b))
  drops-none (suc n) low j sp a b = go (j == low) refl (λ l. drops-none n (suc low) j (one.drop_page low sp) l (omega (arith, b)))
    where
      go : (x : Bool) → (j == low) ≡ x → (suc low ≤ j → at (each_page one.drop_page n (suc low) (one.drop_page low sp)).memory j ≡ None) → at (each_page one.drop_page n (suc low) (one.drop_page low sp)).memory j ≡ None
      go true e f = none-stays n (suc low) j (one.drop_page low sp) (drop-at low j sp ∙ rw e refl)
      go false e f = f (let n : j ≢ low = (λ g. grind (arith, nat_tests, e, g)) in omega (arith, a, n))

  inside-none : (m : Memory) → ((j : ℕ) → in_range r j ≡ true → at m j ≡ None) → sum_of inside (entries m) ≡ 0
  inside-none m h = go (entries m) (each-entry m)
    where
      zero-at : (e : ℕ × Page) → at m e.0 ≡ Some e.1 → (b : Bool) → in_range r e.0 ≡ b → ◌≡◌ {A = ℕ} (if b then 1 else 0) 0
      zero-at e k false f = refl
      zero-at e k true f = absurd (let n = sym (h e.0 f) ∙ k in grind (arith, n))

      go : (es : List (ℕ × Page)) → Each (λ (e : ℕ × Page). at m e.0 ≡ Some e.1) es → sum_of inside es ≡ 0
      go [] k = refl
      go (e ∷ es) k = let a = sum_by-cons inside e es in let b = go es k.1 in let c = zero-at e k.0 (in_range r e.0) refl in omega (arith, a, b, c)

  -- the dropped pages give back as many frames as there were pages
  pub drops-free : (sp : OneSpace) → (each_in one.drop_page r sp).free ≡ sp.free + count_present sp.memory r
  drops-free sp = go (nat_le r.lo r.hi) refl
    where
      after : OneSpace
      after = each_in one.drop_page r sp

      none-in : r.lo ≤ r.hi → (j : ℕ) → in_range r j ≡ true → at (each_in one.drop_page r sp).memory j ≡ None
      none-in l j e = drops-none (r.hi - r.lo) r.lo j sp (grind (arith, nat_tests, e)) (above r.lo r.hi l j e)
        where
          above : (lo hi : ℕ) → lo ≤ hi → (j : ℕ) → in_range (range lo hi) j ≡ true → j < lo + (hi - lo)
          above lo hi l j e = grind (arith, nat_tests, l, e)

      empty : (lo hi : ℕ) → hi < lo → (j : ℕ) → in_range (range lo hi) j ≡ false
      empty lo hi l j = grind (arith, nat_tests, l)

      go : (b : Bool) → nat_le r.lo r.hi ≡ b → (each_in one.drop_page r sp).free ≡ sp.free + count_present sp.memory r
      go true e =
          let l : r.lo ≤ r.hi = grind (arith, nat_tests, e) in
          let t = drops-total (r.hi - r.lo) r.lo sp (omega arith) (omega (arith, l)) in
          let z = inside-none (each_in one.drop_page r sp).memory (none-in l) in
          let c = count-inside sp.memory in
          omega (arith, t, z, c)
      go false e =
          let l : r.hi < r.lo = grind (arith, nat_tests, e) in
          let n : r.hi - r.lo ≡ 0 = omega (arith, l) in
          let z = inside-none-by sp.memory (empty r.lo r.hi l) in
          let c = count-inside sp.memory in
          let f = ap (λ (k : ℕ). (each_page one.drop_page k r.lo sp).free) n in
          omega (arith, z, c, f)
        where
          inside-none-by : (m : Memory) → ((j : ℕ) → in_range r j ≡ false) → sum_of inside (entries m) ≡ 0
          inside-none-by m h = inside-none m (λ j e. absurd (let k = sym e ∙ h j in grind (arith, k)))

-- ---- adding and protecting
pub length-add : (rights : Rights) (i : ℕ) (sp : Space) (n : ℕ) → suc n ≤ length sp.free → n ≤ length (add_page rights i sp).free
unfolding add_page
length-add rights i sp n l = go sp.free l
  where
    go : (o : List ℕ) → suc n ≤ length o → n ≤ length (rest_numbers o)
    go [] e = absurd (omega (arith, e))
    go (f ∷ free) e = omega (arith, e)

module _ (tables : ℕ → Reads Row) (p : ℕ) where
  pub own-not-free : (sp : Space) → FramesOf tables p sp → (j : ℕ) (r : Row) → at sp.table j ≡ Some r → copies r.0.0 sp.free ≡ 0
  own-not-free sp c j r e = c.not_free p j r (let s : (p == p) ≡ true = grind (arith, nat_tests) in rw s e)

  pub own-apart : (sp : Space) → FramesOf tables p sp → TableApart sp.table
  own-apart sp c i j r t e f g = (c.apart p i r p j t (let s : (p == p) ≡ true = grind (arith, nat_tests) in rw s e) (let s : (p == p) ≡ true = grind (arith, nat_tests) in rw s f) (λ k. record { 0 = g k })).1

  pub frames_adds : (rights : Rights) (n low : ℕ) (sp : Space) → n ≤ length sp.free → FramesOf tables p sp → FramesOf tables p (each_page (add_page rights) n low sp)
  frames_adds rights zero low sp l c = c
  frames_adds rights (suc n) low sp l c = frames_adds rights n (suc low) (add_page rights low sp) (length-add rights low sp n l) (frames_add tables p low rights sp (omega (arith, l)) c)

  pub shown_adds : (rights : Rights) (n low : ℕ) (sp : Space) → n ≤ length sp.free → FramesOf tables p sp → each_page (one.add_page rights) n low (shown_space sp) ≡ shown_space (each_page (add_page rights) n low sp)
  shown_adds rights zero low sp l c = refl
  shown_adds rights (suc n) low sp l c =
      ap (each_page (one.add_page rights) n (suc low)) (shown_add rights low sp (omega (arith, l)) (own-not-free sp c))
      ∙ shown_adds rights n (suc low) (add_page rights low sp) (length-add rights low sp n l) (frames_add tables p low rights sp (omega (arith, l)) c)

  pub frames_protects : (rights : Rights) (n low : ℕ) (sp : Space) → FramesOf tables p sp → FramesOf tables p (each_page (protect_page rights) n low sp)
  frames_protects rights zero low sp c = c
  frames_protects rights (suc n) low sp c = frames_protects rights n (suc low) (protect_page rights low sp) (frames_protect tables p low rights sp c)

  -- the frames suffice for the pages that are added
  abbrev pub Fits : Effect → Space → Type 0
  Fits e sp = pages_count e.added ≤ length (each_in drop_page e.dropped sp).free

  pub frames_effect : (e : Effect) (sp : Space) → Fits e sp → FramesOf tables p sp → FramesOf tables p (after_effect e sp)
  frames_effect e sp l c =
      let a = frames_drops tables p (pages_count e.dropped) e.dropped.lo sp c in
      let b = frames_adds e.rights (pages_count e.added) e.added.lo (each_in drop_page e.dropped sp) l a in
      frames_protects e.rights (pages_count e.protected) e.protected.lo (each_in (add_page e.rights) e.added (each_in drop_page e.dropped sp)) b

  pub shown_effect : (e : Effect) (sp : Space) → Fits e sp → FramesOf tables p sp → one.after_effect e (shown_space sp) ≡ shown_space (after_effect e sp)
  shown_effect e sp l c =
      let d = frames_drops tables p (pages_count e.dropped) e.dropped.lo sp c in
      ap (λ s. each_in (one.protect_page e.rights) e.protected (each_in (one.add_page e.rights) e.added s)) (shown_drops (pages_count e.dropped) e.dropped.lo sp)
      ∙ ap (each_in (one.protect_page e.rights) e.protected) (shown_adds e.rights (pages_count e.added) e.added.lo (each_in drop_page e.dropped sp) l d)
      ∙ shown_protects e.rights (pages_count e.protected) e.protected.lo (each_in (add_page e.rights) e.added (each_in drop_page e.dropped sp))
    where
      shown_protects : (rights : Rights) (n low : ℕ) (sp : Space) → each_page (one.protect_page rights) n low (shown_space sp) ≡ shown_space (each_page (protect_page rights) n low sp)
      shown_protects rights zero low sp = refl
      shown_protects rights (suc n) low sp = ap (each_page (one.protect_page rights) n (suc low)) (shown_protect rights low sp) ∙ shown_protects rights n (suc low) (protect_page rights low sp)

-- rows outside the three ranges stay
pub outside_effect : (e : Effect) (j : ℕ) (sp : Space) → in_range e.dropped j ≡ false → in_range e.added j ≡ false → in_range e.protected j ≡ false → at (after_effect e sp).table j ≡ at sp.table j
outside_effect e j sp a b c =
    outside_range (protect_page e.rights) (protect_other e.rights) e.protected j (each_in (add_page e.rights) e.added (each_in drop_page e.dropped sp)) c
    ∙ outside_range (add_page e.rights) (add_other e.rights) e.added j (each_in drop_page e.dropped sp) b
    ∙ outside_range drop_page drop_other e.dropped j sp a

-- how many frames are free once the pages of the range are gone
pub length-dropped : (r : PageRange) (sp : Space) → length (each_in drop_page r sp).free ≡ length sp.free + count_present (shown_memory sp.table sp.frames) r
length-dropped r sp = sym (ap (λ (s : OneSpace). s.free) (shown_drops (pages_count r) r.lo sp)) ∙ drops-free r (shown_space sp)
