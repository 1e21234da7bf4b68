-- Pages taken away: rows outside the range stay, frames stay apart, and the one-kernel machine does the same.
use Rattle.kernel_model.specs.Spaces as one
use Rattle.hybrid_laws.proofs.maps.Reading.{reads-cut}
use Rattle.hybrid_laws.specs.OneProcess.{with_table}
use Rattle.hybrid_model.specs.Globals.{Frames, copies, Rising}
use Rattle.hybrid_model.specs.Sides.{Row}
use Rattle.hybrid_model.specs.Spaces.{Space, drop_page, give_back, insert_frame, shown_memory, shown_row}
use Rattle.hybrid_model.specs.Tallies.{Reads, with_at, tally, if_same}
use Rattle.kernel_model.specs.Pages.{range}
use Rattle.kernel_model.specs.Spaces.{OneSpace, each_page}
use Rattle.mck_word.specs.MapLaws.{at-collect, at-cut, same_rows}
use Rattle.mck_word.specs.Maps.{Map, at, cut, each, and_then}
use Rattle.mck_word.specs.Pages.{in_range}
use Rattle.std.proofs.Common.{ap, arith, refl, sym, ◌∙◌}
use Rattle.std.proofs.lemmas.Bool.Decides.{nat_tests}
use Rattle.std.specs.Prelude.{zero, suc, Bool, List, None, Option, Some, [], cond, false, if◌then◌else◌, length, nat_lt, true, ℕ, ◌+◌, ◌==◌, ◌∷◌, ◌≡◌, ◌<◌}

-- ---- rows
pub drop_other : (i j : ℕ) (sp : Space) → (j == i) ≡ false → at (drop_page i sp).table j ≡ at sp.table j
unfolding drop_page
drop_other i j sp e = ap (λ (m : Reads Row). m j) (reads-cut sp.table i) ∙ rw e refl

pub drops_outside : (n low j : ℕ) (sp : Space) → in_range (range low (low + n)) j ≡ false → at (each_page drop_page n low sp).table j ≡ at sp.table j
drops_outside zero low j sp o = refl
drops_outside (suc n) low j sp o = drops_outside n (suc low) j (drop_page low sp) (narrower n low j o) ∙ drop_other low j sp (not_low n low j o)
  where
    narrower : (n low j : ℕ) → in_range (range low (low + suc n)) j ≡ false → in_range (range (suc low) (suc low + n)) j ≡ false
    narrower n low j o = grind (arith, nat_tests, o)

    not_low : (n low j : ℕ) → in_range (range low (low + suc n)) j ≡ false → (j == low) ≡ false
    not_low n low j o = grind (arith, nat_tests, o)

pub drop_frames : (i : ℕ) (sp : Space) → (drop_page i sp).frames ≡ sp.frames
unfolding drop_page
drop_frames i sp = refl

pub drops_frames : (n low : ℕ) (sp : Space) → (each_page drop_page n low sp).frames ≡ sp.frames
drops_frames zero low sp = refl
drops_frames (suc n) low sp = drops_frames n (suc low) (drop_page low sp) ∙ drop_frames low sp

-- ---- frames
pub copies-insert : (f g : ℕ) (free : List ℕ) → copies f (insert_frame g free) ≡ copies f free + if_same f g
copies-insert f g [] = omega arith
copies-insert f g (k ∷ free) = go (nat_lt g k) (copies-insert f g free)
  where
    go : (b : Bool) → copies f (insert_frame g free) ≡ copies f free + if_same f g → tally (if_same f) (if b then g ∷ k ∷ free else k ∷ insert_frame g free) ≡ if_same f k + copies f free + if_same f g
    go true again = omega arith
    go false again = omega (arith, again)

-- a list that rises from a number on
rising-from : (b : ℕ) (f : ℕ) (free : List ℕ) → b < f → Rising (b ∷ free) → (copies f free ≡ 0) → Rising (b ∷ insert_frame f free)
rising-from b f [] l h n = (l, tt)
rising-from b f (k ∷ free) l h n = go (nat_lt f k) refl (λ e. rising-from k f free e h.1 (omega (arith, n)))
  where
    apart : nat_lt f k ≡ false → k < f
    apart e = grind (arith, nat_tests, n, e)

    go : (x : Bool) → nat_lt f k ≡ x → (k < f → Rising (k ∷ insert_frame f free)) → Rising (b ∷ (if x then f ∷ k ∷ free else k ∷ insert_frame f free))
    go true e i = (l, ((let g : f < k = grind (arith, nat_tests, e) in g), h.1))
    go false e i = (h.0, i (apart e))

pub rising-insert : (f : ℕ) (free : List ℕ) → copies f free ≡ 0 → Rising free → Rising (insert_frame f free)
rising-insert f [] n h = tt
rising-insert f (k ∷ free) n h = go (nat_lt f k) refl
  where
    go : (x : Bool) → nat_lt f k ≡ x → Rising (if x then f ∷ k ∷ free else k ∷ insert_frame f free)
    go true e = ((let g : f < k = grind (arith, nat_tests, e) in g), h)
    go false e = rising-from k f free (grind (arith, nat_tests, n, e)) h (omega (arith, n))

module _ (tables : ℕ → Reads Row) (p i : ℕ) (sp : Space) (c : Frames (with_table tables p (at sp.table)) sp.free) where
  abbrev less : ℕ → Reads Row
  less = with_table tables p (with_at (at sp.table) i None)

  fewer : (b : Bool) (q j : ℕ) (r : Row) → (q == p) ≡ b → (if b then with_at (at sp.table) i None else tables q) j ≡ Some r → ((if b then at sp.table else tables q) j ≡ Some r) × (q ≡ p → j ≡ i → ⊥)
  fewer true q j r k e = (grind (arith, nat_tests, e), λ f g. grind (arith, nat_tests, e, g))
  fewer false q j r k e = (e, λ f g. grind (arith, nat_tests, k, f))

  was : (q j : ℕ) (r : Row) → less q j ≡ Some r → (with_table tables p (at sp.table) q j ≡ Some r) × (q ≡ p → j ≡ i → ⊥)
  was q j r e = fewer (q == p) q j r refl e

  own : (r : Row) → at sp.table i ≡ Some r → with_table tables p (at sp.table) p i ≡ Some r
  own r e = grind (arith, nat_tests, e)

  same-frame : (r x : Row) → r.0.0 ≡ x.0.0 → r.0 ≡ x.0
  same-frame r x e = λ k. record { 0 = e k }

  dropped : (o : Option Row) → at sp.table i ≡ o → Frames less (give_back o sp.free)
  dropped None e = record {
    not_free = λ q j r k. c.not_free q j r (was q j r k).0;
    apart = λ q j r q' j' r' k k' f. c.apart q j r q' j' r' (was q j r k).0 (was q' j' r' k').0 f;
    rising = c.rising;
  }
  dropped (Some x) e = record {
    not_free = λ q j r k.
        let w = was q j r k in
        let n = c.not_free q j r w.0 in
        let d : (r.0.0 ≡ x.0.0 → ⊥) = λ f. let a = c.apart q j r p i x w.0 (own x e) (same-frame r x f) in w.1 a.0 a.1 in
        let t = copies-insert r.0.0 x.0.0 sp.free in
        grind (arith, nat_tests, t, n, d);
    apart = λ q j r q' j' r' k k' f. c.apart q j r q' j' r' (was q j r k).0 (was q' j' r' k').0 f;
    rising = rising-insert x.0.0 sp.free (c.not_free p i x (own x e)) c.rising;
  }

  pub frames_drop : Frames (with_table tables p (at (drop_page i sp).table)) (drop_page i sp).free
  unfolding drop_page
  frames_drop = rw (reads-cut sp.table i) (dropped (at sp.table i) refl)

pub frames_drops : (tables : ℕ → Reads Row) (p n low : ℕ) (sp : Space) → Frames (with_table tables p (at sp.table)) sp.free → Frames (with_table tables p (at (each_page drop_page n low sp).table)) (each_page drop_page n low sp).free
frames_drops tables p zero low sp c = c
frames_drops tables p (suc n) low sp c = frames_drops tables p n (suc low) (drop_page low sp) (frames_drop tables p low sp c)

-- ---- what is shown
abbrev pub shown_space : Space → OneSpace
shown_space sp = record { memory = shown_memory sp.table sp.frames; free = length sp.free }

pub length-insert : (f : ℕ) (xs : List ℕ) → length (insert_frame f xs) ≡ length xs + 1
length-insert f [] = omega arith
length-insert f (x ∷ xs) = go (nat_lt f x) (length-insert f xs)
  where
    go : (b : Bool) → length (insert_frame f xs) ≡ length xs + 1 → length (if b then f ∷ x ∷ xs else x ∷ insert_frame f xs) ≡ suc (length xs) + 1
    go true e = omega arith
    go false e = omega (arith, e)

length-give_back : (frames : Map (List ℕ)) (o : Option Row) (free : List ℕ) → length (give_back o free) ≡ length free + one.present (and_then o (λ r. Some (shown_row frames r)))
length-give_back frames None free = omega arith
length-give_back frames (Some r) free = length-insert r.0.0 free

cut-each : {A B : Type 0} (f : A → B) (m : Map A) (i : ℕ) → cut (each f m) i ≡ each f (cut m i)
cut-each f m i = same_rows (cut (each f m) i) (each f (cut m i)) (λ j.
    at-cut (each f m) i j ∙ ap (cond (j == i) None) (at-collect (λ k v. Some (f v)) m j)
    ∙ go (j == i) (at m j)
    ∙ ap (λ o. and_then o (λ v. Some (f v))) (sym (at-cut m i j)) ∙ sym (at-collect (λ k v. Some (f v)) (cut m i) j))
  where
    go : (b : Bool) (o : Option _) → cond b None (and_then o (λ v. Some (f v))) ≡ and_then (cond b None o) (λ v. Some (f v))
    go true o = refl
    go false o = refl

shown_drop : (i : ℕ) (sp : Space) → one.drop_page i (shown_space sp) ≡ shown_space (drop_page i sp)
unfolding one.drop_page drop_page
shown_drop i sp =
    let a = cut-each (shown_row sp.frames) sp.table i in
    let b = sym (length-give_back sp.frames (at sp.table i) sp.free ∙ ap (λ o. length sp.free + one.present o) (sym (at-collect (λ k v. Some (shown_row sp.frames v)) sp.table i))) in
    λ k. record { memory = a k; free = b k }

pub shown_drops : (n low : ℕ) (sp : Space) → each_page one.drop_page n low (shown_space sp) ≡ shown_space (each_page drop_page n low sp)
shown_drops zero low sp = refl
shown_drops (suc n) low sp = ap (each_page one.drop_page n (suc low)) (shown_drop low sp) ∙ shown_drops n (suc low) (drop_page low sp)

pub drop_own : (i : ℕ) (sp : Space) → at (drop_page i sp).table i ≡ None
unfolding drop_page
drop_own i sp = at-cut sp.table i i ∙ (let e : (i == i) ≡ true = grind (arith, nat_tests) in rw e refl)
