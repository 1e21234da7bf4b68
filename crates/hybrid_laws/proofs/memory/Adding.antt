-- Pages added at the lowest free frames, and pages with other rights: other rows stay, frames stay apart, and the one-kernel machine does the same.
use Rattle.kernel_model.specs.Spaces as one
use Rattle.hybrid_laws.proofs.maps.Reading.{reads-put}
use Rattle.hybrid_laws.proofs.memory.Dropping.{shown_space}
use Rattle.hybrid_laws.proofs.node.Primitives.{at-change}
use Rattle.hybrid_laws.specs.OneProcess.{with_table}
use Rattle.hybrid_model.specs.Globals.{Frames, Rising, copies}
use Rattle.hybrid_model.specs.Sides.{Row}
use Rattle.hybrid_model.specs.Spaces.{Space, add_page, first_number, frame_bytes, protect_page, rest_numbers, shown_memory, shown_row}
use Rattle.hybrid_model.specs.Tallies.{Reads, with_at}
use Rattle.isa_model.specs.Memory.{Page}
use Rattle.kernel_model.specs.Pages.{range, zero_page}
use Rattle.kernel_model.specs.Spaces.{each_in, each_page}
use Rattle.mck_flags.specs.declared.rights.Rights.{Rights}
use Rattle.mck_word.specs.MapLaws.{at-collect, at-put, same_rows}
use Rattle.mck_word.specs.Maps.{Map, and_then, at, change, put}
use Rattle.mck_word.specs.Pages.{in_range}
use Rattle.mck_word.specs.declared.Frame.{Frame}
use Rattle.mck_word.specs.declared.PageRange.{PageRange}
use Rattle.std.proofs.Common.{ap, arith, inl, inr, refl, sym, ◌∙◌}
use Rattle.std.proofs.lemmas.Bool.Decides.{nat_tests}
use Rattle.std.specs.Prelude.{Bool, List, None, Option, Some, [], cond, false, if◌then◌else◌, length, option_map, suc, true, unwrap_or, zero, ℕ, ◌+◌, ◌-◌, ◌<◌, ◌==◌, ◌∷◌, ◌≡◌, ◌≢◌, ◌≤◌, ◌⊎◌}

-- ---- other rows
put_other : (m : Map Row) (i j : ℕ) (r : Row) → (j == i) ≡ false → at (put m i r) j ≡ at m j
put_other m i j r e = at-put m i r j ∙ rw e refl

pub add_other : (rights : Rights) (i j : ℕ) (sp : Space) → (j == i) ≡ false → at (add_page rights i sp).table j ≡ at sp.table j
unfolding add_page
add_other rights i j sp e = put_other sp.table i j (record { 0 = first_number sp.free }, rights) e

pub protect_other : (rights : Rights) (i j : ℕ) (sp : Space) → (j == i) ≡ false → at (protect_page rights i sp).table j ≡ at sp.table j
unfolding protect_page
protect_other rights i j sp e = at-change sp.table i (λ (r : Row). (r.0, rights)) j ∙ rw e refl

-- whatever is done to each page of a range leaves the rows outside it
pub outside_each : (f : ℕ → Space → Space) → ((i j : ℕ) (sp : Space) → (j == i) ≡ false → at (f i sp).table j ≡ at sp.table j) → (n low j : ℕ) (sp : Space) → in_range (range low (low + n)) j ≡ false → at (each_page f n low sp).table j ≡ at sp.table j
outside_each f other zero low j sp o = refl
outside_each f other (suc n) low j sp o = outside_each f other n (suc low) j (f low sp) (narrower n low j o) ∙ other low j sp (not_low n low j o)
  where
    narrower : (n low j : ℕ) → in_range (range low (low + suc n)) j ≡ false → in_range (range (suc low) (suc low + n)) j ≡ false
    narrower n low j o = grind (arith, nat_tests, o)

    not_low : (n low j : ℕ) → in_range (range low (low + suc n)) j ≡ false → (j == low) ≡ false
    not_low n low j o = grind (arith, nat_tests, o)

pub outside_range : (f : ℕ → Space → Space) → ((i j : ℕ) (sp : Space) → (j == i) ≡ false → at (f i sp).table j ≡ at sp.table j) → (r : PageRange) (j : ℕ) (sp : Space) → in_range r j ≡ false → at (each_in f r sp).table j ≡ at sp.table j
outside_range f other r j sp o = outside_each f other (r.hi - r.lo) r.lo j sp (same r.lo r.hi o)
  where
    same : (lo hi : ℕ) → in_range (range lo hi) j ≡ false → in_range (range lo (lo + (hi - lo))) j ≡ false
    same lo hi o = grind (arith, nat_tests, o)

-- an induction over the pages
pub over_pages : (P : Space → Type 0) (f : ℕ → Space → Space) → ((i : ℕ) (sp : Space) → P sp → P (f i sp)) → (n low : ℕ) (sp : Space) → P sp → P (each_page f n low sp)
over_pages P f h zero low sp p = p
over_pages P f h (suc n) low sp p = over_pages P f h n (suc low) (f low sp) (h low sp p)

-- ---- frames
copies-first : (f g : ℕ) (free : List ℕ) → copies f (g ∷ free) ≡ 0 → copies f free ≡ 0
copies-first f g free e = omega (arith, e)

-- in a list that rises, the first stands once
pub rising-above : (f : ℕ) (free : List ℕ) → Rising (f ∷ free) → copies f free ≡ 0
rising-above f [] h = refl
rising-above f (g ∷ free) h = let a = h.0 in let b = above f g free a h.1 in grind (arith, nat_tests, a, b)
  where
    above : (f g : ℕ) (free : List ℕ) → f < g → Rising (g ∷ free) → copies f free ≡ 0
    above f g [] l h = refl
    above f g (k ∷ free) l h = let a = h.0 in let b = above f k free (omega (arith, l, a)) h.1 in grind (arith, nat_tests, l, a, b)

pub rising-rest : (f : ℕ) (free : List ℕ) → Rising (f ∷ free) → Rising free
rising-rest f [] h = tt
rising-rest f (g ∷ free) h = h.1

module _ (tables : ℕ → Reads Row) (p i : ℕ) (rights : Rights) (sp : Space) (f : ℕ) (free : List ℕ) (first : sp.free ≡ f ∷ free) (c : Frames (with_table tables p (at sp.table)) sp.free) where
  abbrev pub new_row : Row
  new_row = (record { 0 = f }, rights)

  abbrev more : ℕ → Reads Row
  more = with_table tables p (with_at (at sp.table) i (Some new_row))

  rising : Rising (f ∷ free)
  rising = rw first at c.rising

  -- a row after is the new one, or was there
  pub was-or-new : (q j : ℕ) (r : Row) → more q j ≡ Some r → ((q ≡ p) × (j ≡ i) × (r ≡ new_row)) ⊎ (with_table tables p (at sp.table) q j ≡ Some r)
  was-or-new q j r e = go (q == p) refl e
    where
      own : (d : Bool) → (j == i) ≡ d → (if d then Some new_row else at sp.table j) ≡ Some r → ((j ≡ i) × (r ≡ new_row)) ⊎ (at sp.table j ≡ Some r)
      own true g k = inl (grind (arith, nat_tests, g), (let s : new_row ≡ r = cc in sym s))
      own false g k = inr k

      as-own : q ≡ p → ((j ≡ i) × (r ≡ new_row)) ⊎ (at sp.table j ≡ Some r) → ((q ≡ p) × (j ≡ i) × (r ≡ new_row)) ⊎ (at sp.table j ≡ Some r)
      as-own f (inl x) = inl (f, x.0, x.1)
      as-own f (inr x) = inr x

      go : (b : Bool) → (q == p) ≡ b → (if b then with_at (at sp.table) i (Some new_row) else tables q) j ≡ Some r → ((q ≡ p) × (j ≡ i) × (r ≡ new_row)) ⊎ ((if b then at sp.table else tables q) j ≡ Some r)
      go true f k = as-own (grind (arith, nat_tests, f)) (own (j == i) refl k)
      go false f k = inr k

  old-not : (q j : ℕ) (r : Row) → with_table tables p (at sp.table) q j ≡ Some r → r.0.0 ≢ f
  old-not q j r e g = let n = rw first at (c.not_free q j r e) in grind (arith, nat_tests, n, g)

  added : Frames more free
  added = record {
    not_free = λ q j r e. elim (was-or-new q j r e) [
      | inl x ↦ ap (λ (z : Row). copies z.0.0 free) x.2 ∙ rising-above f free rising
      | inr x ↦ copies-first r.0.0 f free (rw first at (c.not_free q j r x))
    ];
    apart = λ q j r q' j' r' e e' g. elim (was-or-new q j r e) [
      | inl x ↦ elim (was-or-new q' j' r' e') [
        | inl y ↦ (x.0 ∙ sym y.0, x.1 ∙ sym y.1)
        | inr y ↦ absurd (old-not q' j' r' y (ap (λ (z : Frame). z.0) (sym g) ∙ ap (λ (z : Row). z.0.0) x.2))
      ]
      | inr x ↦ elim (was-or-new q' j' r' e') [
        | inl y ↦ absurd (old-not q j r x (ap (λ (z : Frame). z.0) g ∙ ap (λ (z : Row). z.0.0) y.2))
        | inr y ↦ c.apart q j r q' j' r' x y g
      ]
    ];
    rising = rising-rest f free rising;
  }

pub frames_add : (tables : ℕ → Reads Row) (p i : ℕ) (rights : Rights) (sp : Space) → 1 ≤ length sp.free → Frames (with_table tables p (at sp.table)) sp.free → Frames (with_table tables p (at (add_page rights i sp).table)) (add_page rights i sp).free
unfolding add_page
frames_add tables p i rights sp l c = go sp.free refl
  where
    go : (o : List ℕ) → sp.free ≡ o → Frames (with_table tables p (at (put sp.table i (record { 0 = first_number sp.free }, rights)))) (rest_numbers sp.free)
    go [] e = absurd (let k = rw e at l in omega (arith, k))
    go (f ∷ free) e = rw (e, reads-put sp.table i (record { 0 = f }, rights)) (added tables p i rights sp f free e c)

pub frames_protect : (tables : ℕ → Reads Row) (p i : ℕ) (rights : Rights) (sp : Space) → Frames (with_table tables p (at sp.table)) sp.free → Frames (with_table tables p (at (protect_page rights i sp).table)) (protect_page rights i sp).free
unfolding protect_page
frames_protect tables p i rights sp c = record {
  not_free = λ q j r e. let w = was q j r e in ap (λ (z : Frame). copies z.0 sp.free) w.2 ∙ c.not_free q j w.0 w.1;
  apart = λ q j r q' j' r' e e' g. (let w = was q j r e in let v = was q' j' r' e' in c.apart q j w.0 q' j' v.0 w.1 v.1 (sym w.2 ∙ g ∙ v.2));
  rising = c.rising;
}
  where
    changed : (j : ℕ) → at (change sp.table i (λ (r : Row). (r.0, rights))) j ≡ cond (j == i) (option_map (λ (r : Row). (r.0, rights)) (at sp.table i)) (at sp.table j)
    changed j = at-change sp.table i (λ (r : Row). (r.0, rights)) j

    row : (o : Option Row) (r : Row) → option_map (λ (r : Row). (r.0, rights)) o ≡ Some r → (x : Row) × (o ≡ Some x) × (r.0 ≡ x.0)
    row None r e = absurd (grind (arith, e))
    row (Some x) r e = let s : (x.0, rights) ≡ r = cc in (x, refl, ap (λ (z : Row). z.0) (sym s))

    here : (j : ℕ) (r : Row) (d : Bool) → (j == i) ≡ d → cond d (option_map (λ (r : Row). (r.0, rights)) (at sp.table i)) (at sp.table j) ≡ Some r → (x : Row) × (at sp.table j ≡ Some x) × (r.0 ≡ x.0)
    here j r true e k = let x = row (at sp.table i) r k in let g : j ≡ i = grind (arith, nat_tests, e) in (x.0, ap (at sp.table) g ∙ x.1, x.2)
    here j r false e k = (r, k, refl)

    was : (q j : ℕ) (r : Row) → with_table tables p (at (change sp.table i (λ (r : Row). (r.0, rights)))) q j ≡ Some r → (x : Row) × (with_table tables p (at sp.table) q j ≡ Some x) × (r.0 ≡ x.0)
    was q j r e = go (q == p) refl e
      where
        go : (b : Bool) → (q == p) ≡ b → (if b then at (change sp.table i (λ (r : Row). (r.0, rights))) else tables q) j ≡ Some r → (x : Row) × ((if b then at sp.table else tables q) j ≡ Some x) × (r.0 ≡ x.0)
        go true f k = here j r (j == i) refl (sym (changed j) ∙ k)
        go false f k = (r, k, refl)

-- ---- what is shown
-- a new page at a frame that no row has
module _ (i : ℕ) (rights : Rights) (sp : Space) (f : ℕ) (free : List ℕ) (first : sp.free ≡ f ∷ free) (apart : (j : ℕ) (r : Row) → at sp.table j ≡ Some r → r.0.0 ≢ f) (bytes : List ℕ) where
  abbrev frames' : Map (List ℕ)
  frames' = put sp.frames f bytes

  own-bytes : frame_bytes frames' f ≡ bytes
  own-bytes = ap (λ o. unwrap_or o zero_page) (at-put sp.frames f bytes f) ∙ (let e : (f == f) ≡ true = grind (arith, nat_tests) in rw e refl)

  other-bytes : (g : ℕ) → g ≢ f → frame_bytes frames' g ≡ frame_bytes sp.frames g
  other-bytes g n = ap (λ o. unwrap_or o zero_page) (at-put sp.frames f bytes g) ∙ (let e : (g == f) ≡ false = grind (arith, nat_tests, n) in rw e refl)

  pub shown_lowest : put (shown_memory sp.table sp.frames) i (record { rights = rights; bytes = bytes }) ≡ shown_memory (put sp.table i (record { 0 = f }, rights)) frames'
  shown_lowest = same_rows _ _ (λ j.
      at-put (shown_memory sp.table sp.frames) i (record { rights = rights; bytes = bytes }) j
      ∙ ap (cond (j == i) (Some (record { rights = rights; bytes = bytes }))) (at-collect (λ k v. Some (shown_row sp.frames v)) sp.table j)
      ∙ row j (j == i) refl (at sp.table j) refl
      ∙ ap (λ o. and_then o (λ v. Some (shown_row frames' v))) (sym (at-put sp.table i (record { 0 = f }, rights) j))
      ∙ sym (at-collect (λ k v. Some (shown_row frames' v)) (put sp.table i (record { 0 = f }, rights)) j))
    where
      row : (j : ℕ) (b : Bool) → (j == i) ≡ b → (o : Option Row) → at sp.table j ≡ o → cond b (Some (record { rights = rights; bytes = bytes })) (and_then o (λ v. Some (shown_row sp.frames v))) ≡ and_then (cond b (Some (record { 0 = f }, rights)) o) (λ v. Some (shown_row frames' v))
      row j true e o g = let k = sym own-bytes in λ l. Some (record { rights = rights; bytes = k l })
      row j false e None g = refl
      row j false e (Some r) g = let k = sym (other-bytes r.0.0 (apart j r g)) in λ l. Some (record { rights = r.1; bytes = k l })

pub shown_add : (rights : Rights) (i : ℕ) (sp : Space) → 1 ≤ length sp.free → ((j : ℕ) (r : Row) → at sp.table j ≡ Some r → copies r.0.0 sp.free ≡ 0) → one.add_page rights i (shown_space sp) ≡ shown_space (add_page rights i sp)
unfolding one.add_page add_page
shown_add rights i sp l n = go sp.free refl
  where
    go : (o : List ℕ) → sp.free ≡ o → one.add_page rights i (shown_space sp) ≡ shown_space (add_page rights i sp)
    go [] e = absurd (let k = rw e at l in omega (arith, k))
    go (f ∷ free) e =
        let a = shown_lowest i rights sp f free e (λ j r k g. (let z = rw e at (n j r k) in grind (arith, nat_tests, z, g))) zero_page in
        let b : length (f ∷ free) - 1 ≡ length free = less (length free) in
        rw e (λ k. record { memory = a k; free = b k })
      where
        less : (n : ℕ) → suc n - 1 ≡ n
        less n = omega arith

pub shown_protect : (rights : Rights) (i : ℕ) (sp : Space) → one.protect_page rights i (shown_space sp) ≡ shown_space (protect_page rights i sp)
unfolding one.protect_page protect_page
shown_protect rights i sp = let a = changes in λ k. record { memory = a k; free = length sp.free }
  where
    changes : change (shown_memory sp.table sp.frames) i (λ (x : Page). record x { rights = rights }) ≡ shown_memory (change sp.table i (λ (r : Row). (r.0, rights))) sp.frames
    changes = same_rows _ _ (λ j.
        at-change (shown_memory sp.table sp.frames) i (λ (x : Page). record x { rights = rights }) j
        ∙ (λ k. cond (j == i) (option_map (λ (x : Page). record x { rights = rights }) (at-collect (λ l v. Some (shown_row sp.frames v)) sp.table i k)) (at-collect (λ l v. Some (shown_row sp.frames v)) sp.table j k))
        ∙ row (j == i) (at sp.table i) (at sp.table j)
        ∙ ap (λ o. and_then o (λ v. Some (shown_row sp.frames v))) (sym (at-change sp.table i (λ (r : Row). (r.0, rights)) j))
        ∙ sym (at-collect (λ l v. Some (shown_row sp.frames v)) (change sp.table i (λ (r : Row). (r.0, rights))) j))
      where
        own : (o : Option Row) → option_map (λ (x : Page). record x { rights = rights }) (and_then o (λ v. Some (shown_row sp.frames v))) ≡ and_then (option_map (λ (r : Row). (r.0, rights)) o) (λ v. Some (shown_row sp.frames v))
        own None = refl
        own (Some r) = refl

        row : (b : Bool) (o q : Option Row) → cond b (option_map (λ (x : Page). record x { rights = rights }) (and_then o (λ v. Some (shown_row sp.frames v)))) (and_then q (λ v. Some (shown_row sp.frames v))) ≡ and_then (cond b (option_map (λ (r : Row). (r.0, rights)) o) q) (λ v. Some (shown_row sp.frames v))
        row true o q = own o
        row false o q = refl

pub protect_own : (rights : Rights) (i : ℕ) (sp : Space) (r : Row) → at sp.table i ≡ Some r → at (protect_page rights i sp).table i ≡ Some (r.0, rights)
unfolding protect_page
protect_own rights i sp r e = at-change sp.table i (λ (x : Row). (x.0, rights)) i ∙ (let s : (i == i) ≡ true = grind (arith, nat_tests) in rw (s, e) refl)
