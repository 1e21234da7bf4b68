-- Where the rows of a process come from that an effect leaves: each was there with its frame, or has a frame with zeros that was free or stood in a row that is dropped.
use Rattle.hybrid_laws.proofs.memory.Dropping.{copies-insert}
use Rattle.hybrid_laws.proofs.memory.Effects.{length-add}
use Rattle.hybrid_laws.proofs.node.Primitives.{at-change}
use Rattle.hybrid_model.specs.Globals.{copies}
use Rattle.hybrid_model.specs.Sides.{Row}
use Rattle.hybrid_model.specs.Spaces.{Space, add_page, after_effect, drop_page, first_number, frame_bytes, give_back, protect_page, rest_numbers}
use Rattle.hybrid_model.specs.Tallies.{if_same}
use Rattle.kernel_model.specs.MemoryCalls.{Effect}
use Rattle.kernel_model.specs.Pages.{pages_count, zero_page}
use Rattle.kernel_model.specs.Spaces.{each_in, each_page}
use Rattle.mck_flags.specs.declared.rights.Rights.{Rights}
use Rattle.mck_word.specs.MapLaws.{at-cut, at-put}
use Rattle.mck_word.specs.Maps.{Map, put, at}
use Rattle.mck_word.specs.declared.Frame.{Frame}
use Rattle.std.proofs.Common.{ap, arith, inl, inr, refl, subst, sym, ◌∙◌}
use Rattle.std.proofs.lemmas.Bool.Decides.{nat_tests}
use Rattle.std.specs.Prelude.{Bool, List, None, Option, Some, [], cond, false, length, option_map, suc, true, unwrap_or, zero, ℕ, ◌+◌, ◌<◌, ◌==◌, ◌∷◌, ◌≡◌, ◌≤◌, ◌⊎◌}

-- a row that was there with its frame, or has a frame that was free, with zeros
abbrev pub Came : Space → Space → ℕ → Row → Type 0
Came a z i r = ((o : Row) × (at a.table i ≡ Some o) × (o.0 ≡ r.0)) ⊎ ((1 ≤ copies r.0.0 a.free) × (frame_bytes z.frames r.0.0 ≡ zero_page))

-- ---- pages added
zero-put : (frames : Map (List ℕ)) (g f : ℕ) → frame_bytes frames f ≡ zero_page → frame_bytes (put frames g zero_page) f ≡ zero_page
zero-put frames g f e = ap (λ (o : Option (List ℕ)). unwrap_or o zero_page) (at-put frames g zero_page f) ∙ go (f == g)
  where
    go : (b : Bool) → unwrap_or (cond b (Some zero_page) (at frames f)) zero_page ≡ zero_page
    go true = refl
    go false = e

zero-stays : (rights : Rights) (n low f : ℕ) (sp : Space) → frame_bytes sp.frames f ≡ zero_page → frame_bytes (each_page (add_page rights) n low sp).frames f ≡ zero_page
unfolding add_page
zero-stays rights zero low f sp e = e
zero-stays rights (suc n) low f sp e = zero-stays rights n (suc low) f (add_page rights low sp) (zero-put sp.frames (first_number sp.free) f e)

came-adds : (rights : Rights) (n low : ℕ) (sp : Space) → n ≤ length sp.free → (j : ℕ) (r : Row) → at (each_page (add_page rights) n low sp).table j ≡ Some r → Came sp (each_page (add_page rights) n low sp) j r
unfolding add_page
came-adds rights zero low sp l j r e = inl (r, e, refl)
came-adds rights (suc n) low sp l j r e = go (came-adds rights n (suc low) (add_page rights low sp) (length-add rights low sp n l) j r e)
  where
    first-copies : (o : List ℕ) → suc n ≤ length o → 1 ≤ copies (first_number o) o
    first-copies [] k = absurd (omega (arith, k))
    first-copies (f ∷ free) k = let s : if_same f f ≡ 1 = grind (arith, nat_tests) in omega (arith, s)

    more : (o : List ℕ) (f : ℕ) → 1 ≤ copies f (rest_numbers o) → 1 ≤ copies f o
    more [] f k = k
    more (g ∷ free) f k = omega (arith, k)

    first-zero : frame_bytes (put sp.frames (first_number sp.free) zero_page) (first_number sp.free) ≡ zero_page
    first-zero = ap (λ (o : Option (List ℕ)). unwrap_or o zero_page) (at-put sp.frames (first_number sp.free) zero_page (first_number sp.free)) ∙ (let b : (first_number sp.free == first_number sp.free) ≡ true = grind (arith, nat_tests) in ap (λ x. unwrap_or (cond x (Some zero_page) (at sp.frames (first_number sp.free))) zero_page) b)

    row : (o : Row) → o.0 ≡ r.0 → (b : Bool) → cond b (Some (record { 0 = first_number sp.free }, rights)) (at sp.table j) ≡ Some o → Came sp (each_page (add_page rights) n (suc low) (add_page rights low sp)) j r
    row o same false k = inl (o, k, same)
    row o same true k =
        let y : (record { 0 = first_number sp.free }, rights) ≡ o = cc in
        let f : first_number sp.free ≡ r.0.0 = ap (λ (x : Row). x.0.0) y ∙ ap (λ (x : Frame). x.0) same in
        inr (subst (λ (x : ℕ). 1 ≤ copies x sp.free) f (first-copies sp.free l), zero-stays rights n (suc low) r.0.0 (add_page rights low sp) (subst (λ (x : ℕ). frame_bytes (put sp.frames (first_number sp.free) zero_page) x ≡ zero_page) f first-zero))

    go : Came (add_page rights low sp) (each_page (add_page rights) n (suc low) (add_page rights low sp)) j r → Came sp (each_page (add_page rights) n (suc low) (add_page rights low sp)) j r
    go (inl o) = row o.0 o.2 (j == low) (sym (at-put sp.table low (record { 0 = first_number sp.free }, rights) j) ∙ o.1)
    go (inr k) = inr (more sp.free r.0.0 k.0, k.1)

-- ---- pages protected
was-protected : (rights : Rights) (n low : ℕ) (sp : Space) (j : ℕ) (r : Row) → at (each_page (protect_page rights) n low sp).table j ≡ Some r → (o : Row) × (at sp.table j ≡ Some o) × (o.0 ≡ r.0)
unfolding protect_page
was-protected rights zero low sp j r e = (r, e, refl)
was-protected rights (suc n) low sp j r e = go (was-protected rights n (suc low) (protect_page rights low sp) j r e)
  where
    mapped : (o : Option Row) (x : Row) → option_map (λ (y : Row). (y.0, rights)) o ≡ Some x → (y : Row) × (o ≡ Some y) × (y.0 ≡ x.0)
    mapped None x k = absurd (grind (arith, k))
    mapped (Some y) x k = let s : (y.0, rights) ≡ x = cc in (y, refl, ap (λ (z : Row). z.0) s)

    row : (x : Row) → x.0 ≡ r.0 → (b : Bool) → cond b (option_map (λ (y : Row). (y.0, rights)) (at sp.table low)) (at sp.table j) ≡ Some x → (j == low) ≡ b → (o : Row) × (at sp.table j ≡ Some o) × (o.0 ≡ r.0)
    row x same false k d = (x, k, same)
    row x same true k d = let y : j ≡ low = grind (arith, nat_tests, d) in let m = mapped (at sp.table low) x k in (m.0, ap (at sp.table) y ∙ m.1, m.2 ∙ same)

    go : (x : Row) × (at (protect_page rights low sp).table j ≡ Some x) × (x.0 ≡ r.0) → (o : Row) × (at sp.table j ≡ Some o) × (o.0 ≡ r.0)
    go x = row x.0 x.2 (j == low) (sym (at-change sp.table low (λ (y : Row). (y.0, rights)) j) ∙ x.1) refl

protect-frames : (rights : Rights) (n low : ℕ) (sp : Space) → (each_page (protect_page rights) n low sp).frames ≡ sp.frames
unfolding protect_page
protect-frames rights zero low sp = refl
protect-frames rights (suc n) low sp = protect-frames rights n (suc low) (protect_page rights low sp)

-- ---- pages dropped
was-dropped : (n low : ℕ) (sp : Space) (j : ℕ) (r : Row) → at (each_page drop_page n low sp).table j ≡ Some r → at sp.table j ≡ Some r
unfolding drop_page
was-dropped zero low sp j r e = e
was-dropped (suc n) low sp j r e = go (j == low) (sym (at-cut sp.table low j) ∙ was-dropped n (suc low) (drop_page low sp) j r e)
  where
    go : (b : Bool) → cond b None (at sp.table j) ≡ Some r → at sp.table j ≡ Some r
    go true k = absurd (grind (arith, k))
    go false k = k

-- a frame that is free after drops was free, or stood in a row of their range
abbrev pub WasIn : ℕ → ℕ → Space → ℕ → Type 0
WasIn low high sp f = (j : ℕ) × (r : Row) × (at sp.table j ≡ Some r) × (r.0.0 ≡ f) × (low ≤ j) × (j < high)

freed-from : (n low : ℕ) (sp : Space) (f : ℕ) → 1 ≤ copies f (each_page drop_page n low sp).free → (1 ≤ copies f sp.free) ⊎ WasIn low (low + n) sp f
unfolding drop_page
freed-from zero low sp f l = inl l
freed-from (suc n) low sp f l = go (freed-from n (suc low) (drop_page low sp) f l)
  where
    given : (o : Option Row) → at sp.table low ≡ o → 1 ≤ copies f (give_back o sp.free) → (1 ≤ copies f sp.free) ⊎ WasIn low (low + suc n) sp f
    given None e k = inl k
    given (Some r) e k = by-same (f == r.0.0) refl
      where
        by-same : (b : Bool) → (f == r.0.0) ≡ b → (1 ≤ copies f sp.free) ⊎ WasIn low (low + suc n) sp f
        by-same true g = inr (low, r, e, grind (arith, nat_tests, g), omega arith, omega arith)
        by-same false g = inl (let c = copies-insert f r.0.0 sp.free in let i : if_same f r.0.0 ≡ 0 = rw g refl in omega (arith, c, k, i))

    row : (j : ℕ) (r : Row) (b : Bool) → cond b None (at sp.table j) ≡ Some r → at sp.table j ≡ Some r
    row j r true k = absurd (grind (arith, k))
    row j r false k = k

    go : (1 ≤ copies f (drop_page low sp).free) ⊎ WasIn (suc low) (suc low + n) (drop_page low sp) f → (1 ≤ copies f sp.free) ⊎ WasIn low (low + suc n) sp f
    go (inl k) = given (at sp.table low) refl k
    go (inr w) = let a = w.4 in let b = w.5 in inr (w.0, w.1, row w.0 w.1 (w.0 == low) (sym (at-cut sp.table low w.0) ∙ w.2), w.3, omega (arith, a), omega (arith, b))

-- ---- a whole effect
module _ (e : Effect) (sp : Space) (l : pages_count e.added ≤ length (each_in drop_page e.dropped sp).free) where
  abbrev less : Space
  less = each_in drop_page e.dropped sp

  abbrev more : Space
  more = each_in (add_page e.rights) e.added less

  -- a row that was there with its frame, or has a frame with zeros that was free or stood in a row that is dropped
  abbrev pub CameFrom : ℕ → Row → Type 0
  CameFrom j r = ((o : Row) × (at sp.table j ≡ Some o) × (o.0 ≡ r.0)) ⊎ (((1 ≤ copies r.0.0 sp.free) ⊎ WasIn e.dropped.lo (e.dropped.lo + pages_count e.dropped) sp r.0.0) × (frame_bytes (after_effect e sp).frames r.0.0 ≡ zero_page))

  pub came-effect : (j : ℕ) (r : Row) → at (after_effect e sp).table j ≡ Some r → CameFrom j r
  came-effect j r k = let o = was-protected e.rights (pages_count e.protected) e.protected.lo more j r k in go o.0 o.2 (came-adds e.rights (pages_count e.added) e.added.lo less l j o.0 o.1)
    where
      go : (o : Row) → o.0 ≡ r.0 → Came less more j o → CameFrom j r
      go o s (inl x) = inl (x.0, was-dropped (pages_count e.dropped) e.dropped.lo sp j x.0 x.1, x.2 ∙ s)
      go o s (inr x) =
          let f : o.0.0 ≡ r.0.0 = ap (λ (y : Frame). y.0) s in
          inr (
            freed-from (pages_count e.dropped) e.dropped.lo sp r.0.0 (subst (λ (y : ℕ). 1 ≤ copies y less.free) f x.0),
            ap (λ (m : Map (List ℕ)). frame_bytes m r.0.0) (protect-frames e.rights (pages_count e.protected) e.protected.lo more) ∙ subst (λ (y : ℕ). frame_bytes more.frames y ≡ zero_page) f x.1,
          )
