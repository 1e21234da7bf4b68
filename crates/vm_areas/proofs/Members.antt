-- The pages of ranges, with one more and one less.
use Rattle.mck_word.specs.Pages.{in_range, in_ranges}
use Rattle.mck_word.specs.declared.PageRange.{PageRange}
use Rattle.std.proofs.Common.{ap, arith, get_or, refl, sym, take, ◌∙◌}
use Rattle.std.proofs.lemmas.Bool.Decides.{nat_tests}
use Rattle.std.specs.Prelude.{Bool, List, [], ◌∷◌, ◌++◌, cond, false, length, max, min, nat_lt, not, suc, true, zero, ℕ, ◌&&◌, ◌<◌, ◌||◌, ◌≡◌, ◌≤◌}
use Rattle.vm_areas.proofs.Rising.{Rises-end}
use Rattle.vm_areas.specs.Ranges.{Rises, joined, minus, piece, range, with_range, without}

or-assoc : (a b c : Bool) → ((a || b) || c) ≡ (a || (b || c))
or-assoc true b c = refl
or-assoc false b c = refl

or-comm : (a b : Bool) → (a || b) ≡ (b || a)
or-comm true true = refl
or-comm true false = refl
or-comm false true = refl
or-comm false false = refl

pub in_ranges-append : (xs ys : List PageRange) (p : ℕ) → in_ranges (xs ++ ys) p ≡ (in_ranges xs p || in_ranges ys p)
in_ranges-append [] ys p = refl
in_ranges-append (x ∷ xs) ys p = ap (λ b. in_range x p || b) (in_ranges-append xs ys p) ∙ sym (or-assoc (in_range x p) (in_ranges xs p) (in_ranges ys p))

empty-range : (lo hi p : ℕ) → nat_lt lo hi ≡ false → in_range (range lo hi) p ≡ false
empty-range lo hi p e = grind (arith, nat_tests, e)

pub in-piece : (lo hi p : ℕ) → in_ranges (piece lo hi) p ≡ in_range (range lo hi) p
in-piece lo hi p = by_test (nat_lt lo hi) refl
  where
    off : (b : Bool) → (b || false) ≡ b
    off true = refl
    off false = refl

    by_test : (b : Bool) → nat_lt lo hi ≡ b → in_ranges (cond b (range lo hi ∷ []) []) p ≡ in_range (range lo hi) p
    by_test true e = off (in_range (range lo hi) p)
    by_test false e = sym (empty-range lo hi p e)

pub in-minus : (r x : PageRange) (p : ℕ) → r.lo < r.hi → in_ranges (minus r x) p ≡ (in_range x p && not (in_range r p))
in-minus r x p some = in_ranges-append (piece x.lo (min x.hi r.lo)) (piece (max x.lo r.hi) x.hi) p
    ∙ (λ i. in-piece x.lo (min x.hi r.lo) p i || in-piece (max x.lo r.hi) x.hi p i) ∙ tests
  where
    tests : (in_range (range x.lo (min x.hi r.lo)) p || in_range (range (max x.lo r.hi) x.hi) p) ≡ (in_range x p && not (in_range r p))
    tests = grind (arith, nat_tests, some)

pub in-without : (r : PageRange) (xs : List PageRange) (p : ℕ) → r.lo < r.hi → in_ranges (without r xs) p ≡ (in_ranges xs p && not (in_range r p))
in-without r [] p some = refl
in-without r (x ∷ xs) p some = in_ranges-append (minus r x) (without r xs) p ∙ (λ i. in-minus r x p some i || in-without r xs p some i) ∙ spread (in_range x p) (in_ranges xs p) (not (in_range r p))
  where
    spread : (a b c : Bool) → ((a && c) || (b && c)) ≡ ((a || b) && c)
    spread true true true = refl
    spread true true false = refl
    spread true false true = refl
    spread true false false = refl
    spread false b c = refl

in-joined : (r x : PageRange) (p : ℕ) → r.lo < r.hi → x.lo < x.hi → nat_lt x.hi r.lo ≡ false → nat_lt r.hi x.lo ≡ false → in_range (joined r x) p ≡ (in_range x p || in_range r p)
in-joined r x p some other a b = grind (arith, nat_tests, some, other, a, b)

pub in-with_range : (r : PageRange) (xs : List PageRange) (low p : ℕ) → r.lo < r.hi → Rises low xs → in_ranges (with_range r xs) p ≡ (in_ranges xs p || in_range r p)
in-with_range r [] low p some h = or-comm (in_range r p) false
in-with_range r (x ∷ xs) low p some h =
    elim (nat_lt x.hi r.lo) as (λ a. nat_lt x.hi r.lo ≡ a → in_ranges (cond a (x ∷ with_range r xs) (cond (nat_lt r.hi x.lo) (r ∷ x ∷ xs) (with_range (joined r x) xs))) p ≡ ((in_range x p || in_ranges xs p) || in_range r p)) [
      | true ↦ λ e. ap (λ t. in_range x p || t) (in-with_range r xs x.hi p some h.2) ∙ sym (or-assoc (in_range x p) (in_ranges xs p) (in_range r p))
      | false ↦ λ e. elim (nat_lt r.hi x.lo) as (λ b. nat_lt r.hi x.lo ≡ b → in_ranges (cond b (r ∷ x ∷ xs) (with_range (joined r x) xs)) p ≡ ((in_range x p || in_ranges xs p) || in_range r p)) [
        | true ↦ λ f. or-comm (in_range r p) (in_range x p || in_ranges xs p)
        | false ↦ λ f. in-with_range (joined r x) xs x.hi p (let s = some in omega arith) h.2 ∙ last (in_range x p) (in_ranges xs p) (in_range r p) _ (in-joined r x p some h.1 e f)
      ] refl
    ] refl
  where
    last : (a b c d : Bool) → d ≡ (a || c) → (b || d) ≡ ((a || b) || c)
    last true true c d e = refl
    last true false c d e = e
    last false true c d e = refl
    last false false c d e = e

pub in-at : (xs : List PageRange) (i p : ℕ) (d : PageRange) → i < length xs → in_range (get_or xs i d) p ≡ true → in_ranges xs p ≡ true
in-at [] i p d l e = absurd (omega arith)
in-at (x ∷ xs) zero p d l e = rw e refl
in-at (x ∷ xs) (suc i) p d l e = right (in_range x p) _ (in-at xs i p d (omega arith) e)
  where
    right : (a b : Bool) → b ≡ true → (a || b) ≡ true
    right true b h = refl
    right false b h = h

-- no page at the end of a range or above it is in the ranges up to that one
pub not-above : (a : ℕ) (xs : List PageRange) (i p : ℕ) (d : PageRange) → Rises a xs → i < length xs → (get_or xs i d).hi ≤ p → in_ranges (take (suc i) xs) p ≡ false
not-above a [] i p d h l e = absurd (omega arith)
not-above a (x ∷ xs) zero p d h l e = let off : in_range x p ≡ false = grind (arith, nat_tests, e) in rw off refl
not-above a (x ∷ xs) (suc i) p d h l e =
    let after = Rises-end x.hi xs i d h.2 (omega arith) in
    let off : in_range x p ≡ false = grind (arith, nat_tests, e, after) in
    rw off (not-above x.hi xs i p d h.2 (omega arith) e)
