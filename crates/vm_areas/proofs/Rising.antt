-- Ranges that rise keep rising, and how many there are.
use Rattle.mck_word.specs.declared.PageRange.{PageRange}
use Rattle.std.proofs.Common.{ap, append_assoc, arith, get_or, inl, inr, refl, ◌∙◌}
use Rattle.std.proofs.lemmas.List.{length-append}
use Rattle.std.proofs.lemmas.Bool.{cases_lt}
use Rattle.std.proofs.lemmas.Bool.Decides.{nat_tests}
use Rattle.std.specs.Prelude.{Bool, List, [], ◌∷◌, ◌++◌, cond, false, length, max, min, nat_lt, suc, true, zero, ℕ, ◌+◌, ◌<◌, ◌≡◌, ◌≤◌}
use Rattle.vm_areas.specs.Ranges.{Rises, joined, minus, piece, range, with_range, without}

pub Rises-lower : (a b : ℕ) (xs : List PageRange) → a ≤ b → Rises b xs → Rises a xs
Rises-lower a b [] l h = tt
Rises-lower a b (x ∷ xs) l h = (omega (arith, h.0), h.1, h.2)

Rises-piece : (a lo hi b : ℕ) (xs : List PageRange) → a ≤ lo → hi ≤ b → a ≤ b → Rises b xs → Rises a (piece lo hi ++ xs)
Rises-piece a lo hi b xs l m n h = by_test (nat_lt lo hi) refl
  where
    by_test : (t : Bool) → nat_lt lo hi ≡ t → Rises a (cond t (range lo hi ∷ []) [] ++ xs)
    by_test true e = (l, grind (arith, nat_tests, e), Rises-lower hi b xs m h)
    by_test false e = Rises-lower a b xs n h

Rises-piece_above : (a lo hi : ℕ) (xs : List PageRange) → a ≤ lo → a ≤ hi → Rises hi xs → Rises a (piece lo hi ++ xs)
Rises-piece_above a lo hi xs l m h = Rises-piece a lo hi hi xs l (omega arith) m h

pub Rises-without : (r : PageRange) (a : ℕ) (xs : List PageRange) → r.lo < r.hi → Rises a xs → Rises a (without r xs)
Rises-without r a [] some h = tt
Rises-without r a (x ∷ xs) some h =
    let rest = Rises-without r x.hi xs some h.2 in
    let b = max a (min x.hi r.lo) in
    let above = Rises-piece_above b (max x.lo r.hi) x.hi (without r xs) (omega (arith, h.0, some)) (omega (arith, h.0, h.1)) rest in
    rw (append_assoc (piece x.lo (min x.hi r.lo)) (piece (max x.lo r.hi) x.hi) (without r xs))
    (Rises-piece a x.lo (min x.hi r.lo) b (piece (max x.lo r.hi) x.hi ++ without r xs) h.0 (omega arith) (omega arith) above)

pub Rises-with_range : (r : PageRange) (a : ℕ) (xs : List PageRange) → r.lo < r.hi → a ≤ r.lo → Rises a xs → Rises a (with_range r xs)
Rises-with_range r a [] some l h = (l, some, tt)
Rises-with_range r a (x ∷ xs) some l h =
    elim (nat_lt x.hi r.lo) as (λ s. nat_lt x.hi r.lo ≡ s → Rises a (cond s (x ∷ with_range r xs) (cond (nat_lt r.hi x.lo) (r ∷ x ∷ xs) (with_range (joined r x) xs)))) [
      | true ↦ λ e. (h.0, h.1, Rises-with_range r x.hi xs some (grind (arith, nat_tests, e)) h.2)
      | false ↦ λ e. elim (nat_lt r.hi x.lo) as (λ t. nat_lt r.hi x.lo ≡ t → Rises a (cond t (r ∷ x ∷ xs) (with_range (joined r x) xs))) [
        | true ↦ λ f. (l, some, (grind (arith, nat_tests, f), h.1, h.2))
        | false ↦ λ f. Rises-with_range (joined r x) a xs (omega (arith, some)) (omega (arith, h.0)) (Rises-lower a x.hi xs (omega (arith, h.0, h.1)) h.2)
      ] refl
    ] refl

-- each range is not empty, and ends above the lowest page
pub Rises-end : (a : ℕ) (xs : List PageRange) (i : ℕ) (d : PageRange) → Rises a xs → i < length xs → a ≤ (get_or xs i d).hi
Rises-end a [] i d h l = absurd (omega arith)
Rises-end a (x ∷ xs) zero d h l = omega (arith, h.0, h.1)
Rises-end a (x ∷ xs) (suc i) d h l = omega (arith, h.0, h.1, Rises-end x.hi xs i d h.2 (omega arith))

pub Rises-some : (a : ℕ) (xs : List PageRange) (i : ℕ) (d : PageRange) → Rises a xs → i < length xs → (get_or xs i d).lo < (get_or xs i d).hi
Rises-some a [] i d h l = absurd (omega arith)
Rises-some a (x ∷ xs) zero d h l = h.1
Rises-some a (x ∷ xs) (suc i) d h l = Rises-some x.hi xs i d h.2 (omega arith)

length-piece : (lo hi : ℕ) → length (piece lo hi) ≡ cond (nat_lt lo hi) 1 0
length-piece lo hi = elim (nat_lt lo hi) as (λ t. length (cond t (range lo hi ∷ []) []) ≡ cond t 1 0) [ true ↦ refl | false ↦ refl ]

one-piece : (lo hi : ℕ) → length (piece lo hi) ≤ 1
one-piece lo hi = elim (nat_lt lo hi) as (λ t. length (cond t (range lo hi ∷ []) []) ≤ 1) [ true ↦ omega arith | false ↦ omega arith ]

no-piece : (lo hi : ℕ) → hi ≤ lo → length (piece lo hi) ≡ 0
no-piece lo hi l = let e : nat_lt lo hi ≡ false = grind (arith, nat_tests, l) in length-piece lo hi ∙ ap (λ t. cond t 1 0) e

length-pieces : (r x : PageRange) (xs : List PageRange) → length (without r (x ∷ xs)) ≡ (length (piece x.lo (min x.hi r.lo)) + length (piece (max x.lo r.hi) x.hi)) + length (without r xs)
length-pieces r x xs = length-append (minus r x) (without r xs) ∙ ap (λ n. n + length (without r xs)) (length-append (piece x.lo (min x.hi r.lo)) (piece (max x.lo r.hi) x.hi))

-- above r there are no more ranges than before
length-above : (r : PageRange) (a : ℕ) (xs : List PageRange) → r.lo < r.hi → r.hi ≤ a → Rises a xs → length (without r xs) ≤ length xs
length-above r a [] some l h = omega arith
length-above r a (x ∷ xs) some l h =
    let rest = length-above r x.hi xs some (omega (arith, h.0, h.1)) h.2 in
    omega (arith, length-pieces r x xs, no-piece x.lo (min x.hi r.lo) (omega (arith, some, h.0)), one-piece (max x.lo r.hi) x.hi, rest)

-- r lies inside one range at most
pub length-without : (r : PageRange) (a : ℕ) (xs : List PageRange) → r.lo < r.hi → Rises a xs → length (without r xs) ≤ length xs + 1
length-without r a [] some h = omega arith
length-without r a (x ∷ xs) some h =
    let rest = length-without r x.hi xs some h.2 in
    let first = one-piece x.lo (min x.hi r.lo) in
    let second = one-piece (max x.lo r.hi) x.hi in
    elim (cases_lt r.hi x.hi) [
      | inl l ↦ omega (arith, length-pieces r x xs, length-above r x.hi xs some (omega arith) h.2)
      | inr g ↦ omega (arith, length-pieces r x xs, no-piece (max x.lo r.hi) x.hi (omega arith))
    ]

pub length-with_range : (r : PageRange) (xs : List PageRange) → length (with_range r xs) ≤ length xs + 1
length-with_range r [] = omega arith
length-with_range r (x ∷ xs) =
    let after = length-with_range r xs in
    let met = length-with_range (joined r x) xs in
    elim (nat_lt x.hi r.lo) as (λ s. length (cond s (x ∷ with_range r xs) (cond (nat_lt r.hi x.lo) (r ∷ x ∷ xs) (with_range (joined r x) xs))) ≤ length (x ∷ xs) + 1) [
      | true ↦ omega arith
      | false ↦ elim (nat_lt r.hi x.lo) as (λ t. length (cond t (r ∷ x ∷ xs) (with_range (joined r x) xs)) ≤ length (x ∷ xs) + 1) [ true ↦ omega arith | false ↦ omega arith ]
    ]
