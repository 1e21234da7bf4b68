-- A gap is found: else each end would have a page among those below it, which is an end again, and so on without end.
use Rattle.isa_model.specs.Memory.{Memory}
use Rattle.kernel_model.specs.MemoryCalls.{count_present, gap_below, highest_gap, is_gap, present_in}
use Rattle.kernel_model.specs.Pages.{range}
use Rattle.mck_word.specs.Lists.{insert_by, sorted_by}
use Rattle.mck_word.specs.Maps.{keys}
use Rattle.mck_word.specs.Pages.{in_range}
use Rattle.std.proofs.Common.{ap, arith, inl, inr, refl, sym, ◌∙◌}
use Rattle.std.proofs.lemmas.Bool.Decides.{nat_tests}
use Rattle.std.proofs.lemmas.Bool.{cases_lt}
use Rattle.std.specs.Prelude.{Bool, List, None, Some, [], cond, false, filter, find, length, nat_le, nat_lt, suc, true, zero, ℕ, ◌&&◌, ◌*◌, ◌+◌, ◌-◌, ◌<◌, ◌==◌, ◌∷◌, ◌≡◌, ◌≢◌, ◌≤◌, ◌⊎◌}

abbrev before : ℕ → ℕ → Bool
before a b = nat_lt b a

-- the number stands in the list
abbrev Has : ℕ → List ℕ → Type 0
Has h [] = ⊥
Has h (x ∷ xs) = (x ≡ h) ⊎ Has h xs

-- ---- a search that ends without an end
module _ (test : ℕ → Bool) where
  none-first : (x : ℕ) (ys : List ℕ) → find test (x ∷ ys) ≡ None → (test x ≡ false) × (find test ys ≡ None)
  none-first x ys e = go (test x) refl e
    where
      go : (b : Bool) → test x ≡ b → cond b (Some x) (find test ys) ≡ None → (test x ≡ false) × (find test ys ≡ None)
      go true f g = absurd (grind (arith, g))
      go false f g = (f, g)

  none-insert : (x : ℕ) (ys : List ℕ) → find test (insert_by before x ys) ≡ None → (test x ≡ false) × (find test ys ≡ None)
  none-insert x [] e = none-first x [] e
  none-insert x (y ∷ ys) e = go (before x y) e (none-insert x ys)
    where
      behind : (test y ≡ false) × (find test (insert_by before x ys) ≡ None) → (find test (insert_by before x ys) ≡ None → (test x ≡ false) × (find test ys ≡ None)) → (test x ≡ false) × (find test (y ∷ ys) ≡ None)
      behind a r = let c = r a.1 in (c.0, ap (λ b. cond b (Some y) (find test ys)) a.0 ∙ c.1)

      go : (b : Bool) → find test (cond b (x ∷ y ∷ ys) (y ∷ insert_by before x ys)) ≡ None → (find test (insert_by before x ys) ≡ None → (test x ≡ false) × (find test ys ≡ None)) → (test x ≡ false) × (find test (y ∷ ys) ≡ None)
      go true g r = none-first x (y ∷ ys) g
      go false g r = behind (none-first y (insert_by before x ys) g) r

  none-sorted : (xs : List ℕ) → find test (sorted_by before xs) ≡ None → (h : ℕ) → Has h xs → test h ≡ false
  none-sorted [] e h m = absurd m
  none-sorted (x ∷ xs) e h m =
      let a = none-insert x (sorted_by before xs) e in
      elim m [
        | inl same ↦ ap test (sym same) ∙ a.0
        | inr more ↦ none-sorted xs a.1 h more
      ]

-- ---- pages from an end on
abbrev from : ℕ → List ℕ → ℕ
from h xs = length (filter (nat_le h) xs)

step : (a b : Bool) (x : ℕ) (xs ys : List ℕ) (k : ℕ) → (b ≡ true → a ≡ true) → length ys + k ≤ length xs → length (cond b (x ∷ ys) ys) + k ≤ length (cond a (x ∷ xs) xs)
step true true x xs ys k i l = omega (arith, l)
step true false x xs ys k i l = omega (arith, l)
step false true x xs ys k i l = absurd (let c = i refl in grind (arith, c))
step false false x xs ys k i l = l

from-falls : (p h : ℕ) → p < h → (xs : List ℕ) → from h xs ≤ from p xs
from-falls p h l [] = omega arith
from-falls p h l (x ∷ xs) =
    let a = from-falls p h l xs in
    let b = step (nat_le p x) (nat_le h x) x (filter (nat_le p) xs) (filter (nat_le h) xs) 0 (λ e. grind (arith, nat_tests, e, l)) (omega (arith, a)) in
    omega (arith, b)

from-more : (p h : ℕ) → p < h → (xs : List ℕ) → Has p xs → from h xs + 1 ≤ from p xs
from-more p h l [] m = absurd m
from-more p h l (x ∷ xs) m = elim m [
  | inl same ↦ (
      let a = from-falls p h l xs in
      let b : nat_le p x ≡ true = grind (arith, nat_tests, same) in
      let c : nat_le h x ≡ false = grind (arith, nat_tests, same, l) in
      let d = here (nat_le p x) (nat_le h x) b c in
      omega (arith, a, d)
      )
  | inr more ↦ step (nat_le p x) (nat_le h x) x (filter (nat_le p) xs) (filter (nat_le h) xs) 1 (λ e. grind (arith, nat_tests, e, l)) (from-more p h l xs more)
]
  where
    here : (a b : Bool) → a ≡ true → b ≡ false → length (cond b (x ∷ filter (nat_le h) xs) (filter (nat_le h) xs)) + 1 + from p xs ≤ length (cond a (x ∷ filter (nat_le p) xs) (filter (nat_le p) xs)) + from h xs
    here true false e f = omega arith
    here true true e f = absurd (grind (arith, f))
    here false b e f = absurd (grind (arith, e))

from-most : (h : ℕ) (xs : List ℕ) → from h xs ≤ length xs
from-most h [] = omega arith
from-most h (x ∷ xs) = let a = from-most h xs in go (nat_le h x) a
  where
    go : (b : Bool) → from h xs ≤ length xs → length (cond b (x ∷ filter (nat_le h) xs) (filter (nat_le h) xs)) ≤ suc (length xs)
    go true l = omega (arith, l)
    go false l = omega (arith, l)

-- ---- the first that passes a filter
kept-has : (test : ℕ → Bool) (xs : List ℕ) (y : ℕ) (ys : List ℕ) → filter test xs ≡ y ∷ ys → Has y xs × (test y ≡ true)
kept-has test [] y ys e = absurd (grind (arith, e))
kept-has test (x ∷ xs) y ys e = go (test x) refl e (kept-has test xs y ys)
  where
    go : (b : Bool) → test x ≡ b → cond b (x ∷ filter test xs) (filter test xs) ≡ y ∷ ys → (filter test xs ≡ y ∷ ys → Has y xs × (test y ≡ true)) → Has y (x ∷ xs) × (test y ≡ true)
    go true f g r = let s : x ≡ y = cc in (inl s, ap test (sym s) ∙ f)
    go false f g r = let a = r g in (inr a.0, a.1)

-- ---- a page below each end
pub record Below (m : Memory) (n high : ℕ) : Type 0 where
  pub page : ℕ
  pub there : Has page (keys m)
  pub low : high ≤ page + n
  pub top : page < high

between : (n high p : ℕ) → in_range (range (high - n) high) p ≡ true → (high ≤ p + n) × (p < high)
between n high p e = (grind (arith, nat_tests, e), grind (arith, nat_tests, e))

no-gap : (m : Memory) (n high : ℕ) → high ≤ 0x3f00000 → 0x10 + n ≤ high → is_gap m n high ≡ false → Below m n high
no-gap m n high top low e =
    let a : nat_le high 0x3f00000 ≡ true = grind (arith, nat_tests, top) in
    let b : nat_le (0x10 + n) high ≡ true = grind (arith, nat_tests, low) in
    some (present_in m (gap_below n high)) refl (third (nat_le high 0x3f00000) (nat_le (0x10 + n) high) (count_present m (gap_below n high) == 0) a b e)
  where
    third : (a b c : Bool) → a ≡ true → b ≡ true → (a && b && c) ≡ false → c ≡ false
    third true true c e f g = g
    third true false c e f g = absurd (grind (arith, f))
    third false b c e f g = absurd (grind (arith, e))

    some : (ps : List ℕ) → present_in m (gap_below n high) ≡ ps → (length ps == 0) ≡ false → Below m n high
    some [] f g = absurd (grind (arith, nat_tests, g))
    some (p ∷ ps) f g =
        let k = kept-has (in_range (gap_below n high)) (keys m) p ps f in
        let l = between n high p k.1 in
        record { page = p; there = k.0; low = l.0; top = l.1 }

-- ---- the products
square : (b d : ℕ) → 4 * ((b + d) * b) ≤ (b + d + b) * (b + d + b)
square b d = let e : (b + d + b) * (b + d + b) ≡ 4 * ((b + d) * b) + d * d = grind arith in omega (arith, e)

square-most : (s : ℕ) → s ≤ 16_001 → s * s ≤ 256_032_001
square-most s l = let a = times-up s l in omega (arith, a)
  where
    times-up : (s : ℕ) → s ≤ 16_001 → s * s ≤ 16_001 * 16_001
    times-up s l = let d = 16_001 - s in let e : s + d ≡ 16_001 = omega (arith, l) in let f : (s + d) * (s + d) ≡ s * s + (2 * s * d + d * d) = grind arith in let g = ap (λ x. x * x) e in omega (arith, f, g)

-- numbers of a small sum have a small product
product-most : (a b : ℕ) → a + b ≤ 16_001 → a * b ≤ 64_008_000
product-most a b l = elim (cases_lt a b) [
  | inl less ↦ (let d = ordered a (b - a) (omega (arith, l, less)) in let e : a + (b - a) ≡ b = omega (arith, less) in let f = ap (λ x. x * a) e in let g : b * a ≡ a * b = grind arith in omega (arith, d, f, g))
  | inr more ↦ (let d = ordered b (a - b) (omega (arith, l, more)) in let e : b + (a - b) ≡ a = omega (arith, more) in let f = ap (λ x. x * b) e in omega (arith, d, f))
]
  where
    ordered : (b d : ℕ) → b + d + b ≤ 16_001 → (b + d) * b ≤ 64_008_000
    ordered b d l = let x = square b d in let y = square-most (b + d + b) l in omega (arith, x, y)

-- ---- down from the highest end
module _ (m : Memory) (n : ℕ) (none : (h : ℕ) → Has h (0x3f00000 ∷ keys m) → is_gap m n h ≡ false) where
  down : (left h : ℕ) → Has h (0x3f00000 ∷ keys m) → h ≤ 0x3f00000 → length (keys m) + 1 ≤ from h (keys m) + left → 0x10 + left * n ≤ h → ⊥
  down zero h has top counts low = let a = from-most h (keys m) in omega (arith, a, counts)
  down (suc left) h has top counts low =
      let split : suc left * n ≡ left * n + n = grind arith in
      let b = no-gap m n h top (omega (arith, low, split)) (none h has) in
      let more = from-more b.page h b.top (keys m) b.there in
      let at-low = b.low in
      let at-top = b.top in
      down left b.page (inr b.there) (omega (arith, at-top, top)) (omega (arith, counts, more)) (omega (arith, low, split, at-low))

pub gap-found : (m : Memory) (n : ℕ) → length (keys m) + n ≤ 16_000 → highest_gap m n ≢ None
gap-found m n few e =
    let a = product-most (length (keys m) + 1) n (omega (arith, few)) in
    down m n (none-sorted (is_gap m n) (0x3f00000 ∷ keys m) e) (length (keys m) + 1) 0x3f00000 (inl refl) (omega arith) (omega arith) (omega (arith, a))
