-- How many signals a set has: one more at most with a signal, and one less without one that it has.
use Rattle.guest_laws.specs.Counting.{sum_below}
use Rattle.kernel_model.specs.SignalSets.{has, minus, union, with_signal, without_signal}
use Rattle.kernel_model.specs.Signals.{next_of_sets}
use Rattle.mck_word.specs.Lists.{count_from}
use Rattle.std.proofs.Common.{ap, arith, refl, ◌∙◌, sym}
use Rattle.std.proofs.lemmas.Bool.Decides.{nat_tests}
use Rattle.std.proofs.lemmas.Nat.Bits.{and_pow, bit_at-lt, bit_at-pow_other, bit_at-pow_same, bit_at-zero, bit_at_and, bit_at_or}
use Rattle.std.proofs.lemmas.Nat.{and-not, and_comm, div-mul-add, mod_below, or_disjoint, pow_pos, shr_split}
use Rattle.std.specs.Int.{bit_at}
use Rattle.std.specs.Prelude.{zero, suc, Bool, Some, bit_and, bit_or, cond, false, find, nat_lt, true, ℕ, ◌%◌, ◌*◌, ◌+◌, ◌-◌, ◌/◌, ◌<◌, ◌==◌, ◌^◌, ◌≡◌, ◌≢◌, ◌≤◌}
use Rattle.work_laws.specs.SignalCount.{signals}

-- ---- sums that differ in one place
sum-same : (f g : ℕ → ℕ) (n : ℕ) → ((k : ℕ) → k < n → f k ≡ g k) → sum_below f n ≡ sum_below g n
sum-same f g zero h = refl
sum-same f g (suc n) h = let a = h n (omega arith) in let b = sum-same f g n (λ k l. h k (omega (arith, l))) in omega (arith, a, b)

sum-but : (f g : ℕ → ℕ) (j n : ℕ) → ((k : ℕ) → (k == j) ≡ false → f k ≡ g k) → j < n → sum_below f n + g j ≡ sum_below g n + f j
sum-but f g j zero h l = absurd (omega (arith, l))
sum-but f g j (suc n) h l = go (n == j) refl (sum-but f g j n h)
  where
    go : (b : Bool) → (n == j) ≡ b → (j < n → sum_below f n + g j ≡ sum_below g n + f j) → f n + sum_below f n + g j ≡ g n + sum_below g n + f j
    go true e i =
        let q : n ≡ j = grind (arith, nat_tests, e) in
        let a = ap f q in
        let b = ap g q in
        let c = sum-same f g n (λ k u. h k (let d : k < j = omega (arith, u, q) in grind (arith, nat_tests, d))) in
        omega (arith, a, b, c)
    go false e i =
        let a = h n e in
        let m : j < n = grind (arith, nat_tests, e, l) in
        let b = i m in
        omega (arith, a, b)

-- beyond the place of a bit nothing changes
sum-beyond : (f g : ℕ → ℕ) (j n : ℕ) → ((k : ℕ) → (k == j) ≡ false → f k ≡ g k) → n ≤ j → sum_below f n ≡ sum_below g n
sum-beyond f g j n h l = sum-same f g n (λ k u. h k (let d : k < j = omega (arith, l, u) in grind (arith, nat_tests, d)))

-- ---- a bit set, and one cleared
module _ (set k : ℕ) where
  abbrev more : ℕ
  more = set + 2 ^ k

  module _ (clear : bit_at set k ≡ 0) where
    more-or : bit_or set (2 ^ k) ≡ more
    more-or = or_disjoint set (2 ^ k) (and_pow set k ∙ rw clear (omega arith))

    pub more-other : (j : ℕ) → (j == k) ≡ false → bit_at more j ≡ bit_at set j
    more-other j e =
        let d : j ≢ k = (λ (g : j ≡ k). grind (arith, nat_tests, e, g)) in
        let a = bit_at_or set (2 ^ k) j in
        let b = bit_at-pow_other k j d in
        let c = ap (λ n. bit_at n j) more-or in
        omega (arith, a, b, c)

    pub more-own : bit_at more k ≡ 1
    more-own =
        let a = bit_at_or set (2 ^ k) k in
        let b = bit_at-pow_same k in
        let c = ap (λ n. bit_at n k) more-or in
        omega (arith, a, b, c, clear)

-- a set that has a signal is another set with it
module _ (set k : ℕ) (there : bit_at set k ≡ 1) where
  abbrev less : ℕ
  less = set - 2 ^ k

  abbrev high : ℕ
  high = set / 2 ^ k

  some : (n : ℕ) → n % 2 ≡ 1 → 1 ≤ n
  some zero e = absurd (omega (arith, e))
  some (suc n) e = omega arith

  mul-less : (n m : ℕ) → 1 ≤ n → (n - 1) * m + m ≡ n * m
  mul-less zero m h = absurd (omega (arith, h))
  mul-less (suc n) m h = let e : suc n - 1 ≡ n = omega arith in ap (λ (j : ℕ). j * m + m) e ∙ omega arith

  split : less ≡ (high - 1) * 2 ^ k + set % 2 ^ k
  split =
      let s = shr_split set k in
      let m = mul-less high (2 ^ k) (some high there) in
      omega (arith, s, m)

  back : less + 2 ^ k ≡ set
  back =
      let s = shr_split set k in
      let m = mul-less high (2 ^ k) (some high there) in
      omega (arith, s, m)

  less-clear : bit_at less k ≡ 0
  less-clear =
      let a = div-mul-add (high - 1) (2 ^ k) (set % 2 ^ k) (mod_below set (2 ^ k) (pow_pos k)) in
      let b = ap (λ n. n / 2 ^ k % 2) split in
      let c = ap (λ n. n % 2) a in
      b ∙ c ∙ omega (arith, there, some high there)

  pub less-other : (j : ℕ) → (j == k) ≡ false → bit_at less j ≡ bit_at set j
  less-other j e = sym (more-other less k less-clear j e) ∙ ap (λ n. bit_at n j) back

-- ---- the count
bit-of : (n k : ℕ) → (bit_at n k == 1) ≡ false → bit_at n k ≡ 0
bit-of n k e = let a = bit_at-lt n k in grind (arith, nat_tests, a, e)

-- below any bound
module _ (n signal set : ℕ) where
  abbrev place : ℕ
  place = signal - 1

  below-with : sum_below (bit_at (with_signal signal set)) n ≤ sum_below (bit_at set) n + 1
  below-with = go (has signal set) refl
    where
      by-place : bit_at set place ≡ 0 → (b : Bool) → nat_lt place n ≡ b → sum_below (bit_at (set + 2 ^ place)) n ≤ sum_below (bit_at set) n + 1
      by-place clear true l =
          let a = sum-but (bit_at (set + 2 ^ place)) (bit_at set) place n (more-other set place clear) (grind (arith, nat_tests, l)) in
          let b = more-own set place clear in
          omega (arith, a, b)
      by-place clear false l = let a = sum-beyond (bit_at (set + 2 ^ place)) (bit_at set) place n (more-other set place clear) (grind (arith, nat_tests, l)) in omega (arith, a)

      go : (b : Bool) → has signal set ≡ b → sum_below (bit_at (cond b set (set + 2 ^ place))) n ≤ sum_below (bit_at set) n + 1
      go true e = omega arith
      go false e = by-place (bit-of set place e) (nat_lt place n) refl

  below-less : has signal set ≡ true → place < n → sum_below (bit_at (without_signal signal set)) n + 1 ≡ sum_below (bit_at set) n
  below-less e l =
      let there : bit_at set place ≡ 1 = grind (arith, nat_tests, e) in
      let a = sum-but (bit_at (set - 2 ^ place)) (bit_at set) place n (less-other set place there) l in
      let b = less-clear set place there in
      let c = ap (λ b. sum_below (bit_at (cond b (set - 2 ^ place) set)) n) e in
      omega (arith, a, b, c, there)

  below-without : sum_below (bit_at (without_signal signal set)) n ≤ sum_below (bit_at set) n
  below-without = go (has signal set) refl
    where
      by-place : bit_at set place ≡ 1 → (b : Bool) → nat_lt place n ≡ b → sum_below (bit_at (set - 2 ^ place)) n ≤ sum_below (bit_at set) n
      by-place there true l =
          let a = sum-but (bit_at (set - 2 ^ place)) (bit_at set) place n (less-other set place there) (grind (arith, nat_tests, l)) in
          let b = less-clear set place there in
          omega (arith, a, b)
      by-place there false l = let a = sum-beyond (bit_at (set - 2 ^ place)) (bit_at set) place n (less-other set place there) (grind (arith, nat_tests, l)) in omega (arith, a)

      go : (b : Bool) → has signal set ≡ b → sum_below (bit_at (cond b (set - 2 ^ place) set)) n ≤ sum_below (bit_at set) n
      go true e = by-place (grind (arith, nat_tests, e)) (nat_lt place n) refl
      go false e = omega arith

pub with-most : (signal set : ℕ) → signals (with_signal signal set) ≤ signals set + 1
unfolding signals
with-most signal set = below-with 64 signal set

pub without-most : (signal set : ℕ) → signals (without_signal signal set) ≤ signals set
unfolding signals
without-most signal set = below-without 64 signal set

-- a signal that is there goes
pub without-less : (signal set : ℕ) → has signal set ≡ true → signal - 1 < 64 → signals (without_signal signal set) + 1 ≡ signals set
unfolding signals
without-less signal set e l = below-less 64 signal set e l

pub no-signals : signals 0 ≡ 0
unfolding signals
no-signals = refl

pub none-has : (signal : ℕ) → has signal 0 ≡ false
none-has signal = let a = bit_at-zero (signal - 1) in grind (arith, nat_tests, a)

-- ---- the next signal
has-or : (a b signal : ℕ) → has signal (bit_or a b) ≡ true → has signal a ≡ false → has signal b ≡ true
has-or a b signal e f =
    let k = signal - 1 in
    let c = bit_at_or a b k in
    let z = bit-of a k f in
    let there : bit_at (bit_or a b) k ≡ 1 = grind (arith, nat_tests, e) in
    let d : bit_at b k ≡ 1 = omega (arith, c, z, there) in
    grind (arith, nat_tests, d)

-- a set without the signals of another
module _ (a b signal : ℕ) where
  abbrev wide : ℕ
  wide = a + b

  grows : (n : ℕ) → n < 2 ^ n
  grows zero = omega arith
  grows (suc n) = let i = grows n in let e : 2 ^ suc n ≡ 2 * 2 ^ n = omega arith in omega (arith, i, e)

  within : (n m : ℕ) → n ≤ m → n < 2 ^ m
  within n m l = let i = grows m in omega (arith, i, l)

  pub has-minus : has signal (a - bit_and a b) ≡ true → has signal a ≡ true
  has-minus e =
      let c = and-not wide b a (within b wide (omega arith)) (within a wide (omega arith)) in
      let d = and_comm b a in
      let f : bit_and (2 ^ wide - 1 - b) a ≡ a - bit_and a b = omega (arith, c, d) in
      let g = bit_at_and (2 ^ wide - 1 - b) a (signal - 1) in
      let h = ap (λ n. bit_at n (signal - 1)) f in
      let there : bit_at (a - bit_and a b) (signal - 1) ≡ 1 = grind (arith, nat_tests, e) in
      let l = bit_at-lt a (signal - 1) in
      let i : bit_at a (signal - 1) ≡ 1 = omega (arith, g, h, there, l) in
      grind (arith, nat_tests, i)

-- what is found among the numbers from one on
pub found-among : (test : ℕ → Bool) (n k s : ℕ) → find test (count_from n k) ≡ Some s → (n ≤ s) × (s < n + k) × (test s ≡ true)
found-among test n zero s e = absurd (grind (arith, e))
found-among test n (suc k) s e = go (test n) refl e (found-among test (n + 1) k s)
  where
    go : (b : Bool) → test n ≡ b → cond b (Some n) (find test (count_from (n + 1) k)) ≡ Some s → (find test (count_from (n + 1) k) ≡ Some s → (n + 1 ≤ s) × (s < n + 1 + k) × (test s ≡ true)) → (n ≤ s) × (s < n + suc k) × (test s ≡ true)
    go true f g i = let x : n ≡ s = cc in (omega (arith, x), omega (arith, x), ap test (sym x) ∙ f)
    go false f g i = let j = i g in let l = j.0 in let u = j.1 in (omega (arith, l), omega (arith, u), j.2)

-- the next signal of two sets and a mask is in one of the sets
pub next-there : (own shared mask s : ℕ) → next_of_sets own shared mask ≡ Some s → (s - 1 < 64) × (has s own ≡ false → has s shared ≡ true)
next-there own shared mask s e =
    let f = found-among (λ signal. has signal (minus (union own shared) mask)) 1 64 s e in
    let l = f.0 in
    let u = f.1 in
    (omega (arith, l, u), λ none. has-or own shared s (has-minus (union own shared) mask s f.2) none)
