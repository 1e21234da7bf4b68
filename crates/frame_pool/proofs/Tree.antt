-- The tree of marks: what a node says of the leaves below it, and what a write does to the rule.
use Rattle.frame_pool.specs.Trees.{IsMarked, RuleAt, marked}
use Rattle.std.proofs.Common.{ap, arith, inl, inr, refl, sym, ◌∙◌}
use Rattle.std.proofs.Math.Nat.{pow-suc}
use Rattle.std.proofs.Common.{mul-le-mul_left}
use Rattle.std.proofs.lemmas.Bool.{cases_lt}
use Rattle.std.specs.Prelude.{Bool, List, false, suc, true, zero, ℕ, ◌*◌, ◌+◌, ◌<◌, ◌^◌, ◌||◌, ◌≡◌, ◌≢◌, ◌≤◌}

left-unmarked : (a b c : Bool) → a ≡ (b || c) → a ≡ false → b ≡ false
left-unmarked a true c e f = cc
left-unmarked a false c e f = refl

right-unmarked : (a b c : Bool) → a ≡ (b || c) → a ≡ false → c ≡ false
right-unmarked a true c e f = cc
right-unmarked a false c e f = sym e ∙ f

pub right-marked : (a b c : Bool) → a ≡ (b || c) → a ≡ true → b ≡ false → c ≡ true
right-marked a b c e f g = sym (ap (λ x. x || c) g) ∙ (sym e ∙ f)

pub pow-positive : (n : ℕ) → 1 ≤ 2 ^ n
pow-positive zero = omega arith
pow-positive (suc n) = omega (arith, pow-suc 2 n, pow-positive n)

pub pow-up : (a d : ℕ) → 2 ^ a ≤ 2 ^ (a + d)
pow-up a zero = let e : a + 0 ≡ a = omega arith in rw e (omega arith)
pow-up a (suc d) = let e : a + suc d ≡ suc (a + d) = omega arith in rw e (omega (arith, pow-suc 2 (a + d), pow-up a d))

-- halves and doubles of a width, for any numbers
module _ (k p q : ℕ) (twice : q ≡ 2 * p) where
  widened : (n : ℕ) → n * q ≡ 2 * n * p
  widened n = ap (λ x. n * x) twice ∙ (grind arith)

  left-high : (n : ℕ) → (k + 1) * q ≤ n → (2 * k + 1) * p ≤ n
  left-high n h = let e = widened (k + 1) in grind arith

  right-high : (n : ℕ) → (k + 1) * q ≤ n → (2 * k + 1 + 1) * p ≤ n
  right-high n h = let e = widened (k + 1) in grind arith

  inner : (n : ℕ) → 1 ≤ p → (k + 1) * q ≤ 2 * n → k < n
  inner n one h = elim (cases_lt k n) [ inl l ↦ l | inr g ↦ absurd (let e = widened (k + 1) in let m : (2 * (k + 1)) * 1 ≤ (2 * (k + 1)) * p = mul-le-mul_left (2 * (k + 1)) one in omega arith) ]

  left-low : (n : ℕ) → n ≤ k * q → n ≤ 2 * k * p
  left-low n h = let e = widened k in grind arith

  right-low : (n : ℕ) → n ≤ k * q → n ≤ (2 * k + 1) * p
  right-low n h = let e = widened k in grind arith

  left-from : (j : ℕ) → k * q ≤ j → 2 * k * p ≤ j
  left-from j h = let e = widened k in grind arith

  left-to : (j : ℕ) → j < 2 * k * p → j < k * q
  left-to j h = let e = widened k in grind arith

  right-to : (j : ℕ) → j < (k + 1) * q → j < (2 * k + 1 + 1) * p
  right-to j h = let e = widened (k + 1) in grind arith

doubled : (m : ℕ) → 2 ^ suc m ≡ 2 * 2 ^ m
doubled m = omega (arith, pow-suc 2 m)

-- m levels above the leaves: no leaf is marked below a node that isn't
pub none-below : (nodes : List Bool) (leaves : ℕ) → IsMarked nodes leaves → (m k : ℕ) → 1 ≤ k → (k + 1) * 2 ^ m ≤ 2 * leaves → marked nodes k ≡ false
    → (j : ℕ) → k * 2 ^ m ≤ j → j < (k + 1) * 2 ^ m → marked nodes j ≡ false
none-below nodes leaves rule zero k low high off j from to = let e : j ≡ k = omega arith in ap (marked nodes) e ∙ off
none-below nodes leaves rule (suc m) k low high off j from to =
    let p = 2 ^ m in let q = 2 ^ suc m in let twice = doubled m in
    let here = rule k low (inner k p q twice leaves (pow-positive m) high) in
    elim (cases_lt j ((2 * k + 1) * p)) [
      | inl l ↦ none-below nodes leaves rule m (2 * k) (omega arith) (left-high k p q twice (2 * leaves) high) (left-unmarked _ _ _ here off) j (left-from k p q twice j from) l
      | inr g ↦ none-below nodes leaves rule m (2 * k + 1) (omega arith) (right-high k p q twice (2 * leaves) high) (right-unmarked _ _ _ here off) j g (right-to k p q twice j to)
    ]

-- node k is marked, m levels above the leaves, and no leaf left of those below it is
pub record IsPath (nodes : List Bool) (leaves m k : ℕ) : Type 0 where
  pub some : 1 ≤ k
  pub low : leaves ≤ k * 2 ^ m
  pub high : (k + 1) * 2 ^ m ≤ 2 * leaves
  pub set : marked nodes k ≡ true
  pub first : (j : ℕ) → leaves ≤ j → j < k * 2 ^ m → marked nodes j ≡ false

module _ (nodes : List Bool) (leaves : ℕ) (rule : IsMarked nodes leaves) (m k : ℕ) (h : IsPath nodes leaves (suc m) k) where
  pub path-inner : k < leaves
  path-inner = inner k (2 ^ m) (2 ^ suc m) (doubled m) leaves (pow-positive m) h.high

  pub to-left : marked nodes (2 * k) ≡ true → IsPath nodes leaves m (2 * k)
  to-left on = record {
    some = let s = h.some in omega arith;
    low = left-low k (2 ^ m) (2 ^ suc m) (doubled m) leaves h.low;
    high = left-high k (2 ^ m) (2 ^ suc m) (doubled m) (2 * leaves) h.high;
    set = on;
    first = (λ j a b. h.first j a (left-to k (2 ^ m) (2 ^ suc m) (doubled m) j b));
  }

  pub to-right : marked nodes (2 * k) ≡ false → IsPath nodes leaves m (2 * k + 1)
  to-right off = record {
    some = omega arith;
    low = right-low k (2 ^ m) (2 ^ suc m) (doubled m) leaves h.low;
    high = right-high k (2 ^ m) (2 ^ suc m) (doubled m) (2 * leaves) h.high;
    set = right-marked _ _ _ (rule k h.some path-inner) h.set off;
    first = (λ j a b. elim (cases_lt j (2 * k * 2 ^ m)) [
      | inl l ↦ h.first j a (left-to k (2 ^ m) (2 ^ suc m) (doubled m) j l)
      | inr g ↦ none-below nodes leaves rule m (2 * k) (let s = h.some in omega arith) (left-high k (2 ^ m) (2 ^ suc m) (doubled m) (2 * leaves) h.high) off j g b
    ]);
  }

-- the rule but for the node above k
abbrev pub RuleBut : List Bool → ℕ → ℕ → Type 0
RuleBut nodes leaves up = (j : ℕ) → 1 ≤ j → j < leaves → j ≢ up → RuleAt nodes j
