-- Steps of the definitions on memory.
use Rattle.std.proofs.Common.{◌≡◌, ℕ, zero, suc, ◌+◌, ◌-◌, ◌*◌, ◌/◌, ◌%◌, ◌^◌, ◌≤◌, Bool, true, false, cond, Option, Some, None, sym, ap, ◌∙◌, refl, lit≤, inl, inr, arith}
use Rattle.std.proofs.Math.Nat.{pow-suc, pow-le-pow_right}
use Rattle.std.proofs.lemmas.Bool.{false≢true}
use Rattle.mck_word.specs.declared.Access.{Access}
use Rattle.isa_model.specs.declared.stops.Lack.{Lack}
use Rattle.isa_model.specs.Memory.{Memory, IsSize, first_lack, lacks, byte_at, put_byte, number_at, put_number}

pub number-none : (m : Memory) (a n : ℕ) → n ≡ 0 → number_at m a n ≡ 0
unfolding number_at
number-none m a zero e = refl
number-none m a (suc n) e = absurd (omega arith)

pub number-step : (m : Memory) (a n : ℕ) → (n ≡ 0 → ⊥) → number_at m a n ≡ byte_at m a + 256 * number_at m ((a + 1) % 2 ^ 64) (n - 1)
unfolding number_at
number-step m a zero p = absurd (p refl)
number-step m a (suc n) p = ap (λ k. byte_at m a + 256 * number_at m ((a + 1) % 2 ^ 64) k) (omega arith)

pub put-none : (m : Memory) (a n v : ℕ) → n ≡ 0 → put_number m a n v ≡ m
unfolding put_number
put-none m a zero v e = refl
put-none m a (suc n) v e = absurd (omega arith)

pub put-step : (m : Memory) (a n v : ℕ) → (n ≡ 0 → ⊥) → put_number m a n v ≡ put_number (put_byte m a (v % 256)) ((a + 1) % 2 ^ 64) (n - 1) (v / 256)
unfolding put_number
put-step m a zero v p = absurd (p refl)
put-step m a (suc n) v p = let e : n ≡ suc n - 1 = omega arith in ap (λ k. put_number (put_byte m a (v % 256)) ((a + 1) % 2 ^ 64) k (v / 256)) e

pub power-step : (n : ℕ) → (n ≡ 0 → ⊥) → 256 ^ n ≡ 256 ^ (n - 1) * 256
power-step zero p = absurd (p refl)
power-step (suc n) p = pow-suc 256 n ∙ ap (λ k. 256 ^ k * 256) (omega arith)

pub power-seven : (n : ℕ) → n ≤ 8 → 256 ^ (n - 1) ≤ 72057594037927936
power-seven n h = let few : n - 1 ≤ 7 = omega arith in pow-le-pow_right (lit≤ tt) few

truth : (b : Bool) (x y : Option Lack) → b ≡ true → cond b x y ≡ x
truth true x y e = refl
truth false x y e = absurd (false≢true e)

falsity : (b : Bool) (x y : Option Lack) → b ≡ false → cond b x y ≡ y
falsity true x y e = absurd (false≢true (sym e))
falsity false x y e = refl

pub first-lacks : (m : Memory) (a : Access) (addr size : ℕ) → lacks m a (addr / 4096) ≡ true → first_lack m a addr size ≡ Some (record { page = addr / 4096; access = a })
unfolding first_lack
first-lacks m a addr size h = truth (lacks m a (addr / 4096)) _ _ h

pub last-lacks : (m : Memory) (a : Access) (addr size : ℕ) → lacks m a (addr / 4096) ≡ false → lacks m a ((addr + size - 1) % 2 ^ 64 / 4096) ≡ true
    → first_lack m a addr size ≡ Some (record { page = (addr + size - 1) % 2 ^ 64 / 4096; access = a })
unfolding first_lack
last-lacks m a addr size h k = falsity (lacks m a (addr / 4096)) _ _ h ∙ truth (lacks m a ((addr + size - 1) % 2 ^ 64 / 4096)) _ _ k

pub none-lacks : (m : Memory) (a : Access) (addr size : ℕ) → lacks m a (addr / 4096) ≡ false → lacks m a ((addr + size - 1) % 2 ^ 64 / 4096) ≡ false
    → first_lack m a addr size ≡ None
unfolding first_lack
none-lacks m a addr size h k = falsity (lacks m a (addr / 4096)) _ _ h ∙ falsity (lacks m a ((addr + size - 1) % 2 ^ 64 / 4096)) _ _ k

pub size-some : (n : ℕ) → IsSize n → (1 ≤ n) × (n ≤ 8)
size-some n (inl h) = (omega arith, omega arith)
size-some n (inr (inl h)) = (omega arith, omega arith)
size-some n (inr (inr (inl h))) = (omega arith, omega arith)
size-some n (inr (inr (inr h))) = (omega arith, omega arith)

-- the last byte of an access, as the code finds it
pub last-is : (addr n m : ℕ) → IsSize n → m ≡ n → (addr + (m - 1)) % 2 ^ 64 / 4096 ≡ (addr + n - 1) % 2 ^ 64 / 4096
last-is addr n m h e =
    let some = size-some n h in
    let same : addr + (m - 1) ≡ addr + n - 1 = omega arith in
    ap (λ x. x % 2 ^ 64 / 4096) same
