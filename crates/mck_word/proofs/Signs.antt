-- The mask of the low bits, and what it leaves.
use Rattle.std.proofs.Common.{◌≡◌, ℕ, ◌+◌, ◌-◌, ◌*◌, ◌/◌, ◌%◌, ◌^◌, ◌<◌, ◌≤◌, bit_and, sym, ap, ◌∙◌, arith}
use Rattle.std.proofs.lemmas.Nat.{and_mask, one_shl, pow_pos}
use Rattle.std.proofs.lemmas.Nat.Bits.{ones_shr}
use Rattle.std.proofs.lemmas.Bool.Decides.{nat_tests}
use Rattle.mck_word.specs.Word.{sext_of}

pub mask-is : (b : ℕ) → 1 ≤ b → b ≤ 64 → 18446744073709551615 / 2 ^ (64 - b) ≡ 2 ^ b - 1
mask-is b lo hi =
    let turn : 64 - (64 - b) ≡ b = omega arith in
    ones_shr 64 (64 - b) (omega arith) ∙ ap (λ k. 2 ^ k - 1) turn

pub low-is : (x b : ℕ) → 1 ≤ b → b ≤ 64 → bit_and x (18446744073709551615 / 2 ^ (64 - b)) ≡ x % 2 ^ b
low-is x b lo hi = ap (bit_and x) (mask-is b lo hi) ∙ and_mask x b

pub sign-is : (b : ℕ) → 1 ≤ b → b ≤ 64 → 1 * 2 ^ (b - 1) % 18446744073709551616 ≡ 2 ^ (b - 1)
sign-is b lo hi = one_shl (b - 1) 64 (omega arith)

pub below : (x b : ℕ) → 1 ≤ b → b ≤ 64 → bit_and x (18446744073709551615 / 2 ^ (64 - b)) < 1 * 2 ^ (b - 1) % 18446744073709551616
    → bit_and x (18446744073709551615 / 2 ^ (64 - b)) ≡ sext_of b x
below x b lo hi h =
    let low = low-is x b lo hi in
    let sign = sign-is b lo hi in
    let small : x % 2 ^ b < 2 ^ (b - 1) = rw (sym low, sym sign) h in
    low ∙ grind (arith, nat_tests)

pub above : (x b : ℕ) → 1 ≤ b → b ≤ 64 → 1 * 2 ^ (b - 1) % 18446744073709551616 ≤ bit_and x (18446744073709551615 / 2 ^ (64 - b))
    → bit_and x (18446744073709551615 / 2 ^ (64 - b)) + (18446744073709551615 - 18446744073709551615 / 2 ^ (64 - b)) ≡ sext_of b x
above x b lo hi h =
    let low = low-is x b lo hi in
    let sign = sign-is b lo hi in
    let mask = mask-is b lo hi in
    let large : 2 ^ (b - 1) ≤ x % 2 ^ b = rw (sym low, sym sign) h in
    let some = pow_pos b in
    rw (low, mask) (grind (arith, nat_tests))
