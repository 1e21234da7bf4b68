-- The upper half of a product of two numbers of 64 bits.
use Rattle.std.proofs.Common.{◌≡◌, ℕ, suc, ◌-◌, ◌^◌, ◌<◌, ◌≤◌, Bool, true, false, nat_lt, ℤ, pos, negsuc, ◌*ℤ◌, to_z, of_z, w64, ap, ◌∙◌, refl, arith, lit<}
use Rattle.std.proofs.lemmas.Bool.Decides.{nat_tests}
use Rattle.std.proofs.lemmas.Int.{to_z-of_z, fits_signed_mul}
use Rattle.std.specs.Int.{int_shr}
use Rattle.std.specs.Int.RustNames.{unsigned_abs}
use mir.Syntax.{w128}
use mir.Val.{SFits, sel}

abs-by : (n : ℕ) (b : Bool) → nat_lt n (2 ^ 63) ≡ b → n < 2 ^ 64 → unsigned_abs (sel b (pos n) (negsuc (2 ^ 64 - suc n))) ≤ 2 ^ 63
abs-by n true e h = let l : n < 2 ^ 63 = grind (arith, nat_tests, e) in omega arith
abs-by n false e h = let l : 2 ^ 63 ≤ n = grind (arith, nat_tests, e) in omega arith

-- how large a number of 64 bits is as a signed one
pub abs-small : (n : ℕ) → n < 2 ^ 64 → unsigned_abs (to_z w64 n) ≤ 2 ^ 63
abs-small n h = abs-by n (nat_lt n (2 ^ 63)) refl h

shr-fits : (z : ℤ) → SFits w128 z → SFits w64 (int_shr z 64)
shr-fits (pos a) f = let h : a < 2 ^ 127 = f.sfits in record { sfits = omega arith }
shr-fits (negsuc a) f = let h : a < 2 ^ 127 = f.sfits in record { sfits = omega arith }

wider : (z : ℤ) → SFits w64 z → SFits w128 z
wider (pos a) f = let h : a < 2 ^ 63 = f.sfits in record { sfits = omega arith }
wider (negsuc a) f = let h : a < 2 ^ 63 = f.sfits in record { sfits = omega arith }

-- what the code's casts make of it
pub high : (x y : ℤ) → SFits w128 x → SFits w128 y → SFits w128 (x *ℤ y)
    → of_z w64 (to_z w64 (of_z w64 (to_z w128 (of_z w128 (int_shr (to_z w128 (of_z w128 (to_z w128 (of_z w128 x) *ℤ to_z w128 (of_z w128 y)))) 64))))) ≡ of_z w64 (int_shr (x *ℤ y) 64)
high x y f g h =
    let s = shr-fits (x *ℤ y) h in
    ap (λ z. of_z w64 (to_z w64 (of_z w64 (to_z w128 (of_z w128 (int_shr (to_z w128 (of_z w128 (z *ℤ to_z w128 (of_z w128 y)))) 64)))))) (to_z-of_z w128 x f)
    ∙ ap (λ z. of_z w64 (to_z w64 (of_z w64 (to_z w128 (of_z w128 (int_shr (to_z w128 (of_z w128 (x *ℤ z))) 64)))))) (to_z-of_z w128 y g)
    ∙ ap (λ z. of_z w64 (to_z w64 (of_z w64 (to_z w128 (of_z w128 (int_shr z 64)))))) (to_z-of_z w128 (x *ℤ y) h)
    ∙ ap (λ z. of_z w64 (to_z w64 (of_z w64 z))) (to_z-of_z w128 (int_shr (x *ℤ y) 64) (wider (int_shr (x *ℤ y) 64) s))
    ∙ ap (of_z w64) (to_z-of_z w64 (int_shr (x *ℤ y) 64) s)

-- the product of two numbers of these sizes
pub product-fits : (x y : ℤ) → unsigned_abs x ≤ 2 ^ 63 → unsigned_abs y ≤ 2 ^ 64 - 1 → SFits w128 (x *ℤ y)
product-fits x y h k = fits_signed_mul w128 x y (2 ^ 63) (2 ^ 64 - 1) h k (lit< tt)
