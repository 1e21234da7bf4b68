use Rattle.std.proofs.Common.{◌≡◌, ◌*ℤ◌, ◌-◌, ◌^◌, ◌≤◌, ◌∙◌, ap, arith, to_z, of_z, subst, sym}
use Rattle.std.proofs.lemmas.Int.{to_z-of_z}
use Rattle.std.specs.Int.{w64, int_shr}
use Rattle.std.specs.Int.RustNames.{unsigned_abs}
use Rattle.rv_am.proofs.HighProducts.{abs-small, high, product-fits}
use Rattle.rv_am.proofs.parts.high_signed.Goals as goal

pub returns : goal.returns
returns c =
    let x : c.from.result ≡ to_z w64 c.args.a = c.from.ensures ∙ to_z-of_z w64 c.cast_signed.result (record { sfits = c.cast_signed.type_inv }) ∙ c.cast_signed.ensures in
    let y : c.from-2.result ≡ to_z w64 c.args.b = c.from-2.ensures ∙ to_z-of_z w64 c.cast_signed-2.result (record { sfits = c.cast_signed-2.type_inv }) ∙ c.cast_signed-2.ensures in
    let a = subst (λ z. unsigned_abs z ≤ 2 ^ 63) (sym x) (abs-small c.args.a c.ranges.a.fits) in
    let b = subst (λ z. unsigned_abs z ≤ 2 ^ 63) (sym y) (abs-small c.args.b c.ranges.b.fits) in
    let wide : unsigned_abs c.from-2.result ≤ 2 ^ 64 - 1 = omega (arith, b) in
    c.cast_unsigned.ensures
    ∙ high c.from.result c.from-2.result (record { sfits = c.from.type_inv }) (record { sfits = c.from-2.type_inv }) (product-fits c.from.result c.from-2.result a wide)
    ∙ ap (λ z. of_z w64 (int_shr (z *ℤ c.from-2.result) 64)) x ∙ ap (λ z. of_z w64 (int_shr (to_z w64 c.args.a *ℤ z) 64)) y
