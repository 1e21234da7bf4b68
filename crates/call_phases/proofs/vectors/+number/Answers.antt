use Rattle.std.proofs.Common.{◌≤◌, ◌^◌, List, ℕ, get_or, length, subst, arith, Fits, w8}
use Rattle.std.proofs.Math.Nat.{pow-le-pow_right}
use Rattle.call_phases.proofs.vectors.+number.Goals as goal

pub overflow_mul-result : goal.overflow_mul-result
overflow_mul-result t c =
    let l = c.in-Some.ensures.cases.1 in
    let k : length c.in-Some.rest.now ≤ 7 = omega arith in
    let p : 256 ^ length c.in-Some.rest.now ≤ 256 ^ 7 = pow-le-pow_right (omega arith) k in
    let b = c.number.ensures.bound in
    omega arith

pub overflow_add-result : goal.overflow_add-result
overflow_add-result t c =
    let l = c.in-Some.ensures.cases.1 in
    let k : length c.in-Some.rest.now ≤ 7 = omega arith in
    let p : 256 ^ length c.in-Some.rest.now ≤ 256 ^ 7 = pow-le-pow_right (omega arith) k in
    let b = c.number.ensures.bound in
    let low : Fits w8 c.in-Some.low.now = subst (λ (bs : List ℕ). Fits w8 (get_or bs 0 0)) c.in-Some.ensures.cases.0 (c.type_inv.bytes 0) in
    let f = c.from.ensures in
    omega arith
