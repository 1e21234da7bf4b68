-- The total of counts of at most 64 each.
use Rattle.rv_quantum.specs.Promised.{is_count}
use Rattle.std.proofs.Common.{arith, refl}
use Rattle.std.proofs.lemmas.Bool.Decides.{nat_tests}
use Rattle.std.specs.List.{fold, list_all}
use Rattle.std.specs.Prelude.{Bool, IsTrue, List, [], false, length, nat_le, sum, true, ℕ, ◌&&◌, ◌*◌, ◌+◌, ◌∷◌, ◌≡◌, ◌≤◌}

both : (a b c : Bool) → IsTrue ((a && b) && c) → (b ≡ true) × IsTrue c
both true true c h = (refl, h)
both true false c h = absurd (cc)
both false b c h = absurd (cc)

one : (a b c : Bool) → IsTrue ((a && b) && c) → a ≡ true
one true b c h = refl
one false b c h = absurd (cc)

few-from : (a : ℕ) (ns : List ℕ) → IsTrue (list_all is_count ns) → fold ◌+◌ a ns ≤ a + 64 * length ns
few-from a [] h = omega arith
few-from a (n ∷ ns) h =
    let b = both (nat_le 1 n) (nat_le n 64) (list_all is_count ns) h in
    let few : n ≤ 64 = let t = b.0 in grind (arith, nat_tests, t) in
    let rest = few-from (a + n) ns b.1 in
    omega (arith, few, rest)

some-from : (a : ℕ) (ns : List ℕ) → IsTrue (list_all is_count ns) → a + length ns ≤ fold ◌+◌ a ns
some-from a [] h = omega arith
some-from a (n ∷ ns) h =
    let b = both (nat_le 1 n) (nat_le n 64) (list_all is_count ns) h in
    let some : 1 ≤ n = let t = one (nat_le 1 n) (nat_le n 64) (list_all is_count ns) h in grind (arith, nat_tests, t) in
    let rest = some-from (a + n) ns b.1 in
    omega (arith, some, rest)

pub total-some : (ns : List ℕ) → IsTrue (list_all is_count ns) → length ns ≤ sum ns
total-some ns h = let l = some-from 0 ns h in omega (arith, l)

pub total-few : (ns : List ℕ) → IsTrue (list_all is_count ns) → sum ns ≤ 64 * length ns
total-few ns h = let l = few-from 0 ns h in omega (arith, l)
