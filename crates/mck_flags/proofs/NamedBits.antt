-- A number's flags, by what `from_bits` says of them.
use Rattle.std.proofs.Common.{◌≡◌, ◌↔◌, ◌==◌, ℕ, Bool, true, false, cond, if◌then◌else◌, Option, Some, None, option_map, bit_and, IsSome, IfSome, ap, refl, arith}
use Rattle.std.proofs.lemmas.Bool.{false≢true}
use Rattle.std.proofs.lemmas.Bool.Decides.{nat_tests}

module _ {F : Type 0} where
  by-test : (get : F → ℕ) (o : Option F) (b k : ℕ) → IfSome o (λ f. get f ≡ b) → IsSome o ↔ (bit_and b k ≡ b)
      → (t : Bool) → (bit_and b k == b) ≡ t → option_map get o ≡ cond t (Some b) None
  by-test get None b k v h true e = let same : bit_and b k ≡ b = grind (arith, nat_tests, e) in absurd (false≢true (h.1 same))
  by-test get None b k v h false e = refl
  by-test get (Some f) b k v h true e = ap Some v
  by-test get (Some f) b k v h false e = let same : bit_and b k ≡ b = h.0 refl in absurd (grind (arith, nat_tests, e, same))

  -- flags come out exactly where the number has no other bits than k's
  pub named : (get : F → ℕ) (o : Option F) (b k : ℕ) → IfSome o (λ f. get f ≡ b) → IsSome o ↔ (bit_and b k ≡ b)
      → option_map get o ≡ (if bit_and b k == b then Some b else None)
  named get o b k v h = by-test get o b k v h (bit_and b k == b) refl
