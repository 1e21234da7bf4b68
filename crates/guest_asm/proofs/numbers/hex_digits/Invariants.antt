use Rattle.std.proofs.Common.{◌≡◌, length}
use Rattle.guest_asm.specs.Numbers.{hex_digits}
use Rattle.guest_asm.proofs.numbers.hex_digits.Given as goal

abbrev pub invariant-loop-b : goal.invariant-loop-b
invariant-loop-b l = hex_digits l.number l.rest ≡ hex_digits 0 l.digits

abbrev pub decreases-loop-b : goal.decreases-loop-b
decreases-loop-b l = length l.rest
