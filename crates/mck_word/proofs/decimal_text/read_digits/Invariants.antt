use Rattle.std.proofs.Common.{◌≡◌, length}
use Rattle.mck_word.specs.Numbers.{digits}
use Rattle.mck_word.proofs.decimal_text.read_digits.Given as goal

abbrev pub invariant-loop-digit : goal.invariant-loop-digit
invariant-loop-digit l = digits l.number l.rest ≡ digits 0 l.bytes

abbrev pub decreases-loop-digit : goal.decreases-loop-digit
decreases-loop-digit l = length l.rest
