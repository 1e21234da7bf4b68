use Rattle.std.proofs.Common.{◌≡◌, ◌+◌, ◌++◌, length}
use Rattle.job_text.specs.Order.{guests_from}
use Rattle.job_text.proofs.order.guests_of.Given as goal

abbrev pub invariant-loop-guest : goal.invariant-loop-guest
invariant-loop-guest l = record {
  value : l.sources ++ guests_from l.place l.rest ≡ guests_from 0 l.guests;
  place : l.place + length l.rest ≡ length l.guests;
}

abbrev pub decreases-loop-guest : goal.decreases-loop-guest
decreases-loop-guest l = length l.rest
