use Rattle.std.proofs.Common.{◌≡◌, ◌+◌, ◌++◌, length}
use Rattle.job_text.specs.Order.{inputs_from}
use Rattle.job_text.proofs.order.inputs_of.Given as goal

abbrev pub invariant-loop-input : goal.invariant-loop-input
invariant-loop-input l = record {
  value : l.sources ++ inputs_from l.place l.rest ≡ inputs_from 0 l.inputs;
  place : l.place + length l.rest ≡ length l.inputs;
}

abbrev pub decreases-loop-input : goal.decreases-loop-input
decreases-loop-input l = length l.rest
