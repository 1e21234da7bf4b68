use Rattle.std.proofs.Common.{◌≡◌, ◌≤◌, length}
use Rattle.file_calls.specs.Walks.{steps}
use Rattle.file_calls.proofs.walk.next_step.Given as goal

abbrev pub invariant-loop-name : goal.invariant-loop-name
invariant-loop-name l = (steps l.rest ≡ steps l.text) × (length l.rest ≤ length l.text)

abbrev pub decreases-loop-name : goal.decreases-loop-name
decreases-loop-name l = length l.rest
