use Rattle.std.proofs.Common.{◌≡◌, ◌≤◌, length, take}
use Rattle.file_model.specs.Paths.{names_of}
use Rattle.file_calls.proofs.names.trimmed.Given as goal

abbrev pub invariant-loop-end : goal.invariant-loop-end
invariant-loop-end l = (names_of (take l.end l.text) ≡ names_of l.text) × (l.end ≤ length l.text)

abbrev pub decreases-loop-end : goal.decreases-loop-end
decreases-loop-end l = l.end
