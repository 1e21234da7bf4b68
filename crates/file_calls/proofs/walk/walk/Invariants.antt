use Rattle.std.proofs.Common.{◌≡◌, length}
use Rattle.file_calls.specs.Walks.{walked}
use Rattle.file_calls.proofs.walk.walk.Given as goal

abbrev pub invariant-loop-name : goal.invariant-loop-name
invariant-loop-name g l = walked (g.S.FileStore.files l.files) l.here l.rest ≡ walked (g.S.FileStore.files l.files) l.from l.text

abbrev pub decreases-loop-name : goal.decreases-loop-name
decreases-loop-name g l = length l.rest
