use Rattle.std.proofs.Common.{◌≡◌, length, max}
use Rattle.elf_load.specs.Written.{last_end}
use Rattle.elf_load.proofs.written_around.last_end.Given as goal

abbrev pub invariant-loop-p : goal.invariant-loop-p
invariant-loop-p l = max l.end (last_end l.places l.parts) ≡ last_end l.placed l.segments

abbrev pub decreases-loop-p : goal.decreases-loop-p
decreases-loop-p l = length l.places
