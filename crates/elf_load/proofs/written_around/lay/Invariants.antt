use Rattle.std.proofs.Common.{◌≡◌, ◌≤◌, length}
use Rattle.elf_load.specs.Written.{laid, last_end}
use Rattle.elf_load.proofs.written_around.lay.Given as goal

abbrev pub invariant-loop-p : goal.invariant-loop-p
invariant-loop-p l = record {
  value : laid l.file l.places l.parts ≡ laid l.fn.file l.placed l.segments;
  len : length l.file ≡ length l.fn.file;
  within : last_end l.places l.parts ≤ length l.file;
}

abbrev pub decreases-loop-p : goal.decreases-loop-p
decreases-loop-p l = length l.places
