use Rattle.std.proofs.Common.{◌≡◌, ◌++◌, length}
use Rattle.elf_load.specs.Written.{program_headers}
use Rattle.elf_load.proofs.written_apart.add_program_headers.Given as goal

abbrev pub invariant-loop-s : goal.invariant-loop-s
invariant-loop-s l = l.file ++ program_headers l.next l.rest ≡ l.fn.file ++ program_headers l.fn.offset l.segments

abbrev pub decreases-loop-s : goal.decreases-loop-s
decreases-loop-s l = length l.rest
