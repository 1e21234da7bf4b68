use Rattle.std.proofs.Common.{◌≡◌, ◌++◌, take}
use Rattle.elf_load.specs.Written.{parts}
use Rattle.elf_load.proofs.written_apart.add_parts.Given as goal

abbrev pub invariant-loop-s : goal.invariant-loop-s
invariant-loop-s l = l.file ≡ l.fn.file ++ parts (take l.s-index l.segments)
