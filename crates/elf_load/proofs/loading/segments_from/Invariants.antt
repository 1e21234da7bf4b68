use Rattle.std.proofs.Common.{◌≡◌, map, take}
use Rattle.elf_load.specs.Profile.{segment_from}
use Rattle.elf_load.proofs.loading.segments_from.Given as goal

abbrev pub invariant-loop-s : goal.invariant-loop-s
invariant-loop-s l = l.segments ≡ map (segment_from l.bytes) (take l.s-index l.placed)
