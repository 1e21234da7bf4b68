use Rattle.std.proofs.Common.{◌≡◌, ◌≤◌, ◌-◌, ◌*◌, ◌++◌}
use Rattle.elf_load.specs.Written.{placed_in}
use Rattle.elf_load.proofs.written_around.read_placed.Given as goal

abbrev pub invariant-loop-number : goal.invariant-loop-number
invariant-loop-number l = record {
  value : l.placed ++ placed_in l.table l.at l.number (l.count - l.number) ≡ placed_in l.table 0 0 l.count;
  at : l.at ≡ 56 * l.number;
  most : l.number ≤ l.count;
}

abbrev pub decreases-loop-number : goal.decreases-loop-number
decreases-loop-number l = l.count - l.number
