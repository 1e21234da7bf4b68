use Rattle.std.proofs.Common.{◌≡◌, ◌-◌, ◌≤◌, [], length, take, drop}
use Rattle.elf_load.specs.Profile.{apart}
use Rattle.elf_load.proofs.loading.check_apart.Given as goal

abbrev pub invariant-loop-done : goal.invariant-loop-done
invariant-loop-done l = record {
  within : l.done ≤ length l.placed;
  apart : apart (take l.done l.placed) (drop l.done l.placed) ≡ apart [] l.placed;
}

abbrev pub decreases-loop-done : goal.decreases-loop-done
decreases-loop-done l = length l.placed - l.done
