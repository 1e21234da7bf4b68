use Rattle.std.proofs.Common.{◌≡◌, ◌+◌, ◌-◌, ◌≤◌, map}
use Rattle.mck_word.specs.Lists.{count_from}
use Rattle.guest_asm.specs.Growing.{grow_guest}
use Rattle.guest_asm.proofs.growing.grow_guests.Given as goal

abbrev pub invariant-loop-guest : goal.invariant-loop-guest
invariant-loop-guest l = record {
  value : l.guests ≡ map grow_guest (count_from 1 (l.guest - 1));
  some : 1 ≤ l.guest;
  most : l.guest ≤ l.n + 1;
}

abbrev pub decreases-loop-guest : goal.decreases-loop-guest
decreases-loop-guest l = l.n + 1 - l.guest
