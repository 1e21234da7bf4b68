use Rattle.std.proofs.Common.{◌≡◌, ◌+◌, ◌-◌, ◌*◌, ◌≤◌, length, All}
use Rattle.elf_load.specs.Profile.{segments_of, after_these}
use Rattle.elf_load.specs.Kept.{IsInside}
use Rattle.elf_load.proofs.headers.read_segments.Given as goal

abbrev pub invariant-loop-number : goal.invariant-loop-number
invariant-loop-number l = record {
  value : after_these l.placed (segments_of l.bytes l.at l.number (l.header.count - l.number)) ≡ segments_of l.bytes l.header.place 0 l.header.count;
  at : l.at ≡ l.header.place + 56 * l.number;
  most : l.number ≤ l.header.count;
  count : length l.placed ≤ l.number;
  inside : All (IsInside (length l.bytes)) l.placed;
}

abbrev pub decreases-loop-number : goal.decreases-loop-number
decreases-loop-number l = l.header.count - l.number
