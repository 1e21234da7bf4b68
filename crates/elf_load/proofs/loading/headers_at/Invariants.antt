use Rattle.std.proofs.Common.{◌≡◌, length, find, All}
use Rattle.elf_load.specs.Profile.{holds_headers}
use Rattle.elf_load.specs.Kept.{IsInside}
use Rattle.elf_load.proofs.loading.headers_at.Given as goal

abbrev pub invariant-loop-s : goal.invariant-loop-s
invariant-loop-s l = record {
  found : find (holds_headers l.header) l.rest ≡ find (holds_headers l.header) l.placed;
  inside : All (IsInside l.size) l.rest;
}

abbrev pub decreases-loop-s : goal.decreases-loop-s
decreases-loop-s l = length l.rest
