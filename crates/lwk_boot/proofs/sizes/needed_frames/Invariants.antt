use Rattle.job_model.specs.declared.image.Segment.{Segment}
use Rattle.kernel_model.specs.Pages.{pages_in, pages_of}
use Rattle.std.specs.Prelude.{drop, flat_map, length, ◌≡◌, ◌≤◌, ◌+◌, ◌*◌}
use Rattle.lwk_boot.proofs.sizes.needed_frames.Given as goal

-- the segments from the index on are left
abbrev pub invariant-loop-s : goal.invariant-loop-s
invariant-loop-s l = record {
  left : l.needed + length (flat_map (λ (s : Segment). pages_in (pages_of s.addr s.mem)) (drop l.s-index l.s-items)) ≡ length (flat_map (λ (s : Segment). pages_in (pages_of s.addr s.mem)) l.s-items) + 17;
  below : l.needed ≤ 17 + 0x3000000 * l.s-index;
}
