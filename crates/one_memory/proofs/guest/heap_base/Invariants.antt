use Rattle.job_model.specs.Images.{highest}
use Rattle.job_model.specs.declared.image.Segment.{Segment}
use Rattle.kernel_model.specs.Layout.{segment_end}
use Rattle.std.specs.Prelude.{drop, fold, max, ◌≡◌, ◌≤◌}
use Rattle.one_memory.proofs.guest.heap_base.Given as goal

-- the segments from the index on are left
abbrev pub invariant-loop-s : goal.invariant-loop-s
invariant-loop-s l = record {
  left : fold (λ a (s : Segment). max a (segment_end s)) l.end (drop l.s-index l.s-items) ≡ fold (λ a (s : Segment). max a (segment_end s)) 0 l.s-items;
  below : l.end ≤ highest;
}
