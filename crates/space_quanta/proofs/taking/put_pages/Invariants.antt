use Rattle.isa_model.specs.Memory.{page_at}
use Rattle.lwk_run.specs.Lent.{Stays}
use Rattle.lwk_space.specs.Lacks.{memory}
use Rattle.rv_quantum.specs.Images.{AreClean, are_apart, left, pages_of, seen}
use Rattle.rv_quantum.specs.Promised.{Agrees}
use Rattle.std.proofs.Common.{length, map, true, ℕ, ◌≡◌}
use Rattle.space_quanta.proofs.taking.put_pages.Given as goal

abbrev pub invariant-loop-image : goal.invariant-loop-image
invariant-loop-image g l =
    let rows = g.T.PageTable.rows l.space.table in
    record {
      same : Agrees (map seen l.rest) (memory rows l.frames);
      clean : AreClean l.rest;
      apart : are_apart (pages_of l.rest) ≡ true;
      left : (p : ℕ) → left l.rest p (page_at (memory rows l.frames) p) ≡ left l.images p (page_at (memory rows l.fn.frames) p);
      stays : Stays rows l.fn.frames l.frames;
    }

abbrev pub decreases-loop-image : goal.decreases-loop-image
decreases-loop-image g l = length l.rest
