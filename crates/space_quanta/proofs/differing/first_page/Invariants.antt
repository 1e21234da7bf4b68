use Rattle.lwk_space.specs.Lacks.{memory}
use Rattle.rv_quantum.specs.Differing.{FirstPage}
use Rattle.rv_quantum.specs.Images.{seen}
use Rattle.rv_quantum.specs.Promised.{Agrees}
use Rattle.rv_quantum.specs.declared.differs.Differs.{Differs}
use Rattle.std.proofs.Common.{length, map}
use Rattle.space_quanta.proofs.differing.first_page.Given as goal

abbrev pub invariant-loop-image : goal.invariant-loop-image
invariant-loop-image g l =
    let now = memory (g.T.PageTable.rows l.space.table) l.frames in
    record {
      same : Agrees (map seen l.rest) now → Agrees (map seen l.images) now;
      first : (d : Differs) → FirstPage (map seen l.rest) now d → FirstPage (map seen l.images) now d;
    }

abbrev pub decreases-loop-image : goal.decreases-loop-image
decreases-loop-image g l = length l.rest
