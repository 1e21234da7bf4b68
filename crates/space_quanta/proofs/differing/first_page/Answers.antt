use Rattle.isa_model.specs.Memory.{page_at}
use Rattle.lwk_space.specs.Lacks.{memory}
use Rattle.rv_quantum.specs.Differing.{FirstPage, PageDiffers}
use Rattle.rv_quantum.specs.Images.{seen}
use Rattle.std.proofs.Common.{inl, map, subst, sym}
use Rattle.space_quanta.proofs.differing.first_page.Goals as goal

pub returns-in-Some-page_differs : goal.returns-in-Some-page_differs
returns-in-Some-page_differs g c =
    let now = memory (g.T.PageTable.rows c.args.space.now.table) c.args.frames.now in
    let d = c.in-Some-page_differs.differs in
    c.loop-image.invariant.first d (subst (λ is. FirstPage (map seen is) now d) (sym c.in-Some.ensures.cases.0) (inl c.in-Some-page_differs.ensures))
