use Rattle.lwk_run.proofs.Stored.{frame-fits, page-stored}
use Rattle.lwk_space.specs.Lacks.{memory}
use Rattle.std.proofs.Common.{rules, ap, ◌∙◌, ◌<◌, ◌^◌}
use Rattle.lwk_run.proofs.pages.UserPagesPageMem.set_some.Goals as goal

pub overflow_cast-k : goal.overflow_cast-k
overflow_cast-k g c = let l : c.args.k < 2 ^ 32 = frame-fits g.B.Begun.rows c.args.self.now.frames.mem.now c.args.k c.args.page c.requires.held in search rules

pub returns-clause-memory : goal.returns-clause-memory
returns-clause-memory g c =
    let s = c.args.self.now in
    ap (memory g.B.Begun.rows) c.store.ensures.stored
    ∙ page-stored g.B.Begun.rows s.frames.mem.now c.args.k c.args.page c.requires.held c.args.off c.args.size c.args.v s.inside s.apart
