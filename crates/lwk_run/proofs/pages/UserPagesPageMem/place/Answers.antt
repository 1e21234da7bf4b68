use Rattle.lwk_run.proofs.Stored.{lacks-seen}
use Rattle.std.proofs.Common.{ap, sym, ◌∙◌}
use Rattle.std.specs.Prelude.{is_none}
use Rattle.lwk_run.proofs.pages.UserPagesPageMem.place.Goals as goal

pub returns-in-Some-clause-lacks : goal.returns-in-Some-clause-lacks
returns-in-Some-clause-lacks g c =
    let s = c.args.self.now in
    ap is_none (sym c.in-Some.is) ∙ lacks-seen g.B.Begun.rows (g.T.PageTable.rows s.space.now.table) s.frames.mem.now c.args.access c.args.page c.frame_at.result s.shown c.frame_at.ensures

pub returns-in-None-clause-lacks : goal.returns-in-None-clause-lacks
returns-in-None-clause-lacks g c =
    let s = c.args.self.now in
    ap is_none (sym c.in-None.is) ∙ lacks-seen g.B.Begun.rows (g.T.PageTable.rows s.space.now.table) s.frames.mem.now c.args.access c.args.page c.frame_at.result s.shown c.frame_at.ensures
