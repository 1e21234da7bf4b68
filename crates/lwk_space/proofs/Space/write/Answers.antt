use Rattle.lwk_space.specs.Lacks.{NoRowHas}
use Rattle.lwk_space.specs.Rows.{FramesApart, FramesIn}
use Rattle.std.proofs.Common.{subst, sym}
use Rattle.lwk_space.proofs.Space.write.Goals as goal

pub write-requires-clause-frames : goal.write-requires-clause-frames
write-requires-clause-frames g c = subst (λ s. FramesIn (g.T.PageTable.rows s.table) c.args.mem.now) (sym c.self.view_is) c.requires.frames

pub write-requires-clause-apart : goal.write-requires-clause-apart
write-requires-clause-apart g c = subst (λ s. FramesApart (g.T.PageTable.rows s.table)) (sym c.self.view_is) c.requires.apart

pub returns-clause-others : goal.returns-clause-others
returns-clause-others g c = λ f h. c.write.ensures.others f (subst (λ s. NoRowHas (g.T.PageTable.rows s.table) f) (sym c.self.view_is) h)
