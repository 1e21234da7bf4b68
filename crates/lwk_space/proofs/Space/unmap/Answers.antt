use Rattle.lwk_space.specs.Rows.{FramesTaken}
use Rattle.std.proofs.Common.{subst, sym}
use Rattle.lwk_space.proofs.Space.unmap.Goals as goal

pub drop_pages-requires-clause-taken : goal.drop_pages-requires-clause-taken
drop_pages-requires-clause-taken g c = subst (λ s. FramesTaken (g.T.PageTable.rows s.table) c.args.pool.now) (sym c.self.view_is) c.requires.taken
