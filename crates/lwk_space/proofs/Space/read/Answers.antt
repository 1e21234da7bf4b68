use Rattle.lwk_space.specs.Rows.{FramesIn}
use Rattle.std.proofs.Common.{subst, sym}
use Rattle.lwk_space.proofs.Space.read.Goals as goal

pub read-requires : goal.read-requires
read-requires g c = subst (λ s. FramesIn (g.T.PageTable.rows s.table) c.args.mem.now) (sym c.self.view_is) c.requires
