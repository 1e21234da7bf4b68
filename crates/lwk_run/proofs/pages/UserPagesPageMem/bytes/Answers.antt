use Rattle.lwk_run.proofs.Stored.{bytes-there, frame-fits}
use Rattle.std.proofs.Common.{Some, rules, ap, sym, ◌∙◌, ◌<◌, ◌^◌}
use Rattle.lwk_run.proofs.pages.UserPagesPageMem.bytes.Goals as goal

pub overflow_cast-k : goal.overflow_cast-k
overflow_cast-k g c = let l : c.args.k < 2 ^ 32 = frame-fits g.B.Begun.rows c.args.self.now.frames.mem.now c.args.k c.args.page c.requires in search rules

pub returns : goal.returns
returns g c = bytes-there g.B.Begun.rows c.args.self.now.frames.mem.now c.args.k c.args.page c.requires c.args.self.now.inside ∙ ap Some (sym c.array.ensures.page)
