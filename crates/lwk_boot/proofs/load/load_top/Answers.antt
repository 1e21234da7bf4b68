use Rattle.lwk_boot.proofs.Loading.{top-end, top-last, top-stack, top-trampoline}
use Rattle.lwk_space.specs.Frames.{space}
use Rattle.std.proofs.Common.{◌∙◌}
use Rattle.lwk_boot.proofs.load.load_top.Goals as goal

pub returns-clause-left : goal.returns-clause-left
returns-clause-left g c = λ m h.
    let image = c.args.image.now in
    let arguments = c.args.arguments.now in
    let sp = space (g.T.PageTable.rows c.map_next-3.new.guest.table) c.map_next-3.new.mem c.map_next-3.new.pool in
    c.map_next.ensures.left m (top-stack image arguments m h)
    ∙ (c.map_next-2.ensures.left m (top-last image arguments m h c.requires.arguments c.stack_top-top.result c.stack_top-top.ensures)
    ∙ (c.map_next-3.ensures.left m (top-trampoline image arguments m h) ∙ top-end image arguments m h sp))
