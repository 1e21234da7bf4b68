use Rattle.pair_core.specs.Shown.{pair_of}
use Rattle.pair_node.proofs.Standing.{stance-is}
use Rattle.pair_node.proofs.pair.Pair.offer_of_worker.Goals as goal
use Rattle.pair_offers.proofs.Left.{left-by}
use Rattle.pair_offers.specs.declared.stance.Stance.TheVariants.{Holding, Other, Pinned}
use Rattle.std.proofs.Common.{sym, ◌∙◌}

pub returns-in-Pinned : goal.returns-in-Pinned
returns-in-Pinned g c =
    let stance = c.stance_at.ensures ∙ sym (stance-is g.T.PageTable.rows g.F.FileStore.files c.args.self.now.parts c.args.p.0 c.args.w c.args.side.now c.requires.side) in
    c.offer_of_pinned.ensures ∙ left-by (pair_of g.T.PageTable.rows g.F.FileStore.files c.args.self.now.parts) c.args.p.0 c.args.w Pinned (sym c.in-Pinned.is ∙ stance)

pub returns-in-Holding : goal.returns-in-Holding
returns-in-Holding g c =
    let stance = c.stance_at.ensures ∙ sym (stance-is g.T.PageTable.rows g.F.FileStore.files c.args.self.now.parts c.args.p.0 c.args.w c.args.side.now c.requires.side) in
    c.offer_of_holding.ensures ∙ left-by (pair_of g.T.PageTable.rows g.F.FileStore.files c.args.self.now.parts) c.args.p.0 c.args.w Holding (sym c.in-Holding.is ∙ stance)

pub returns-in-Other : goal.returns-in-Other
returns-in-Other g c =
    let stance = c.stance_at.ensures ∙ sym (stance-is g.T.PageTable.rows g.F.FileStore.files c.args.self.now.parts c.args.p.0 c.args.w c.args.side.now c.requires.side) in
    c.if_it_may.ensures ∙ left-by (pair_of g.T.PageTable.rows g.F.FileStore.files c.args.self.now.parts) c.args.p.0 c.args.w Other (sym c.in-Other.is ∙ stance)
