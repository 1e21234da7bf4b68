use Rattle.hybrid_model.specs.Spaces.{Space}
use Rattle.lwk_changes.proofs.Making.{dropped-absent, enough-after}
use Rattle.lwk_space.specs.Frames.{space}
use Rattle.mck_word.specs.Maps.{at}
use Rattle.std.proofs.Common.{ap, arith, length, ◌∙◌}
use Rattle.lwk_changes.proofs.changes.replace.Goals as goal

pub map-requires-clause-absent : goal.map-requires-clause-absent
map-requires-clause-absent g c = λ j a b.
    let sp = space (g.T.PageTable.rows c.args.own.now.table) c.args.mem.now c.args.pool.now in
    ap (λ (s : Space). at s.table j) (c.unmap.ensures.after c.args.mem.now) ∙ dropped-absent c.args.r.now sp c.requires.order j a b

pub map-requires-clause-enough : goal.map-requires-clause-enough
map-requires-clause-enough g c =
    let sp = space (g.T.PageTable.rows c.args.own.now.table) c.args.mem.now c.args.pool.now in
    let e = ap (λ (s : Space). length s.free) (c.unmap.ensures.after c.args.mem.now) in
    let l = enough-after c.args.r.now sp c.requires.enough in
    omega (arith, e, l)
