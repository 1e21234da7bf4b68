use Rattle.kernel_tables.specs.Shown.{node_of}
use Rattle.pair_core.proofs.parts.Parts.make_sleeper_room.Goals as goal
use Rattle.pair_core.specs.Kept.{Kept}
use Rattle.pair_core.specs.Shown.{pair_of}
use Rattle.std.proofs.Common.{ap, sym, ◌∙◌}

pub returns-clause-same : goal.returns-clause-same
unfolding pair_of
returns-clause-same g c = λ i. record (pair_of g.T.PageTable.rows g.F.FileStore.files c.args.self.now) { node = c.reserve_sleeper.ensures.node (g.F.FileStore.files c.args.self.now.files) i }

pub returns-clause-kept : goal.returns-clause-kept
unfolding node_of
returns-clause-kept g c =
    let frames = sym (ap (λ n. n.frame_count) (c.reserve_sleeper.ensures.node (g.F.FileStore.files c.args.self.now.files))) in
    λ (kept : Kept c.args.self.now). record { rings = kept.rings; pages = kept.pages ∙ frames; pool = kept.pool ∙ frames }
