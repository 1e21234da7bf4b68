use Rattle.kernel_model.specs.Nodes.{process_of}
use Rattle.kernel_tables.specs.Shown.{node_of}
use Rattle.lwk_side.proofs.kernel.Lwk.make_end_room.Goals as goal
use Rattle.lwk_side.specs.Changing.{HasEndRoom}
use Rattle.std.proofs.Common.{subst}
use Rattle.std.specs.Prelude.{Option, ℤ}

pub returns-in-Reply-clause-room : goal.returns-in-Reply-clause-room
returns-in-Reply-clause-room g c = λ files.
    let own = c.args.space.now in
    let brk = (process_of (node_of c.args.self.now.node files) c.args.p.0).program_break in
    subst (λ (o : Option ℤ). HasEndRoom (g.T.PageTable.has_room own.table) own.areas.spare brk c.args.change.now o) (c.in-Reply.ensures files) tt
