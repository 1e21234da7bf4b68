use Rattle.file_model.specs.Files.{Files}
use Rattle.kernel_tables.specs.Shown.{node_of}
use Rattle.one_kernel.proofs.parts.One.make_share_room.Goals as goal
use Rattle.one_kernel.specs.Parts.{one_of}
use Rattle.std.proofs.Common.{ap}

pub returns-clause-state : goal.returns-clause-state
unfolding one_of
returns-clause-state c =
    let x = c.args.self.now in
    ap (λ (f : Files). record (one_of x) { node = node_of x.node f }) c.make_share.ensures.same
