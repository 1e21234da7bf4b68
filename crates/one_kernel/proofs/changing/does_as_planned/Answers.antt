use Rattle.kernel_model.specs.Nodes.{process_of}
use Rattle.kernel_tables.specs.Shown.{node_of}
use Rattle.one_kernel.proofs.changing.does_as_planned.Goals as goal
use Rattle.one_kernel.specs.Due.{HasRoomFor, at_once}
use Rattle.std.proofs.Common.{subst}
use Rattle.vm_calls.specs.Facts.{decision}
use Rattle.vm_calls.specs.declared.VmPlan.{VmPlan}

pub make_change-requires-clause-room : goal.make_change-requires-clause-room
make_change-requires-clause-room c = λ files.
    subst (λ (q : VmPlan). HasRoomFor c.args.memory.now.spare (process_of (node_of c.args.node.now files) c.args.p.0).program_break (at_once (decision q))) c.in-Now.is (c.requires.room files)
