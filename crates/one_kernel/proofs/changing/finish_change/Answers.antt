use Rattle.kernel_model.specs.Nodes.{process_of}
use Rattle.kernel_tables.specs.Shown.{node_of}
use Rattle.one_kernel.proofs.changing.finish_change.Goals as goal
use Rattle.one_kernel.specs.Due.{HasRoomFor, unless_refused}
use Rattle.std.proofs.Common.{ap, subst, sym, ◌∙◌}
use Rattle.std.specs.Prelude.{Option, ℤ}
use Rattle.vm_calls.specs.Facts.{refusal}

pub make_change-requires-clause-room : goal.make_change-requires-clause-room
make_change-requires-clause-room c = λ files.
    subst (λ (o : Option ℤ). HasRoomFor c.args.memory.now.spare (process_of (node_of c.args.node.now files) c.args.p.0).program_break (unless_refused c.args.change.now o))
    (sym (c.plan_end.ensures files) ∙ ap refusal c.in-Make.is) (c.requires.room files)
