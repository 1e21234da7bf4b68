use Rattle.kernel_model.specs.Nodes.{stop_in, thread_of}
use Rattle.kernel_model.specs.declared.Does.{Does}
use Rattle.kernel_tables.specs.Shown.{node_of}
use Rattle.one_calls.proofs.Trapping.{after-stop}
use Rattle.one_calls.proofs.traps.trap.Goals as goal
use Rattle.one_calls.specs.Here.{here}
use Rattle.one_calls.specs.LocalTraps.{stops_locally}
use Rattle.std.proofs.Common.{ap, sym, ◌∙◌}

pub trap_of_stop-requires-clause-local : goal.trap_of_stop-requires-clause-local
trap_of_stop-requires-clause-local c = λ files.
    ap (λ (d : Does). stops_locally (thread_of (node_of c.args.node.now files) c.args.t.0).regs (stop_in d)) (sym c.in-Stopped.is ∙ c.does.ensures files) ∙ c.requires.local files

pub returns : goal.returns
returns c = λ p r.
    c.trap_of_stop.ensures p r
    ∙ after-stop p c.args.t.0 (here c.args.node.now c.args.memory.now.map r) c.in-Stopped.stop (ap stop_in (sym (c.does.ensures r.files) ∙ c.in-Stopped.is))
