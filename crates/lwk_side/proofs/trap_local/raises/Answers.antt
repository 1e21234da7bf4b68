use Rattle.kernel_model.specs.Signals.{raised}
use Rattle.kernel_tables.specs.Shown.{node_of}
use Rattle.lwk_side.proofs.trap_local.raises.Goals as goal
use Rattle.lwk_views.proofs.Doing.{did_alone}
use Rattle.std.proofs.Common.{ap, ◌∙◌}

pub returns : goal.returns
returns c =
    let t = c.args.t.0 in
    did_alone c.args.node.now c.raises_number.new.node _ (λ files. c.raises_number.ensures.node files ∙ ap (λ s. raised t s (node_of c.args.node.now files)) c.signal_of.ensures.is)
