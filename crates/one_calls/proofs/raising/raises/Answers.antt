use Rattle.kernel_model.specs.Signals.{raised, view}
use Rattle.kernel_tables.specs.Shown.{node_of}
use Rattle.one_calls.proofs.raising.raises.Goals as goal
use Rattle.std.proofs.Common.{ap, ◌∙◌}

pub returns : goal.returns
returns c = λ files m.
    let n = c.args.node.now in
    let t = c.args.t.0 in
    ap (λ k. view k m) (c.raises_number.ensures files ∙ ap (λ s. raised t s (node_of n files)) c.signal_of.ensures.is)
