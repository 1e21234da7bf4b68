use Rattle.kernel_model.specs.Nodes.{is_living, ready_to_run}
use Rattle.kernel_model.specs.declared.Does.{Does}
use Rattle.lwk_threads.specs.declared.Thread.{Thread}
use Rattle.pair_core.specs.Shown.{pair_of}
use Rattle.pair_node.proofs.Shows.{some-run}
use Rattle.pair_node.proofs.asked.some_runs_on.Goals as goal
use Rattle.std.proofs.Common.{ap, sym, ◌∙◌}
use Rattle.std.specs.List.{list_any}
use Rattle.std.specs.Prelude.{ℕ, ◌&&◌}

pub returns : goal.returns
returns g c =
    let pair = pair_of g.T.PageTable.rows g.F.FileStore.files c.args.parts.now in
    c.some_of.ensures ∙ ap (list_any (λ (e : ℕ × Thread Does). ready_to_run e.1.state && is_living pair.node e.1.pid.0)) c.rows.ensures
    ∙ sym (some-run g.T.PageTable.rows g.F.FileStore.files c.args.parts.now)
