use Rattle.pair_core.specs.Shown.{pair_of}
use Rattle.pair_node.proofs.summary.end_at.Goals as goal
use Rattle.run_summary.specs.Summaries.{end_of}
use Rattle.std.proofs.Common.{ap, ◌∙◌}

pub returns : goal.returns
unfolding pair_of
returns g c = λ i. record { pid = c.args.pid; end = (c.end_of.ensures ∙ ap end_of (c.life.ensures (g.F.FileStore.files c.args.parts.now.files))) i }
