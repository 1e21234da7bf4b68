use Rattle.job_text.specs.declared.order.Source.{Source}
use Rattle.mcexec_run.proofs.Gathered.{sources_there}
use Rattle.mcexec_run.proofs.chain.fetch_all.Goals as goal
use Rattle.mcexec_run.specs.Chain.{IsSource}
use Rattle.std.proofs.Common.{List, subst, sym, ◌∙◌}
use Rattle.std.specs.List.{AllByRecursion}

pub take_all-requires-clause-placed : goal.take_all-requires-clause-placed
take_all-requires-clause-placed g c =
    subst (λ (ss : List Source). AllByRecursion (IsSource c.args.job.now) ss) (sym (c.as_slice.ensures ∙ c.in-Ok.ensures)) (sources_there c.args.job.now)
