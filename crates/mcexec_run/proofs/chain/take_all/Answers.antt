use Rattle.job_text.specs.declared.order.Source.{Source}
use Rattle.mcexec_run.proofs.GivenAnswers.{SoFar, one_more_given, refused_given, whole_given}
use Rattle.mcexec_run.proofs.Steps.{fails_gives}
use Rattle.mcexec_run.proofs.chain.take_all.Goals as goal
use Rattle.mcexec_run.specs.Chain.{nothing_fetched}
use Rattle.mcexec_run.specs.Given.{take_given}
use Rattle.std.proofs.Common.{List, arith, rules, subst}
use Rattle.std.proofs.lemmas.Grind.{common_steps}
use Rattle.std.proofs.lemmas.Result.{err_from_is_err_and}

pub returns-in_err-take_source-clause-given : goal.returns-in_err-take_source-clause-given
returns-in_err-take_source-clause-given g c =
    let job = c.args.job.now in
    let all = c.args.all.now in
    let status = c.in_err-take_source.field-0.0 in
    let so = subst (λ (ss : List Source). SoFar job all ss c.loop-source.fetched) c.in-Some.ensures.cases.0 c.loop-source.invariant.given in
    let w = refused_given job all c.in-Some.more.now c.in-Some.source.now c.loop-source.fetched status so c.in_err-take_source.ensures.given in
    let p = err_from_is_err_and c.from_residual.result c.from_residual.ensures.1 in
    (w.0, fails_gives (λ f. f) c.from_residual.result (take_given w.0 job all nothing_fetched) status (cc (p.1, p.2)) w.1)

pub loop-source-preserved : goal.loop-source-preserved
loop-source-preserved g c =
    let so = subst (λ (ss : List Source). SoFar c.args.job.now c.args.all.now ss c.loop-source.fetched) c.in-Some.ensures.cases.0 c.loop-source.invariant.given in
    record {
      goes_on = search rules;
      value = search rules;
      given = one_more_given c.args.job.now c.args.all.now c.in-Some.more.now c.in-Some.source.now c.loop-source.fetched c.take_source.new.fetched so c.in_ok-take_source.ensures.given;
      placed = search rules;
      filled = search rules;
      count = grind (arith, common_steps);
    }

pub returns-clause-given : goal.returns-clause-given
returns-clause-given g c = whole_given c.args.job.now c.args.all.now c.loop-source.rest.now c.loop-source.fetched c.in_default.ensures.cases c.loop-source.invariant.given
