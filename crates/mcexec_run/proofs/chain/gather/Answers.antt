use Rattle.mcexec_run.proofs.GivenAnswers.{all_given, job_refused, lines_refused}
use Rattle.mcexec_run.proofs.Steps.{fails_gives, in_tail, rose_last}
use Rattle.mcexec_run.proofs.chain.gather.Goals as goal
use Rattle.mcexec_run.specs.Chain.{has_to_fetch, names_of, names_of_job}
use Rattle.mcexec_run.specs.Given.{gathered_given}
use Rattle.mck_report.specs.declared.status.Status.TheVariants.{HostFault}
use Rattle.std.proofs.Common.{Contains, Err, Ok, ap, arith, subst, sym, ◌∙◌, ◌∷◌, ◌≡◌}
use Rattle.std.proofs.lemmas.Result.{err_from_is_err_and}

pub returns-in_err-fetched-clause-fault : goal.returns-in_err-fetched-clause-fault
returns-in_err-fetched-clause-fault g c held told at_fault =
    let p = err_from_is_err_and c.from_residual-in_err-fetched.result c.from_residual-in_err-fetched.ensures.1 in
    let s : c.in_err-fetched.field-0.0 ≡ HostFault = cc (p.1, p.2, at_fault) in
    let w = c.in_err-fetched.ensures.fault (ap (λ e. Err e) s) in
    rose_last g.H.Host.faults c.args.host.now c.fetch_job.new.host c.fetch_all.new.host (has_to_fetch held c.args.name.now) w.0 (c.fetch_job.ensures.goes_on.rises w.0)
    (subst (λ r. Contains (c.args.name.now ∷ names_of r) w.0) (sym (c.in_ok-job.ensures.value held told)) (in_tail (names_of_job c.in_ok-job.job) c.args.name.now w.0 w.1)) w.2

pub returns-in_err-fetched-clause-rose : goal.returns-in_err-fetched-clause-rose
returns-in_err-fetched-clause-rose g c at_fault =
    let p = err_from_is_err_and c.from_residual-in_err-fetched.result c.from_residual-in_err-fetched.ensures.1 in
    let s : c.in_err-fetched.field-0.0 ≡ HostFault = cc (p.1, p.2, at_fault) in
    let w = c.in_err-fetched.ensures.fault (ap (λ e. Err e) s) in
    (w.0, λ h. w.2 (omega (arith, h, c.fetch_job.ensures.goes_on.rises w.0)))

pub returns-in_err-fetched-clause-given : goal.returns-in_err-fetched-clause-given
returns-in_err-fetched-clause-given g c =
    let p = err_from_is_err_and c.from_residual-in_err-fetched.result c.from_residual-in_err-fetched.ensures.1 in
    let w = lines_refused c.args.name.now c.in_ok-job.job c.in_err-fetched.field-0.0 c.in_ok-job.ensures.given c.in_err-fetched.ensures.given in
    (w.0, fails_gives (λ p. p) c.from_residual-in_err-fetched.result (gathered_given w.0) c.in_err-fetched.field-0.0 (cc (p.1, p.2)) w.1)

pub returns-in_err-job-clause-given : goal.returns-in_err-job-clause-given
returns-in_err-job-clause-given g c =
    let p = err_from_is_err_and c.from_residual.result c.from_residual.ensures.1 in
    let w = job_refused c.args.name.now c.in_err-job.field-0.0 c.in_err-job.ensures.given in
    (w.0, fails_gives (λ p. p) c.from_residual.result (gathered_given w.0) c.in_err-job.field-0.0 (cc (p.1, p.2)) w.1)

pub returns-in_err-job-clause-rose : goal.returns-in_err-job-clause-rose
returns-in_err-job-clause-rose g c at_fault =
    let p = err_from_is_err_and c.from_residual.result c.from_residual.ensures.1 in
    let s : c.in_err-job.field-0.0 ≡ HostFault = cc (p.1, p.2, at_fault) in
    (c.args.name.now, c.in_err-job.ensures.fault (ap (λ e. Err e) s))

pub returns-clause-given : goal.returns-clause-given
returns-clause-given g c =
    let w = all_given c.args.name.now c.in_ok-job.job c.in_ok-fetched.fetched c.in_ok-job.ensures.given c.in_ok-fetched.ensures.given in
    (w.0, w.1 ∙ ap (λ p. Ok p) (sym c.with_fetched.ensures.value))
