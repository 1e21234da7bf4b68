use Rattle.std.proofs.Common.{◌≢◌, length, arith}
use Rattle.job_text.proofs.Drafts.{job_kept}
use Rattle.job_text.proofs.read.read_job.Goals as goal

pub returns-clause-job : goal.returns-clause-job
returns-clause-job c =
    let some : length c.in_ok-draft.draft.guests ≢ 0 = grind arith in
    job_kept c.in_ok-draft.draft _ _ _ _ _ c.in_ok-draft.ensures.kept c.in-Some.is some c.unwrap_or.ensures c.unwrap_or-2.ensures c.unwrap_or-3.ensures c.unwrap_or-4.ensures
