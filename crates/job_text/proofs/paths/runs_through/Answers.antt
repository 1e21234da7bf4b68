use Rattle.std.proofs.Common.{◌∙◌, ap, drop}
use Rattle.job_text.specs.Paths.{goes_through}
use Rattle.job_text.proofs.Parts.{through_names}
use Rattle.job_text.proofs.paths.runs_through.Goals as goal

pub returns : goal.returns
returns c =
    c.goes_through.ensures ∙ (ap (λ t. goes_through t c.names_of-2.result.now) c.names_of.ensures ∙ (ap (goes_through (drop 1 c.args.path.now)) c.names_of-2.ensures
    ∙ through_names (drop 1 c.args.path.now) (drop 1 c.args.other.now)))
