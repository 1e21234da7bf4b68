use Rattle.std.proofs.Common.{◌∙◌}
use Rattle.vm_calls.proofs.Decisions.{decides}
use Rattle.vm_calls.proofs.decide.Goals as goal

pub returns-clause-decides : goal.returns-clause-decides
returns-clause-decides c = λ p m d. c.decide.ensures.decides ∙ decides c.args.f.now c.args.call c.args.args.now p m d
