use Rattle.guest_laws.proofs.images_tell_the_report.Goals as goal
use Rattle.guest_laws.proofs.SameReport.{ends-alike, same-report, same-shown}

pub returns-clause-shown : goal.returns-clause-shown
returns-clause-shown c = λ job imgs j k prepared a b same. same-shown job imgs j k prepared a b same

pub returns-clause-report : goal.returns-clause-report
returns-clause-report c = λ job imgs j k prepared a b same ends. same-report job imgs j k prepared a b same ends

pub returns-clause-over : goal.returns-clause-over
returns-clause-over c = λ job imgs j k prepared a b same overs.
    same-report job imgs j k prepared a b same (ends-alike job imgs j k (same-shown job imgs j k prepared a b same) overs.0 overs.1)
