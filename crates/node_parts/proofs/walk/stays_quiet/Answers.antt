use Rattle.ihk_parts.proofs.Quiet.{after_run}
use Rattle.node_parts.proofs.walk.stays_quiet.Goals as goal
use Rattle.std.proofs.Common.{sym, ◌∙◌}

pub returns-then-quiet : goal.returns-then-quiet
returns-then-quiet g c = λ pair may_it later quiet ready.
    after_run c.runs_stay_quiet.ensures pair (g.M.Offers.pair c.args.machine.now) c.args.event.now c.in-Run.field-0
    c.in-Run.t c.in-Run.field-2 c.in-Run.is may_it later (sym c.is_ready.ensures ∙ ready)
    (quiet c.if-quiet.true)
