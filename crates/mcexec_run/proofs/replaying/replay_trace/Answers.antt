use Rattle.mcexec_run.proofs.TraceLines.{on_ok, refused_first, trace_is}
use Rattle.mcexec_run.proofs.replaying.replay_trace.Goals as goal

pub returns-clause-spelled : goal.returns-clause-spelled
returns-clause-spelled g c =
    on_ok c.replay_lines.result
    (λ r. trace_is c.args.trace.now c.in-Some.rest.now c.in-Some.version c.replay_lines.new.journal c.in-Some.ensures.some.0 c.in-Some.ensures.some.1 c.replay_lines.ensures.entries r)
    c.replay_lines.ensures.whole

pub returns-clause-refused : goal.returns-clause-refused
returns-clause-refused g c n e =
    refused_first (g.M.Offers.pair c.args.machine.now) c.args.trace.now c.in-Some.rest.now c.in-Some.version n c.replay_lines.new.journal c.in-Some.ensures.some.0 c.in-Some.ensures.some.1
    c.replay_lines.ensures.entries c.replay_lines.ensures.legal (c.replay_lines.ensures.refused n e)
