use Rattle.ihk_parts.proofs.Passed.{no_process, process_found, process_passed}
use Rattle.ihk_parts.proofs.passing.pass_processes.Goals as goal
use Rattle.std.proofs.Common.{None, Some}

pub loop-pid-preserved : goal.loop-pid-preserved
loop-pid-preserved g c r left rest =
    c.loop-pid.invariant r left (process_passed (g.P.Offers.pair c.args.machine.now) c.loop-pid.rest.now c.in-Some.more.now c.in-Some.pid.now c.loop-pid.skip c.pass_process.new.skip r left
    c.in-Some.ensures.cases.0 c.in_default-pass_process.ensures rest)

pub returns-in-Some-pass_process : goal.returns-in-Some-pass_process
returns-in-Some-pass_process g c =
    c.loop-pid.invariant (Some c.in-Some-pass_process.choice) c.pass_process.new.skip (process_found (g.P.Offers.pair c.args.machine.now) c.loop-pid.rest.now c.in-Some.more.now c.in-Some.pid.now
    c.loop-pid.skip c.in-Some-pass_process.choice c.pass_process.new.skip c.pass_process.new.skip c.in-Some.ensures.cases.0 c.in-Some-pass_process.ensures)

pub returns : goal.returns
returns g c = c.loop-pid.invariant None c.loop-pid.skip (no_process (g.P.Offers.pair c.args.machine.now) c.loop-pid.rest.now c.loop-pid.skip c.in_default.ensures.cases)
