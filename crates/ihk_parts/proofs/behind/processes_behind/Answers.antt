use Rattle.ihk_parts.proofs.Rising.{found_behind, missed_behind}
use Rattle.ihk_parts.proofs.behind.processes_behind.Goals as goal

pub returns-in-Ok : goal.returns-in-Ok
returns-in-Ok g c =
    found_behind (g.P.Offers.pair c.args.machine.now).node.processes c.processes-pids.result.now c.args.pid.0 c.processes-pids.ensures.value c.in-Ok.place c.in-Ok.ensures.bound c.in-Ok.ensures.ok

pub returns-in-Err : goal.returns-in-Err
returns-in-Err g c =
    missed_behind (g.P.Offers.pair c.args.machine.now).node.processes c.processes-pids.result.now c.args.pid.0 c.processes-pids.ensures.value c.in-Err.field-0 c.in-Err.ensures.position
