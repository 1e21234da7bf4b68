use Rattle.ihk_parts.proofs.Places.{own_found, own_passed}
use Rattle.ihk_parts.proofs.behind.pass_from_worker.Goals as goal
use Rattle.ihk_parts.specs.Passing.{workers_from}
use Rattle.mck_word.specs.declared.Pid.{Pid}
use Rattle.std.proofs.Common.{map}

pub returns-in-Some : goal.returns-in-Some
returns-in-Some g c =
    let pair = g.P.Offers.pair c.args.machine.now in
    own_found pair (workers_from pair c.args.pid c.args.first) c.args.pid (map (λ (p : Pid). p.0) c.in_ok-pids.pids.now) c.in_ok-pids.ensures c.args.skip.now c.in-Some.choice c.pass_workers_from.new.skip c.pass_workers_from.new.skip c.in-Some.ensures

pub returns : goal.returns
returns g c =
    let pair = g.P.Offers.pair c.args.machine.now in
    own_passed pair (workers_from pair c.args.pid c.args.first) c.args.pid (map (λ (p : Pid). p.0) c.in_ok-pids.pids.now) c.in_ok-pids.ensures c.args.skip.now c.pass_workers_from.new.skip
    c.pass_processes_and_script.result c.pass_processes_and_script.new.skip c.in_default.ensures c.pass_processes_and_script.ensures
