use Rattle.std.proofs.Common.{length}
use Rattle.ihk_parts.proofs.Passed.{Leads, processes_actors}
use Rattle.ihk_parts.proofs.passing.pass_processes.Given as goal

abbrev pub invariant-loop-pid : goal.invariant-loop-pid
invariant-loop-pid g l = let pair = g.P.Offers.pair l.machine in Leads pair (processes_actors pair l.pids) l.fn.skip (processes_actors pair l.rest) l.skip

abbrev pub decreases-loop-pid : goal.decreases-loop-pid
decreases-loop-pid g l = length l.rest
