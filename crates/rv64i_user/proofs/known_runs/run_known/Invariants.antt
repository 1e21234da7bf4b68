use Rattle.std.proofs.Common.{◌≡◌}
use Rattle.isa_model.specs.declared.stops.Stop.TheVariants.{On}
use Rattle.rv64i_user.specs.Runs.{Leads}
use Rattle.rv64i_user.proofs.known_runs.run_known.Given as goal

abbrev pub invariant-loop-left : goal.invariant-loop-left
invariant-loop-left g l = record {
  on : l.stop ≡ On;
  leads : Leads l.most l.fn.r (g.P.PageMem.memory l.fn.mem.mem) l.left l.r (g.P.PageMem.memory l.mem.mem) l.stop;
}

abbrev pub decreases-loop-left : goal.decreases-loop-left
decreases-loop-left g l = l.left
