use Rattle.std.proofs.Common.{◌≡◌, ◌+◌, ◌-◌}
use Rattle.rv64i_user.specs.Runs.{instrs, count_on}
use Rattle.isa_model.specs.declared.stops.Stop.TheVariants.{On}
use Rattle.rv64i_user.proofs.several.run_most.Given as goal

abbrev pub invariant-loop-k : goal.invariant-loop-k
invariant-loop-k g l = record {
  on : l.stop ≡ On;
  rest : instrs (l.most - l.k) l.r (g.P.PageMem.memory l.mem.mem) ≡ instrs l.most l.fn.r (g.P.PageMem.memory l.fn.mem.mem);
  counted : l.k + count_on (l.most - l.k) l.r (g.P.PageMem.memory l.mem.mem) ≡ count_on l.most l.fn.r (g.P.PageMem.memory l.fn.mem.mem);
}
