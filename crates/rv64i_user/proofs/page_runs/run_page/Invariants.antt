use Rattle.std.proofs.Common.{◌≡◌, ◌<◌, ◌%◌, ◌⊎◌}
use Rattle.isa_model.specs.declared.stops.Stop.TheVariants.{On}
use Rattle.rv64i_user.specs.Lines.{HasMarked}
use Rattle.rv64i_user.specs.Places.{bytes_of}
use Rattle.rv64i_user.specs.Runs.{Leads}
use Rattle.rv64i_user.specs.Slots.{HasZero, at_pc}
use Rattle.rv64i_user.proofs.page_runs.run_page.Given as goal

abbrev pub invariant-loop-left : goal.invariant-loop-left
invariant-loop-left g l = record {
  on : l.stop ≡ On;
  leads : Leads l.most l.fn.r (g.P.PageMem.memory l.fn.mem.mem) l.left (at_pc l.pc l.r.x) (g.P.PageMem.memory l.mem.mem) l.stop;
  started : (l.left < l.most) ⊎ ((l.left ≡ l.most) × (l.pc ≡ l.fn.r.pc));
  aligned : l.pc % 4 ≡ 0;
  zero : HasZero l.r.x;
  page : l.mem.page ≡ l.page;
  marked : HasMarked l.marked l.words.slots.items (bytes_of (g.P.PageMem.memory l.mem.mem) l.page);
}

abbrev pub decreases-loop-left : goal.decreases-loop-left
decreases-loop-left g l = l.left
