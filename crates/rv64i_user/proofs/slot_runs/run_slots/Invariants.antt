use Rattle.std.proofs.Common.{◌≡◌, ◌+◌, ◌-◌, ◌*◌, ◌%◌, ◌^◌}
use Rattle.isa_model.specs.declared.stops.Stop.TheVariants.{On}
use Rattle.rv64i_user.specs.Places.{bytes_of}
use Rattle.rv64i_user.specs.Runs.{Leads}
use Rattle.rv64i_user.specs.Slots.{HasZero, at_pc}
use Rattle.rv64i_user.proofs.slot_runs.run_slots.Given as goal

abbrev pub invariant-loop-k : goal.invariant-loop-k
invariant-loop-k g l = record {
  on : l.stop ≡ On;
  leads : Leads l.fn.left (at_pc l.fn.pc l.fn.x) (g.P.PageMem.memory l.fn.mem.mem) (l.fn.left - (l.k - l.from)) (at_pc l.pc l.x) (g.P.PageMem.memory l.mem.mem) l.stop;
  left : l.left ≡ l.fn.left;
  place : l.pc ≡ (l.fn.mem.page * 4096 + 4 * l.k) % 2 ^ 64;
  zero : HasZero l.x;
  page : l.mem.page ≡ l.fn.mem.page;
  code : bytes_of (g.P.PageMem.memory l.mem.mem) l.fn.mem.page ≡ bytes_of (g.P.PageMem.memory l.fn.mem.mem) l.fn.mem.page;
}
