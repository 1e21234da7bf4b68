use Rattle.kernel_tables.proofs.Sums.{IsProcesses-put}
use Rattle.kernel_tables.specs.Totals.{IsProcesses}
use Rattle.mck_word.specs.Maps.{put}
use Rattle.std.proofs.Common.{arith, subst, sym, ◌+◌, ◌-◌}
use Rattle.kernel_tables.proofs.process_rows.Processes.put.Goals as goal

pub overflow_sub-self : goal.overflow_sub-self
overflow_sub-self c = omega (arith, c.instructions_at-before.ensures.within, c.self.invariant.kept)

pub invariant_of-self : goal.invariant_of-self
invariant_of-self c =
    let is = IsProcesses-put c.self.inside.instructions c.self.inside.rows.map c.self.invariant c.args.p.0 c.args.process (omega arith) in
    let counted = subst (λ k. IsProcesses (c.self.inside.instructions + c.args.process.instructions - k) (put c.self.inside.rows.map c.args.p.0 c.args.process)) (sym c.instructions_at-before.ensures.is) is in
    subst (λ m. IsProcesses (c.self.inside.instructions + c.args.process.instructions - c.instructions_at-before.result) m) (sym c.put.ensures.row) counted
