use Rattle.kernel_model.specs.Nodes.{Thread as KernelThread, set_pc}
use Rattle.kernel_tables.proofs.Rows.{thread_changed}
use Rattle.std.proofs.Common.{refl, ◌+◌}
use Rattle.kernel_tables.proofs.tables.KernelTables.past_ecall.Goals as goal

pub returns-clause-node : goal.returns-clause-node
returns-clause-node c = λ files. thread_changed _ files _ c.args.t.0 _ (λ (x : KernelThread). record x { regs = set_pc (x.regs.pc + 4) x.regs }) c.pass_ecall.ensures (λ x. refl)
