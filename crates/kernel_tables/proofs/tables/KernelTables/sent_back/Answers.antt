use Rattle.kernel_model.specs.Nodes.{Thread as KernelThread, set_pc}
use Rattle.kernel_model.specs.declared.Does.TheVariants.{Ready}
use Rattle.kernel_tables.proofs.Rows.{thread_changed}
use Rattle.std.proofs.Common.{refl, true, ◌+◌, ◌-◌, ◌^◌}
use Rattle.kernel_tables.proofs.tables.KernelTables.sent_back.Goals as goal

pub returns-clause-node : goal.returns-clause-node
returns-clause-node c = λ files. thread_changed _ files _ c.args.t.0 _ (λ (x : KernelThread). record x { regs = set_pc (x.regs.pc + (2 ^ 64 - 4)) x.regs; back = true; does = Ready }) c.send_back.ensures (λ x. refl)
