use Rattle.kernel_model.specs.Nodes.{Thread as KernelThread, set_a0}
use Rattle.kernel_model.specs.declared.Does.TheVariants.{Ready}
use Rattle.kernel_tables.proofs.Rows.{thread_changed}
use Rattle.std.proofs.Common.{refl}
use Rattle.kernel_tables.proofs.tables.KernelTables.answered_with.Goals as goal

pub returns-clause-node : goal.returns-clause-node
returns-clause-node c = λ files. thread_changed _ files _ c.args.t.0 _ (λ (x : KernelThread). record x { regs = set_a0 c.args.word x.regs; does = Ready }) c.answer.ensures (λ x. refl)
