use Rattle.kernel_model.specs.LocalCalls.{code_of}
use Rattle.kernel_model.specs.Nodes.{Process as KernelProcess, dies}
use Rattle.mck_word.specs.declared.End.TheVariants.{Exit}
use Rattle.kernel_tables.proofs.Rows.{process_changed}
use Rattle.std.proofs.Common.{refl}
use Rattle.kernel_tables.proofs.tables.KernelTables.dies_by_code.Goals as goal

pub returns-clause-node : goal.returns-clause-node
returns-clause-node c = λ files. process_changed _ files _ c.args.p.0 _ (λ (x : KernelProcess). dies (Exit (code_of x)) x) c.dies_by_code.ensures (λ x. refl)
