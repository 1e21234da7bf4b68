use Rattle.kernel_model.specs.Nodes.{Process as KernelProcess}
use Rattle.kernel_model.specs.Traps.{life_ended}
use Rattle.kernel_tables.proofs.Rows.{process_changed}
use Rattle.std.proofs.Common.{refl}
use Rattle.kernel_tables.proofs.tables.KernelTables.ended.Goals as goal

pub returns-clause-node : goal.returns-clause-node
returns-clause-node c = λ files. process_changed _ files _ c.args.p.0 _ (λ (x : KernelProcess). record x { life = life_ended x.life }) c.ends.ensures (λ x. refl)
