use Rattle.kernel_model.specs.declared.Does.{Does}
use Rattle.kernel_tables.proofs.Rows.{cut_none}
use Rattle.lwk_threads.specs.declared.Thread.{Thread}
use Rattle.mck_word.specs.Maps.{Map}
use Rattle.std.proofs.Common.{ap, sym}
use Rattle.kernel_tables.proofs.thread_rows.remove.Goals as goal

pub returns-in-None-clause-threads : goal.returns-in-None-clause-threads
returns-in-None-clause-threads c = ap (λ (m : Map (Thread Does)). record c.args.threads.now.threads { rows = m }) (sym (cut_none c.args.threads.now.threads.rows c.args.t.0 (sym c.in-None.ensures)))
