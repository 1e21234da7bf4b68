use Rattle.file_model.specs.Files.{root_only}
use Rattle.kernel_tables.proofs.Living.{live_shown}
use Rattle.kernel_tables.proofs.Made.{lives_shown, no_row, thread_put}
use Rattle.kernel_tables.specs.Passes.{begun}
use Rattle.std.proofs.Common.{sym, ◌∙◌}
use Rattle.kernel_tables.proofs.tables.KernelTables.begin_thread.Goals as goal

pub begin-requires-clause-alone : goal.begin-requires-clause-alone
begin-requires-clause-alone c = sym (live_shown c.args.self.now root_only c.args.p.0) ∙ c.requires.alone root_only

pub begin-requires-clause-unused : goal.begin-requires-clause-unused
begin-requires-clause-unused c = no_row c.args.self.now c.args.t.0 (sym (lives_shown c.args.self.now root_only c.args.t.0) ∙ c.requires.unused root_only)

pub returns-clause-node : goal.returns-clause-node
returns-clause-node c = λ files. thread_put c.args.self.now files c.begin.new.threads (begun c.args.p c.args.t c.args.regs c.args.mask c.args.clear) c.begin.ensures.threads
