use Rattle.std.proofs.Common.{arith}
use Rattle.sv_table.proofs.EntryWords.{page_in-entry}
use Rattle.sv_table.proofs.words.page_entry.Goals as goal

pub returns-clause-row : goal.returns-clause-row
returns-clause-row c = page_in-entry c.args.f c.args.r (omega arith)
