use Rattle.kernel_tables.proofs.Sums.{within}
use Rattle.std.proofs.Common.{sym}
use Rattle.kernel_tables.proofs.process_rows.instructions_at.Goals as goal

pub returns-in-Some-clause-within : goal.returns-in-Some-clause-within
returns-in-Some-clause-within c = within c.args.rows.now.map c.args.p.0 c.in-Some.x.now (sym c.in-Some.ensures)
