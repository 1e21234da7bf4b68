use Rattle.std.proofs.Common.{◌∙◌, sym}
use Rattle.file_tree.specs.CountLaws.{lowered-none}
use Rattle.file_tree.proofs.counts.lower_row.Goals as goal

pub returns-in-None-clause-map : goal.returns-in-None-clause-map
returns-in-None-clause-map c = sym (lowered-none c.args.rows.now.map c.args.n (sym c.get.ensures ∙ sym c.in-None.ensures))
