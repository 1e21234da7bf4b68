use Rattle.std.proofs.Common.{sym, ◌∙◌}
use Rattle.file_tree.specs.CountLaws.{cut-absent}
use Rattle.linux_files.proofs.RowKeeps.{lent-none}
use Rattle.mck_word.specs.Maps.{at}
use Rattle.linux_files.proofs.parts.Parts.take_descriptors.Goals as goal

pub returns-else-is_some-clause-map : goal.returns-else-is_some-clause-map
returns-else-is_some-clause-map c =
    let m = c.args.self.now.descriptors.map in
    sym (cut-absent m c.args.pid.0 (lent-none c.get.result (at m c.args.pid.0) c.get.ensures (sym c.is_some.ensures ∙ c.if-is_some.false)))
