use Rattle.std.proofs.Common.{◌∙◌, ap, sym}
use Rattle.mck_word.specs.Maps.{at}
use Rattle.one_files.proofs.Rows.{lent-none}
use Rattle.one_files.proofs.Slots.{cut-absent}
use Rattle.one_files.specs.Seen.{seen}
use Rattle.one_files.proofs.RowFiles.cut_descriptors.Goals as goal

pub returns-else-is_some : goal.returns-else-is_some
returns-else-is_some c =
    let m = c.args.self.now.descriptors.map in
    let none = lent-none c.get.result (at m c.args.pid.0) c.get.ensures (sym c.is_some.ensures ∙ c.if-is_some.false) in
    ap (λ rows. record (seen c.args.self.now) { descriptors = rows }) (cut-absent m c.args.pid.0 none)
