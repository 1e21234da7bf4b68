use Rattle.std.proofs.Common.{◌∙◌, ap, cond, sym}
use Rattle.file_tree.specs.CountLaws.{cut-absent}
use Rattle.linux_files.proofs.Slots.{none-there_is}
use Rattle.mck_word.specs.Maps.{at, cut}
use Rattle.linux_files.proofs.parts.Parts.settle_pipe.Goals as goal

pub returns-else-has-clause-map : goal.returns-else-has-clause-map
returns-else-has-clause-map c =
    let m = c.args.self.now.pipes.map in
    let none = none-there_is (at m c.args.pipe) (sym c.has.ensures ∙ c.if-has.false) in
    sym (ap (λ b. cond b m (cut m c.args.pipe)) (sym c.has_end.ensures ∙ c.if-has_end.false) ∙ cut-absent m c.args.pipe none)
