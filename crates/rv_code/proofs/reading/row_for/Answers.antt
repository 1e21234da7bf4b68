use Rattle.std.proofs.Common.{◌∙◌}
use Rattle.rv_code.proofs.SlotLaws.{slot-finds}
use Rattle.rv_code.proofs.reading.row_for.Goals as goal

pub returns : goal.returns
returns c = c.row_in_slot.ensures ∙ slot-finds c.args.w
