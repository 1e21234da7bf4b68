use Rattle.std.proofs.Common.{option_map, ap, ◌∙◌}
use Rattle.rv_am.specs.Words.{as_row}
use Rattle.rv_am.proofs.FoundRows.{slot-finds}
use Rattle.rv_am.proofs.reading.row_for.Goals as goal

pub returns : goal.returns
returns c = ap (option_map as_row) c.row_in_slot.ensures ∙ slot-finds c.args.w
