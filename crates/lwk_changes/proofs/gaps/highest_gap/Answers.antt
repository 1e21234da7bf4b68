use Rattle.lwk_changes.proofs.HighestGap.{highest-is, low-small}
use Rattle.lwk_changes.proofs.Shown.{same-shown}
use Rattle.mck_word.specs.Pages.{in_ranges}
use Rattle.std.proofs.Common.{ap, sym, ◌∙◌}
use Rattle.vm_areas.specs.Ranges.{Mapped}
use Rattle.lwk_changes.proofs.gaps.highest_gap.Goals as goal

pub returns-clause-gap : goal.returns-clause-gap
returns-clause-gap g c = λ m h.
    highest-is m (in_ranges c.areas.result.now.ranges) (λ k. ap (λ (a : Mapped). in_ranges a.ranges k) c.areas.ensures ∙ (c.areas_agree.ensures k ∙ sym (same-shown (g.T.PageTable.rows c.args.own.now.table) m h k))) c.args.pages c.gap.result c.gap.ensures

pub returns-clause-low : goal.returns-clause-low
returns-clause-low g c = low-small (in_ranges c.areas.result.now.ranges) c.args.pages c.gap.result c.gap.ensures
