use Rattle.mck_word.specs.Pages.{in_ranges}
use Rattle.std.proofs.Common.{ap, subst, ◌∙◌}
use Rattle.vm_areas.specs.Gaps.{IsHighestGap}
use Rattle.vm_areas.specs.Ranges.{Mapped}
use Rattle.vm_areas.proofs.Areas.gap.Goals as goal

pub returns : goal.returns
returns c = subst (λ xs. IsHighestGap (in_ranges xs) c.args.pages c.highest_gap.result) (c.deref.ensures.value ∙ ap (λ (m : Mapped). m.ranges) c.self.view_is) c.highest_gap.ensures
