use Rattle.hybrid_model.specs.Sides.{Row}
use Rattle.mck_word.specs.MapLaws.{at-none}
use Rattle.mck_word.specs.Maps.{at}
use Rattle.mck_word.specs.Pages.{in_ranges}
use Rattle.std.proofs.Common.{ap, sym, ◌∙◌}
use Rattle.std.specs.Prelude.{is_some}
use Rattle.vm_areas.specs.Ranges.{Mapped}
use Rattle.lwk_space.proofs.Space.new.Goals as goal

pub invariant_of-result : goal.invariant_of-result
invariant_of-result g c = λ p. ap (λ (m : Mapped). in_ranges m.ranges p) c.new.ensures ∙ sym (ap (λ m. is_some (at m p)) c.requires ∙ ap is_some (at-none {V = Row} p))
