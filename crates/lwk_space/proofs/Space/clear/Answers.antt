use Rattle.hybrid_model.specs.Sides.{Row}
use Rattle.lwk_space.proofs.Space.clear.Goals as goal
use Rattle.lwk_space.specs.Rows.{FramesTaken}
use Rattle.mck_word.specs.MapLaws.{at-none}
use Rattle.mck_word.specs.Maps.{Map, at}
use Rattle.mck_word.specs.Pages.{in_ranges}
use Rattle.std.proofs.Common.{ap, subst, sym, ◌∙◌}
use Rattle.std.specs.Prelude.{is_some}
use Rattle.vm_areas.specs.Ranges.{Mapped}

pub clear_pages-requires-clause-taken : goal.clear_pages-requires-clause-taken
clear_pages-requires-clause-taken g c = subst (λ s. FramesTaken (g.T.PageTable.rows s.table) c.args.pool.now) (sym c.self.view_is) c.requires.taken

pub invariant_of-self : goal.invariant_of-self
invariant_of-self g c = λ p. ap (λ (m : Mapped). in_ranges m.ranges p) c.new.ensures ∙ sym (ap (λ (m : Map Row). is_some (at m p)) c.clear_pages.ensures.rows ∙ ap is_some (at-none {V = Row} p))
