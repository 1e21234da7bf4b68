use Rattle.lwk_space.proofs.Mapped.{no-ranges}
use Rattle.lwk_space.proofs.Space.copy_space.Goals as goal
use Rattle.lwk_space.specs.Spaced.{Spaced}
use Rattle.hybrid_model.specs.Sides.{Row}
use Rattle.mck_word.specs.MapLaws.{at-none}
use Rattle.mck_word.specs.Maps.{Map, at}
use Rattle.mck_word.specs.Pages.{in_ranges}
use Rattle.std.proofs.Common.{ap, sym, ◌∙◌}
use Rattle.std.specs.Prelude.{is_some}

pub copy_from-requires-clause-empty : goal.copy_from-requires-clause-empty
copy_from-requires-clause-empty g c =
    sym c.ranges-ranges.ensures.same
    ∙ no-ranges 0 c.ranges-ranges.result.now c.ranges-ranges.ensures.rise (λ p. ap (λ rs. in_ranges rs p) c.ranges-ranges.ensures.same ∙ c.self.invariant p
    ∙ ap (λ (s : Spaced g.row.T.Denot). is_some (at (g.T.PageTable.rows s.table) p)) c.self.view_is
    ∙ ap (λ (m : Map Row). is_some (at m p)) c.requires.empty ∙ ap is_some (at-none {V = Row} p))

pub invariant_of-self : goal.invariant_of-self
invariant_of-self g c = λ p. ap (λ rs. in_ranges rs p) c.copy_from.ensures.ranges ∙ c.from.invariant p ∙ sym (c.copy_pages.ensures.pages p)
