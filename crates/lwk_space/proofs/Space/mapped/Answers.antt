use Rattle.lwk_space.proofs.Mapped.{last-says, none-last}
use Rattle.lwk_space.proofs.Space.mapped.Goals as goal
use Rattle.mck_word.specs.Pages.{in_ranges}
use Rattle.mck_word.specs.declared.PageRange.{PageRange}
use Rattle.page_map.specs.Tables.{RiseFrom}
use Rattle.std.proofs.Common.{ap, arith, subst, sym, ◌∙◌}
use Rattle.std.specs.Option.{option_copied}
use Rattle.std.specs.Prelude.{List, is_some, ◌<◌, ◌-◌, ◌^◌}

pub overflow_sub-last : goal.overflow_sub-last
overflow_sub-last g c =
    let ranges = c.ranges-ranges.result.now in
    (last-says 0 ranges c.in-Some.last.now c.ranges-ranges.ensures.rise (sym c.last.ensures.value ∙ ap option_copied c.in-Some.is)).some

pub returns-in-Some-clause-are : goal.returns-in-Some-clause-are
returns-in-Some-clause-are g c =
    let ranges = c.ranges-ranges.result.now in
    let last = last-says 0 ranges c.in-Some.last.now c.ranges-ranges.ensures.rise (sym c.last.ensures.value ∙ ap option_copied c.in-Some.is) in
    let page = c.in-Some.last.now.hi - 1 in
    let below : page < 2 ^ 27 = c.get-row.ensures.below (ap is_some c.get-row.ensures.row ∙ sym (c.self.invariant page) ∙ ap (λ rs. in_ranges rs page) (sym c.ranges-ranges.ensures.same) ∙ last.covered) in
    let some = last.some in
    last.fit (omega (arith, below, some))

pub returns-in_default-clause-are : goal.returns-in_default-clause-are
returns-in_default-clause-are g c =
    let none = none-last c.ranges-ranges.result.now (sym c.last.ensures.value ∙ ap option_copied c.in_default.is) in
    let Fits : List PageRange → Type 0 = λ rs. RiseFrom 0 rs in
    subst Fits (sym none) tt
