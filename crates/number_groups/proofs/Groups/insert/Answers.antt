use Rattle.mck_word.specs.Maps.{put}
use Rattle.number_groups.proofs.Groups.insert.Goals as goal
use Rattle.number_groups.specs.Groups.{is_in}
use Rattle.number_groups.specs.Laws.{in-with}
use Rattle.std.proofs.Common.{ap, ◌∙◌}

pub returns-clause-numbers : goal.returns-clause-numbers
returns-clause-numbers c = λ g n.
    ap (λ m. is_in m g n) (c.put.ensures.row ∙ (λ i. put (c.self.view_is i).map (c.key_of.ensures i) tt)) ∙ in-with c.args.self.now.map c.args.group c.args.number c.ranges.number.fits g n
