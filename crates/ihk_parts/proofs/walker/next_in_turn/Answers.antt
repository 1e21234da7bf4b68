use Rattle.ihk_parts.proofs.Passed.{first-get}
use Rattle.ihk_parts.proofs.walker.next_in_turn.Goals as goal
use Rattle.ihk_parts.specs.Passing.{as_chosen}
use Rattle.run_model.specs.Walks.{actors, next_in_turn}
use Rattle.run_model.specs.declared.actors.Actor.{Actor}
use Rattle.std.proofs.Common.{Option, subst, sym, ◌∙◌, ◌≡◌}
use Rattle.std.specs.Option.{option_map}

pub returns-in-None-clause-choice : goal.returns-in-None-clause-choice
returns-in-None-clause-choice g c =
    let pair = g.P.Offers.pair c.args.machine.now in
    subst (λ (last : Option Actor). option_map as_chosen c.first.result ≡ next_in_turn last pair) (sym c.in-None.is) (c.first.ensures.first ∙ sym (first-get pair (actors pair)))
