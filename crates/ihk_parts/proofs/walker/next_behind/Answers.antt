use Rattle.ihk_parts.proofs.Passed.{turn_behind, turn_round}
use Rattle.ihk_parts.proofs.walker.next_behind.Goals as goal
use Rattle.ihk_parts.specs.Passing.{offers_of}
use Rattle.run_model.specs.Walks.{actors, behind}
use Rattle.std.proofs.Common.{arith, length, sym, ◌∙◌, ◌≡◌}

pub returns-in-Some-clause-choice : goal.returns-in-Some-clause-choice
returns-in-Some-clause-choice g c = sym (turn_behind (g.P.Offers.pair c.args.machine.now) c.args.last c.in-Some.choice c.in-Some.ensures.goes)

pub returns-in-None-clause-choice : goal.returns-in-None-clause-choice
returns-in-None-clause-choice g c =
    let pair = g.P.Offers.pair c.args.machine.now in
    let none : length (offers_of pair (behind c.args.last (actors pair))) ≡ 0 = omega (arith, c.in-None.ensures.goes) in
    c.first.ensures.first ∙ sym (turn_round pair c.args.last none)
