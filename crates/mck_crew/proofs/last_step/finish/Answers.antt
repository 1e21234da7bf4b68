use Rattle.hybrid_model.specs.Journals.{ending}
use Rattle.hybrid_model.specs.Pairs.{Pair}
use Rattle.hybrid_model.specs.declared.events.Ending.TheVariants.{Unfinished}
use Rattle.ihk_parts.proofs.Offered.{chosen_none}
use Rattle.ihk_parts.proofs.Walked.{untaken}
use Rattle.ihk_parts.specs.Turns.{chosen}
use Rattle.mck_crew.proofs.last_step.finish.Goals as goal
use Rattle.std.proofs.Common.{subst, ◌≢◌}

pub returns-in_default : goal.returns-in_default
returns-in_default g c h =
    let pair = g.M.Offers.pair c.machine-machine.result.now in
    let over = c.ending-ending.ensures.over (chosen_none c.loop.walker pair (untaken (chosen c.loop.walker pair) c.in_default.ensures.event)) in
    subst (λ (p : Pair). ending p ≢ Unfinished) c.machine-machine.ensures over
