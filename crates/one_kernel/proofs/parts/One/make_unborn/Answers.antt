use Rattle.one_kernel.proofs.parts.One.make_unborn.Goals as goal
use Rattle.one_kernel.specs.Parts.{one_of}
use Rattle.std.proofs.Common.{refl, subst, ◌≤◌}
use Rattle.std.proofs.lemmas.Result.{on_ok_weaker}

pub returns-clause-state : goal.returns-clause-state
unfolding one_of
returns-clause-state c = refl

pub returns-clause-pages : goal.returns-clause-pages
unfolding one_of
returns-clause-pages c = on_ok_weaker c.reserve.result (λ room w found. subst (λ n. n ≤ c.reserve.new.self.spare) (c.pages_of-pages.ensures w found) room) c.reserve.ensures.room
