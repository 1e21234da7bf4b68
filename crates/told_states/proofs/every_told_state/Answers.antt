use Rattle.told_states.proofs.every_told_state.Goals as goal
use Rattle.told_states.proofs.ToldState.{coherent-told, lasting-told, small-told}

pub returns-clause-coherent : goal.returns-clause-coherent
returns-clause-coherent c = coherent-told

pub returns-clause-lasting : goal.returns-clause-lasting
returns-clause-lasting c = lasting-told

pub returns-clause-small : goal.returns-clause-small
returns-clause-small c = small-told
