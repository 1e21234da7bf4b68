use Rattle.atomic_laws.proofs.one_event_adds.Goals as goal
use Rattle.atomic_laws.proofs.AddingEvents.{event-adds, event-whole, journal-whole}

pub returns-clause-adds : goal.returns-clause-adds
returns-clause-adds c = λ pair e p a is coherent whole allowed only. event-adds pair e p a is coherent whole allowed only

pub returns-clause-whole : goal.returns-clause-whole
returns-clause-whole c = λ pair e coherent whole allowed. event-whole pair e coherent whole allowed

pub returns-clause-always : goal.returns-clause-always
returns-clause-always c = λ job imgs journal prepared legal. journal-whole job imgs journal prepared legal
