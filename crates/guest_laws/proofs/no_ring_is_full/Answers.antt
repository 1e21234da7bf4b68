use Rattle.guest_laws.proofs.no_ring_is_full.Goals as goal
use Rattle.guest_laws.proofs.RingRoom.{finds-room, rings-fit}
use Rattle.hybrid_laws.proofs.every.Lwk.{each-lwk}
use Rattle.hybrid_laws.proofs.journal.Journal.{each-event}

pub returns-clause-fit : goal.returns-clause-fit
returns-clause-fit c = λ pair coherent. rings-fit pair coherent

pub returns-clause-room : goal.returns-clause-room
returns-clause-room c = λ pair e coherent m. finds-room pair e (each-event each-lwk pair e coherent m)
