use Rattle.pair_core.specs.Shown.{pair_of}
use Rattle.pair_node.proofs.room.make_room.Goals as goal

pub make_trap_or_fork_room-requires-clause-workers : goal.make_trap_or_fork_room-requires-clause-workers
unfolding pair_of
make_trap_or_fork_room-requires-clause-workers g c = c.requires.sound.small.workers
