use Rattle.slab.specs.Slab.{get}
use Rattle.std.proofs.Common.{◌≡◌, ◌<◌}
use Rattle.sv_table.proofs.room.absent_between.Given as goal
use Rattle.sv_table.specs.Room.{absent_from}

abbrev pub invariant-loop-place : goal.invariant-loop-place
invariant-loop-place l = (l.lacking ≡ absent_from (get l.nodes) l.first l.place) × (l.end < l.first → l.place ≡ l.first)
