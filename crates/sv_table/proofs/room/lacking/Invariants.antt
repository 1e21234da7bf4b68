use Rattle.slab.specs.Slab.{get}
use Rattle.sv_table.proofs.Looked.{Looked}
use Rattle.sv_table.proofs.room.lacking.Given as goal

-- what was counted, and what is left
abbrev pub invariant-loop-r : goal.invariant-loop-r
invariant-loop-r l = Looked (get l.nodes) l.ranges l.r-index l.lacking l.middle l.leaf
