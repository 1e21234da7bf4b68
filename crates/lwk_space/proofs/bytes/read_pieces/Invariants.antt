use Rattle.isa_model.specs.Memory.{read_bytes}
use Rattle.lwk_space.specs.Lacks.{memory}
use Rattle.std.proofs.Common.{◌≡◌, ◌-◌, ◌≤◌, length, take}
use Rattle.lwk_space.proofs.bytes.read_pieces.Given as goal

-- the first bytes are read
abbrev pub invariant-loop-done : goal.invariant-loop-done
invariant-loop-done g l = record {
  within : l.done ≤ length l.fn.into;
  read : take l.done l.into ≡ read_bytes (memory (g.T.PageTable.rows l.table) l.mem) l.address l.done;
}

abbrev pub decreases-loop-done : goal.decreases-loop-done
decreases-loop-done g l = length l.initial.into - l.done
