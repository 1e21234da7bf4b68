use Rattle.isa_model.specs.Memory.{write_bytes}
use Rattle.lwk_space.specs.Lacks.{NoRowHas, memory}
use Rattle.std.proofs.Common.{◌≡◌, ◌-◌, ◌≤◌, [], length, slice_index_or, take, ℕ}
use Rattle.lwk_space.proofs.bytes.write_pieces.Given as goal

-- the first bytes are written
abbrev pub invariant-loop-done : goal.invariant-loop-done
invariant-loop-done g l = record {
  within : l.done ≤ length l.from;
  memory : memory (g.T.PageTable.rows l.table) l.mem ≡ write_bytes (memory (g.T.PageTable.rows l.table) l.fn.mem) l.address (take l.done l.from);
  others : (f : ℕ) → NoRowHas (g.T.PageTable.rows l.table) f → slice_index_or l.mem f [] ≡ slice_index_or l.fn.mem f [];
  len : length l.mem ≡ length l.fn.mem;
}

abbrev pub decreases-loop-done : goal.decreases-loop-done
decreases-loop-done g l = length l.from - l.done
