use Rattle.isa_model.specs.Memory.{write_bytes}
use Rattle.std.proofs.Common.{◌≡◌, ◌-◌, ◌≤◌, length, take}
use Rattle.one_memory.proofs.bytes.write.Given as goal

-- the first bytes are written
abbrev pub invariant-loop-done : goal.invariant-loop-done
invariant-loop-done l = record {
  within : l.done ≤ length l.from;
  memory : l.rows.map ≡ write_bytes l.fn.rows.map l.address (take l.done l.from);
  spare : l.rows.spare ≡ l.fn.rows.spare;
}

abbrev pub decreases-loop-done : goal.decreases-loop-done
decreases-loop-done l = length l.from - l.done
