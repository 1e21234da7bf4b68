use Rattle.isa_model.specs.Memory.{read_bytes}
use Rattle.std.proofs.Common.{◌≡◌, ◌-◌, ◌≤◌, length, take}
use Rattle.one_memory.proofs.bytes.read.Given as goal

-- the first bytes are read
abbrev pub invariant-loop-done : goal.invariant-loop-done
invariant-loop-done l = record {
  within : l.done ≤ length l.fn.into;
  read : take l.done l.into ≡ read_bytes l.rows.map l.address l.done;
}

abbrev pub decreases-loop-done : goal.decreases-loop-done
decreases-loop-done l = length l.initial.into - l.done
