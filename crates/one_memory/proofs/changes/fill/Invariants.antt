use Rattle.std.proofs.Common.{◌-◌, ◌≤◌, vec_len}
use Rattle.std.specs.Prelude.{max}
use Rattle.one_memory.proofs.changes.fill.Given as goal

abbrev pub invariant-loop-alloc : goal.invariant-loop-alloc
invariant-loop-alloc l = record {
  grows : vec_len l.fn.unused ≤ vec_len l.unused;
  most : vec_len l.unused ≤ max (vec_len l.fn.unused) l.n;
}

abbrev pub decreases-loop-alloc : goal.decreases-loop-alloc
decreases-loop-alloc l = l.n - vec_len l.unused
