use Rattle.kernel_tables.specs.Passes.{IsPassed, unless_of}
use Rattle.std.proofs.Common.{◌-◌}
use Rattle.kernel_tables.proofs.passes.end_all.Given as goal

abbrev pub invariant-pass : goal.invariant-pass
invariant-pass l = IsPassed (unless_of l.p.0) l.initial.threads l.threads l.from

abbrev pub decreases-pass : goal.decreases-pass
decreases-pass l = l.threads.threads.next - l.from
