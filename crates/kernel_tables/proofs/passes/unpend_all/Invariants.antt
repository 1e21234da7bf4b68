use Rattle.kernel_tables.specs.Passes.{IsPassed, without_pending}
use Rattle.std.proofs.Common.{◌-◌}
use Rattle.kernel_tables.proofs.passes.unpend_all.Given as goal

abbrev pub invariant-pass : goal.invariant-pass
invariant-pass l = IsPassed (without_pending l.p.0 l.signal) l.initial.threads l.threads l.from

abbrev pub decreases-pass : goal.decreases-pass
decreases-pass l = l.threads.threads.next - l.from
