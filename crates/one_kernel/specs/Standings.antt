-- How a call stands after a step.
use Rattle.one_kernel.specs.declared.calls.Standing.{Standing}
use Rattle.one_kernel.specs.declared.calls.Standing.TheVariants.{Active, Over}
use Rattle.std.specs.Prelude.{None, Option, Some, ℤ}

abbrev pub stood : Option ℤ → Standing
stood None = Active
stood (Some answer) = Over answer
