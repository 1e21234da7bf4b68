use Rattle.std.proofs.Common.{◌-◌, ◌^◌}
use Rattle.linux_files.specs.Steps.{AreUsed, Follows}
use Rattle.std.specs.Prelude.{nat_lt}
use Rattle.linux_files.proofs.parts.Parts.settle_all.Given as goal

abbrev pub invariant-loop-d : goal.invariant-loop-d
invariant-loop-d l = record { follows : Follows l.initial.self l.self; used : AreUsed (λ d. nat_lt d l.from) l.self }

abbrev pub decreases-loop-d : goal.decreases-loop-d
decreases-loop-d l = 2 ^ 64 - l.from
