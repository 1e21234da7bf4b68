use Rattle.linux_files.specs.Steps.{AreUsed, Follows, is_suspect}
use Rattle.std.specs.Prelude.{take}
use Rattle.linux_files.proofs.parts.Parts.settle_some.Given as goal

abbrev pub invariant-loop-suspect : goal.invariant-loop-suspect
invariant-loop-suspect l = record { follows : Follows l.initial.self l.self; used : AreUsed (is_suspect (take l.suspect-index l.suspects)) l.self }
