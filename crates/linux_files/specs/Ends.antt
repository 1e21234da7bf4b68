-- The pipe that a target is an end of, and whether it is the read end.
use Rattle.file_model.specs.declared.descriptions.Target.TheVariants.{OfConsole, OfNode, ReadEnd, WriteEnd}
use Rattle.file_model.specs.declared.descriptions.Target.{Target}
use Rattle.std.specs.Prelude.{Bool, None, Option, Some, false, true, ℕ}

abbrev pub pipe_end : Target → Option (ℕ × Bool)
pipe_end (OfNode n) = None
pipe_end (ReadEnd p) = Some (p, true)
pipe_end (WriteEnd p) = Some (p, false)
pipe_end (OfConsole guest) = None
