-- What a process is answered that maps pages anywhere.
use Rattle.hybrid_model.specs.OneProcess.{memory_here}
use Rattle.hybrid_model.specs.Pairs.{Pair, here}
use Rattle.kernel_model.specs.MemoryCalls.{Decision, map_anywhere}
use Rattle.mck_flags.specs.declared.rights.Rights.{Rights}
use Rattle.std.specs.Prelude.{length, ℕ}

-- what is decided where process p asks for n pages with the rights, at no address of its own
abbrev pub mapped_anywhere : Pair → ℕ → ℕ → Rights → Decision
mapped_anywhere pair p n rights = map_anywhere (memory_here (here pair p)) (length pair.free) n rights
