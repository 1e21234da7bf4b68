-- How many instructions a run executes.
use Rattle.isa_model.specs.Memory.{Memory}
use Rattle.isa_model.specs.declared.stops.Stop.{Stop}
use Rattle.isa_model.specs.declared.stops.Stop.TheVariants.{On}
use Rattle.mck_word.specs.declared.Regs.{Regs}
use Rattle.rv64i_user.specs.Runs.{count_on, instrs}
use Rattle.std.specs.Prelude.{ℕ, ◌+◌}

-- the instruction that stopped is one
abbrev pub stopped_one : Stop → ℕ
stopped_one On = 0
stopped_one _ = 1

-- how many of at most n instructions are executed, up to and with the first that stops
abbrev pub executed_count : ℕ → Regs → Memory → ℕ
executed_count n r m = count_on n r m + stopped_one (instrs n r m).stop
