-- Stops put beside a result: a load and a store whose fault goes into a stop.
use Rattle.std.specs.Prelude.{ℕ, Bool, true, false, Option, Some, None, Result, Ok, Err}
use Rattle.isa_model.specs.declared.stops.Lack.{Lack}
use Rattle.isa_model.specs.declared.stops.Stop.{Stop}
use Rattle.isa_model.specs.declared.stops.Stop.TheVariants.{On, Ecall, Break, Illegal, Misaligned, Fault}
use Rattle.isa_model.specs.Memory.{Memory}

-- the instruction went on
abbrev pub is_on : Stop → Bool
is_on On = true
is_on Ecall = false
is_on Break = false
is_on Illegal = false
is_on Misaligned = false
is_on (Fault l) = false

-- a load's value, or its fault
abbrev pub load_case : Result ℕ Lack → Option ℕ × Stop
load_case (Ok v) = (Some v, On)
load_case (Err l) = (None, Fault l)

-- whether a store was made, or its fault
abbrev pub stop_of : Result (Unit {0}) Lack → Stop
stop_of (Ok _) = On
stop_of (Err l) = Fault l

abbrev pub store_outcome : Result (Unit {0}) Lack × Memory → Stop × Memory
store_outcome s = (stop_of s.0, s.1)
