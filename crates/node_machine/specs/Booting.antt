-- Why a boot fails.
use Rattle.hybrid_model.specs.Boot.{Shortage}
use Rattle.node_machine.specs.declared.boot_error.BootError.TheVariants.{NoFrames, NoMemory}
use Rattle.node_machine.specs.declared.boot_error.BootError.{BootError}
use Rattle.std.specs.Prelude.{◌≡◌, Option, Some}

-- only for the first shortage of frames, and want of memory is free
abbrev pub BootFails : BootError → Option Shortage → Type 0
BootFails (NoFrames guest needed free) lack = lack ≡ Some (record { guest = guest; needed = needed; free = free })
BootFails NoMemory lack = Unit {0}
