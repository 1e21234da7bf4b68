-- Whether a page that may be absent would lose a right.
use Rattle.isa_model.specs.Memory.{Page}
use Rattle.kernel_model.specs.MemoryCalls.{lessens}
use Rattle.mck_flags.specs.declared.rights.Rights.{Rights}
use Rattle.std.specs.Prelude.{Bool, None, Option, Some, false}

abbrev pub lessened_in : Option Page → Rights → Bool
lessened_in None rights = false
lessened_in (Some x) rights = lessens x.rights rights
