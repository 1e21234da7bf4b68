-- What a table's rows say of a memory: which pages are present, and with which rights.
use Rattle.hybrid_model.specs.Sides.{Row}
use Rattle.isa_model.specs.Memory.{Memory, Page}
use Rattle.kernel_model.specs.MemoryCalls.{lessens}
use Rattle.mck_flags.specs.declared.rights.Rights.{Rights}
use Rattle.mck_word.specs.Maps.{Map, at}
use Rattle.std.specs.Prelude.{Bool, None, Option, Some, false, option_map, ℕ, ◌≡◌}

-- the memory has the rows' pages with the rows' rights
abbrev pub Shows : Map Row → Memory → Type 0
Shows rows m = (k : ℕ) → option_map (λ (x : Page). x.rights) (at m k) ≡ option_map (λ (w : Row). w.1) (at rows k)

-- whether a row would lose a right
abbrev pub lessened_in : Option Row → Rights → Bool
lessened_in None rights = false
lessened_in (Some w) rights = lessens w.1 rights
