-- A memory beside the free frames, and what a change adds to it.
use Rattle.isa_model.specs.Memory.{Memory}
use Rattle.kernel_model.specs.MemoryCalls.{nothing}
use Rattle.kernel_model.specs.Pages.{page_end, range}
use Rattle.kernel_model.specs.Spaces.{OneSpace}
use Rattle.kernel_model.specs.declared.Change.TheVariants.{Brk, Map as ChangeMap, Protect, Unmap}
use Rattle.kernel_model.specs.declared.Change.{Change}
use Rattle.mck_word.specs.declared.PageRange.{PageRange}
use Rattle.std.specs.Prelude.{ℕ}

abbrev pub spaced : Memory → ℕ → OneSpace
spaced m free = record { memory = m; free = free }

-- the pages that a change adds
abbrev pub added_by : ℕ → Change → PageRange
added_by program_break (ChangeMap r rights) = r
added_by program_break (Unmap r) = nothing
added_by program_break (Protect r rights) = nothing
added_by program_break (Brk a) = range (page_end program_break) (page_end a)
