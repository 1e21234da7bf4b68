-- Changes of a process's memory, page by page: pages taken away, added, and with other rights.
-- Source: this project's own.
use Rattle.isa_model.specs.Memory.{Memory, Page}
use Rattle.kernel_model.specs.MemoryCalls.{Effect}
use Rattle.kernel_model.specs.Pages.{pages_count, zero_page}
use Rattle.mck_flags.specs.declared.rights.Rights.{Rights}
use Rattle.mck_word.specs.Maps.{at, put, cut, change}
use Rattle.mck_word.specs.declared.PageRange.{PageRange}
use Rattle.std.specs.Prelude.{None, Option, Some, suc, zero, ℕ, ◌+◌, ◌-◌}

-- the memory, and how many frames are free
pub record OneSpace : Type 0 where
  pub memory : Memory
  pub free : ℕ

abbrev pub present : Option Page → ℕ
present None = 0
present (Some x) = 1

unfoldable pub drop_page : ℕ → OneSpace → OneSpace
drop_page i sp = record { memory = cut sp.memory i; free = sp.free + present (at sp.memory i) }

unfoldable pub add_page : Rights → ℕ → OneSpace → OneSpace
add_page rights i sp = record { memory = put sp.memory i (record { rights = rights; bytes = zero_page }); free = sp.free - 1 }

unfoldable pub protect_page : Rights → ℕ → OneSpace → OneSpace
protect_page rights i sp = record sp { memory = change sp.memory i (λ (x : Page). record x { rights = rights }) }

-- n pages from the first one on, in rising order
abbrev pub each_page : {S : Type 0} → (ℕ → S → S) → ℕ → ℕ → S → S
each_page f zero low sp = sp
each_page f (suc n) low sp = each_page f n (suc low) (f low sp)

abbrev pub each_in : {S : Type 0} → (ℕ → S → S) → PageRange → S → S
each_in f r sp = each_page f (pages_count r) r.lo sp

-- an effect: first pages are taken away, then pages are added, then others get the rights
abbrev pub effect_by : {S : Type 0} → (ℕ → S → S) → (Rights → ℕ → S → S) → (Rights → ℕ → S → S) → Effect → S → S
effect_by drops adds protects e sp = each_in (protects e.rights) e.protected (each_in (adds e.rights) e.added (each_in drops e.dropped sp))

abbrev pub after_effect : Effect → OneSpace → OneSpace
after_effect e sp = effect_by drop_page add_page protect_page e sp
