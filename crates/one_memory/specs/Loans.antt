-- What a page, and the pages of a process, end as once a `&mut` into them has ended.
use Rattle.isa_model.specs.Memory.{Page}
use Rattle.key_rows.specs.Table.{Table}
use Rattle.kernel_model.specs.Steps.{with_page}
use Rattle.one_memory.specs.contracts.page_row.PageRow.{the_row as page_row}
use Rattle.one_memory.specs.contracts.PageRows.{the_row as rows_row}
use Rattle.std.specs.Borrow.{Array, Fml, Lends, MutBor, u8}
use Rattle.std.specs.Prelude.{List, ℕ}

-- the bytes are what was written last
abbrev pub lends_bytes : MutBor Page → MutBor (List ℕ) → Fml
lends_bytes p r = Lends page_row (Array u8 0) p r (λ bytes. record p.now { bytes = bytes })

abbrev pub lends_page : MutBor (Table Page) → ℕ → MutBor (List ℕ) → Fml
lends_page m i r = Lends rows_row (Array u8 0) m r (λ bytes. record m.now { map = with_page i bytes m.now.map })
