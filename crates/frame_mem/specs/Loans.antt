-- What a memory ends as, once a `&mut` into it has ended.
use Rattle.std.specs.Prelude.{ℕ, List, slice_set}
use Rattle.std.specs.Borrow.{Fml, MutBor, Array, Lends, u8}
use Rattle.frame_mem.specs.Region.{Page}
use Rattle.frame_mem.specs.contracts.FrameMem.{the_row}

-- the frame's page is what was written last
abbrev pub lends_page : MutBor (List (List ℕ)) → ℕ → MutBor (List ℕ) → Fml
lends_page m i r = Lends the_row (Array u8 0) m r (λ page. slice_set m.now i page)

abbrev pub lends_array : MutBor (List (List ℕ)) → ℕ → MutBor (List ℕ) → Fml
lends_array m i r = Lends the_row Page m r (λ page. slice_set m.now i page)
