-- A process's memory through its table: what is there, what is stored, and changes page by page.
-- Source: this project's own, after the idea of IHK/McKernel.
use Rattle.hybrid_model.specs.Sides.{Row}
use Rattle.isa_model.specs.Memory.{Memory, Page}
use Rattle.kernel_model.specs.MemoryCalls.{Effect}
use Rattle.kernel_model.specs.Pages.{zero_page}
use Rattle.kernel_model.specs.Spaces.{effect_by}
use Rattle.mck_flags.specs.declared.rights.Rights.{Rights}
use Rattle.mck_word.specs.Maps.{Map, at, put, cut, change, each, entries}
use Rattle.std.specs.Prelude.{List, None, Option, Some, [], if◌then◌else◌, nat_lt, unwrap_or, ℕ, ◌∷◌}

abbrev pub frame_bytes : Map (List ℕ) → ℕ → List ℕ
frame_bytes frames f = unwrap_or (at frames f) zero_page

abbrev pub shown_row : Map (List ℕ) → Row → Page
shown_row frames r = record { rights = r.1; bytes = frame_bytes frames r.0.0 }

-- the pages of a table with their rights and their frames' bytes
abbrev pub shown_memory : Map Row → Map (List ℕ) → Memory
shown_memory table frames = each (shown_row frames) table

abbrev pub bytes_in : Option Page → List ℕ
bytes_in None = []
bytes_in (Some x) = x.bytes

-- the frames once the rows' pages have the bytes that a memory gives them
abbrev pub written_rows : List (ℕ × Row) → Memory → Map (List ℕ) → Map (List ℕ)
written_rows [] m frames = frames
written_rows (e ∷ es) m frames = written_rows es m (put frames e.1.0.0 (bytes_in (at m e.0)))

unfoldable pub written_back : Map Row → Memory → Map (List ℕ) → Map (List ℕ)
written_back table m frames = written_rows (entries table) m frames

-- ---- changes

pub record Space : Type 0 where
  pub table : Map Row
  pub frames : Map (List ℕ)
  pub free : List ℕ

-- a frame among the free ones, which are kept in rising order
abbrev pub insert_frame : ℕ → List ℕ → List ℕ
insert_frame f [] = f ∷ []
insert_frame f (g ∷ gs) = if nat_lt f g then f ∷ g ∷ gs else g ∷ insert_frame f gs

abbrev pub give_back : Option Row → List ℕ → List ℕ
give_back None free = free
give_back (Some r) free = insert_frame r.0.0 free

abbrev pub first_number : List ℕ → ℕ
first_number [] = 0
first_number (f ∷ fs) = f

abbrev pub rest_numbers : List ℕ → List ℕ
rest_numbers [] = []
rest_numbers (f ∷ fs) = fs

unfoldable pub drop_page : ℕ → Space → Space
drop_page i sp = record sp { table = cut sp.table i; free = give_back (at sp.table i) sp.free }

-- a page at the lowest free frame
abbrev pub page_at_lowest : Rights → List ℕ → ℕ → Space → Space
page_at_lowest rights bytes i sp =
    let f = first_number sp.free in
    record { table = put sp.table i (record { 0 = f }, rights); frames = put sp.frames f bytes; free = rest_numbers sp.free }

unfoldable pub add_page : Rights → ℕ → Space → Space
add_page rights i sp = page_at_lowest rights zero_page i sp

unfoldable pub protect_page : Rights → ℕ → Space → Space
protect_page rights i sp = record sp { table = change sp.table i (λ (r : Row). (r.0, rights)) }

abbrev pub after_effect : Effect → Space → Space
after_effect e sp = effect_by drop_page add_page protect_page e sp

-- pages with the rights and bytes of others, in rising order
abbrev pub copied_pages : List (ℕ × Page) → Space → Space
copied_pages [] sp = sp
copied_pages (e ∷ es) sp = copied_pages es (page_at_lowest e.1.rights e.1.bytes e.0 sp)

-- all rows go, and their frames come free
abbrev pub freed_rows : List (ℕ × Row) → List ℕ → List ℕ
freed_rows [] free = free
freed_rows (e ∷ es) free = freed_rows es (insert_frame e.1.0.0 free)

abbrev pub freed : Map Row → List ℕ → List ℕ
freed table free = freed_rows (entries table) free
