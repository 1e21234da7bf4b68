-- A list of pages as a map from their places.
use Rattle.std.specs.Prelude.{ℕ, Bool, ◌&&◌, ◌==◌, nat_lt, List, map, length, Option, Some}
use Rattle.mck_word.specs.Slots.{by_place}
use Rattle.isa_model.specs.Memory.{Memory, Page}
use Rattle.paged_memory.specs.declared.PageRow.{PageRow}

abbrev pub page_of : PageRow → Page
page_of row = record { rights = row.rights; bytes = row.bytes }

abbrev pub slot_of : PageRow → Option Page
slot_of row = Some (page_of row)

-- the pages by their numbers
abbrev pub pages_of : List PageRow → Memory
pages_of rows = by_place (map slot_of rows)

-- a page's place is its number
abbrev pub is_place : List PageRow → ℕ → ℕ → Bool
is_place rows k page = (k == page) && nat_lt page (length rows)
