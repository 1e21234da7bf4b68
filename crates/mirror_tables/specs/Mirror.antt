-- Words on the mirror: a map from pages to frames and rights.
use Rattle.isa_model.specs.Memory.{allows}
use Rattle.mck_flags.specs.declared.rights.Rights.{Rights}
use Rattle.mck_word.specs.Maps.{Map, keep}
use Rattle.mck_word.specs.Pages.{in_range}
use Rattle.mck_word.specs.declared.Access.{Access}
use Rattle.mck_word.specs.declared.Frame.{Frame}
use Rattle.mck_word.specs.declared.PageRange.{PageRange}
use Rattle.std.specs.Prelude.{None, Option, Some, if◌then◌else◌, not}

-- the row, where it has the right
abbrev pub looked_up : Option (Frame × Rights) → Access → Option (Frame × Rights)
looked_up None a = None
looked_up (Some row) a = if allows a row.1 then Some row else None

-- the rows of the other pages
abbrev pub without_range : PageRange → Map (Frame × Rights) → Map (Frame × Rights)
without_range r rows = keep rows (λ page. not (in_range r page))
