-- The segments of an image by their places, the pages of a memory from one on, and a memory in which the segments lie.
use Rattle.isa_model.specs.Memory.{Memory}
use Rattle.job_model.specs.declared.image.Segment.{Segment}
use Rattle.kernel_model.specs.Layout.{page_with, segment_page}
use Rattle.kernel_model.specs.Pages.{page_end, page_number}
use Rattle.mck_word.specs.Maps.{Map, at, keep}
use Rattle.std.specs.Prelude.{List, None, Some, [], length, nat_le, slice_index_or, sum_by, ℕ, ◌+◌, ◌<◌, ◌≡◌, ◌≤◌}

-- up to 64 arguments of 1,024 bytes together, each with a byte behind it
pub record AreArguments (arguments : List (List ℕ)) : Type 0 where
  pub most : length arguments ≤ 64
  pub small : sum_by (λ a. length a + 1) arguments ≤ 1024

abbrev pub no_segment : Segment
no_segment = record { addr = 0; mem = 0; bytes = []; rights = record { 0 = 0 } }

abbrev pub segment_at : List Segment → ℕ → Segment
segment_at segments k = slice_index_or segments k no_segment

-- the first page of a segment, and the page behind its last one
abbrev pub first_page : Segment → ℕ
first_page s = page_number s.addr

abbrev pub last_end : Segment → ℕ
last_end s = page_end (s.addr + s.mem)

-- the pages of the stack but its last one, the last one, and the trampoline's
abbrev pub stack_first : ℕ
stack_first = 0x3ffffef

abbrev pub stack_last : ℕ
stack_last = 0x3fffffe

abbrev pub trampoline_page : ℕ
trampoline_page = 0x3ffffff

abbrev pub from_page : {V : Type 0} → Map V → ℕ → Map V
from_page m p = keep m (λ k. nat_le p k)

-- below the stack a memory has the pages of the segments, and no others
pub record HasSegments (segments : List Segment) (m : Memory) : Type 0 where
  pub inside : (k p : ℕ) → k < length segments → first_page (segment_at segments k) ≤ p → p < last_end (segment_at segments k)
      → at m p ≡ Some (page_with (segment_at segments k).rights (segment_page (segment_at segments k) p))
  pub outside : (p : ℕ) → p < stack_first → ((k : ℕ) → k < length segments → first_page (segment_at segments k) ≤ p → last_end (segment_at segments k) ≤ p)
      → at m p ≡ None
