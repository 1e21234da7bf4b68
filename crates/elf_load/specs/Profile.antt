-- The profile of images (ELF-64 for RISC-V, static, as this project takes it): the image that bytes have, or the first broken rule.
use Rattle.job_model.specs.Images.{lowest, highest}
use Rattle.std.specs.Prelude.{◌≡◌, ℕ, zero, suc, ◌+◌, ◌-◌, ◌*◌, ◌/◌, ◌%◌, ◌&&◌, ◌||◌, ◌==◌, not, nat_lt, nat_le, List, [], ◌∷◌, ◌++◌, length, take, drop, find, map, Bool, Option, Some, None, Result, Ok, Err, slice_index, if◌then◌else◌}
use Rattle.std.specs.List.{list_any}
use Rattle.std.specs.Option.{option_to_list}
use Rattle.mck_flags.specs.Rights.{includes}
use Rattle.mck_flags.specs.declared.rights.Rights.{Rights}
use Rattle.job_model.specs.declared.image.Segment.{Segment}
use Rattle.job_model.specs.declared.image.Image.{Image}
use Rattle.elf_load.specs.Fields.{field}
use Rattle.elf_load.specs.declared.headers.Header.{Header}
use Rattle.elf_load.specs.declared.placed.Placed.{Placed}
use Rattle.elf_load.specs.declared.fault.ElfFault.{ElfFault}
use Rattle.elf_load.specs.declared.fault.ElfFault.TheVariants.{Short, Magic, Class, Kind, Machine, Flags, PhSize, Linked, Size, Bounds, Overlap, Entry}
use Rattle.elf_load.specs.declared.fault.ElfError.{ElfError}
use Rattle.elf_load.specs.declared.fault.ElfError.TheVariants as errors

infixl 10 ◌>>=◌
abbrev pub ◌>>=◌ : {A B : Type 0} → Result A ElfFault → (A → Result B ElfFault) → Result B ElfFault
(Ok x) >>= f = f x
(Err e) >>= f = Err e

-- ---- the header

abbrev pub header_size : ℕ
header_size = 64

abbrev pub program_header_size : ℕ
program_header_size = 56

abbrev pub header_end : Header → ℕ
header_end h = h.place + program_header_size * h.count

-- bytes from a place on that reach past the end; none reach past nothing
abbrev pub passes : ℕ → ℕ → ℕ → Bool
passes size place len = nat_lt 0 len && nat_lt size (place + len)

abbrev pub has_class : List ℕ → Bool
has_class bytes = slice_index bytes 4 == 2 && (slice_index bytes 5 == 1 && slice_index bytes 6 == 1)

abbrev pub has_flags : List ℕ → Bool
has_flags bytes = field 4 48 bytes == 0 || field 4 48 bytes == 16

abbrev pub has_sizes : List ℕ → Bool
has_sizes bytes = field 2 54 bytes == program_header_size && nat_le (field 2 56 bytes) 64

-- the header's rules, in order
unfoldable pub header_of : List ℕ → Result Header ElfFault
header_of bytes =
    if nat_lt (length bytes) header_size then Err (Short (length bytes))
    else (if not (field 4 0 bytes == 0x464c457f) then Err Magic
    else (if not (has_class bytes) then Err Class
    else (if not (field 2 16 bytes == 2) then Err Kind
    else (if not (field 2 18 bytes == 243) then Err Machine
    else (if not (has_flags bytes) then Err Flags
    else (if not (has_sizes bytes) then Err PhSize
    else (if passes (length bytes) (field 8 32 bytes) (program_header_size * field 2 56 bytes) then Err (Short (length bytes))
    else Ok (record { entry = field 8 24 bytes; place = field 8 32 bytes; count = field 2 56 bytes }))))))))

-- ---- the program headers

-- the rights of p_flags (execute 1, write 2, read 4); what may be written may be read
abbrev pub rights_of : ℕ → Rights
rights_of flags =
    record { 0 = (if flags / 4 % 2 == 1 || flags / 2 % 2 == 1 then 1 else 0) + 2 * (flags / 2 % 2) + 4 * (flags % 2) }

abbrev pub segment_at : List ℕ → ℕ → ℕ → Placed
segment_at bytes at k =
    record {
      number = k;
      offset = field 8 (at + 8) bytes;
      len = field 8 (at + 32) bytes;
      addr = field 8 (at + 16) bytes;
      mem = field 8 (at + 40) bytes;
      rights = rights_of (field 4 (at + 4) bytes);
    }

-- whether the program header is one of a segment
abbrev pub is_loaded : List ℕ → ℕ → Bool
is_loaded bytes at = field 4 at bytes == 1 && nat_lt 0 (field 8 (at + 40) bytes)

abbrev pub is_linked : List ℕ → ℕ → Bool
is_linked bytes at = field 4 at bytes == 2 || field 4 at bytes == 3

abbrev pub has_bad_size : ℕ → Placed → Bool
has_bad_size size s = nat_lt s.mem s.len || passes size s.offset s.len

abbrev pub is_outside : Placed → Bool
is_outside s = nat_lt s.addr lowest || nat_lt highest (s.addr + s.mem)

-- the rules of the program header number k at a place, and its segment, if it has one
unfoldable pub segment_of : List ℕ → ℕ → ℕ → Result (Option Placed) ElfFault
segment_of bytes at k =
    if is_linked bytes at then Err Linked
    else (if not (is_loaded bytes at) then Ok None
    else (if has_bad_size (length bytes) (segment_at bytes at k) then Err (Size k)
    else (if is_outside (segment_at bytes at k) then Err (Bounds k)
    else Ok (Some (segment_at bytes at k)))))

-- those of n program headers from number k on
unfoldable pub segments_of : List ℕ → ℕ → ℕ → ℕ → Result (List Placed) ElfFault
segments_of bytes at k zero = Ok []
segments_of bytes at k (suc n) = do
  first ← segment_of bytes at k
  others ← segments_of bytes (at + program_header_size) (k + 1) n
  Ok (option_to_list first ++ others)

-- ---- all segments

abbrev pub first_page : Placed → ℕ
first_page s = s.addr / 4096

abbrev pub last_page : Placed → ℕ
last_page s = (s.addr + s.mem - 1) / 4096

abbrev pub shares_page : Placed → Placed → Bool
shares_page s t = nat_le (first_page s) (last_page t) && nat_le (first_page t) (last_page s)

abbrev pub or_overlap : Option Placed → Placed → Result (List Placed) ElfFault → Result (List Placed) ElfFault
or_overlap None s rest = rest
or_overlap (Some earlier) s rest = Err (Overlap earlier.number s.number)

-- the segments, unless one shares a page with one before it: the first that does, and for it the first such
unfoldable pub apart : List Placed → List Placed → Result (List Placed) ElfFault
apart before [] = Ok before
apart before (s ∷ ss) = or_overlap (find (λ t. shares_page t s) before) s (apart (before ++ s ∷ []) ss)

abbrev pub is_entry : ℕ → Placed → Bool
is_entry entry s = includes s.rights 4 && (nat_le s.addr entry && nat_lt entry (s.addr + s.mem))

abbrev pub has_entry : ℕ → List Placed → Bool
has_entry entry placed = entry % 4 == 0 && list_any (is_entry entry) placed

-- ---- the image

-- whether the program headers stand in the segment's file part
abbrev pub holds_headers : Header → Placed → Bool
holds_headers h s = nat_le s.offset h.place && nat_le (header_end h) (s.offset + s.len)

-- their address in the memory of such a segment, or 0
abbrev pub headers_at : Header → Option Placed → ℕ
headers_at h None = 0
headers_at h (Some s) = s.addr + (h.place - s.offset)

abbrev pub segment_from : List ℕ → Placed → Segment
segment_from bytes s = record { addr = s.addr; mem = s.mem; bytes = take s.len (drop s.offset bytes); rights = s.rights }

abbrev pub made : List ℕ → Header → List Placed → Image
made bytes h placed = record { entry = h.entry; phdr = headers_at h (find (holds_headers h) placed); phnum = h.count; segments = map (segment_from bytes) placed }

-- All rules in order: the image, or the first that is broken.
unfoldable pub image_of : List ℕ → Result Image ElfFault
image_of bytes = do
  header ← header_of bytes
  found ← segments_of bytes header.place 0 header.count
  placed ← apart [] found
  if has_entry header.entry placed then Ok (made bytes header placed) else Err Entry

-- ---- what a call answers

-- the same with these before
abbrev pub after_these : {A : Type 0} → List A → Result (List A) ElfFault → Result (List A) ElfFault
after_these front found = found >>= λ more. Ok (front ++ more)

-- What a call answers is what the bytes give, unless memory ran out.
abbrev pub Fails : {A : Type 0} → ElfError → Result A ElfFault → Type 0
Fails (errors.Fault fault) found = found ≡ Err fault
Fails errors.NoMemory found = Unit {0}

abbrev pub Gives : {X A : Type 0} → (X → A) → Result X ElfError → Result A ElfFault → Type 0
Gives view (Ok x) found = found ≡ Ok (view x)
Gives view (Err e) found = Fails e found

abbrev pub LoadGives : Result Image ElfError → Result Image ElfFault → Type 0
LoadGives result found = Gives (λ image. image) result found
