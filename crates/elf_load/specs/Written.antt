-- The file that an image is written to.
use Rattle.byteorder.specs.Endian.{little_bytes}
use Rattle.elf_load.specs.Profile.{header_size, program_header_size, is_loaded, segment_at}
use Rattle.elf_load.specs.declared.placed.Placed.{Placed}
use Rattle.job_model.specs.declared.image.Image.{Image}
use Rattle.job_model.specs.declared.image.Segment.{Segment}
use Rattle.mck_flags.specs.declared.rights.Rights.{Rights}
use Rattle.std.specs.Option.{option_map, option_to_list}
use Rattle.std.specs.Prelude.{ℕ, zero, suc, ◌+◌, ◌-◌, ◌*◌, ◌/◌, ◌%◌, ◌&&◌, ◌==◌, nat_le, nat_lt, List, [], ◌∷◌, ◌++◌, length, take, drop, replicate, find, flat_map, max, Bool, Option, Some, None, if◌then◌else◌}

-- ---- fields

-- 7f 45 4c 46, class 2, data 1, version 1
abbrev pub identity : List ℕ
identity = 0x7f ∷ 0x45 ∷ 0x4c ∷ 0x46 ∷ 2 ∷ 1 ∷ 1 ∷ []

-- e_type 2 and e_machine 243
abbrev pub executable : List ℕ
executable = 2 ∷ 0 ∷ 243 ∷ 0 ∷ []

-- p_flags (execute 1, write 2, read 4) of rights
abbrev pub flags_of : Rights → ℕ
flags_of rights = 4 * (rights.0 % 2) + 2 * (rights.0 / 2 % 2) + rights.0 / 4 % 2

-- ---- program headers in no segment: header, program headers and file parts one behind the other

abbrev pub table_end : ℕ → ℕ
table_end count = header_size + program_header_size * count

-- e_version is 1, e_phoff and e_ehsize are 64; all that isn't named is 0
unfoldable pub header_bytes : ℕ → ℕ → List ℕ
header_bytes entry count =
    identity ++ (replicate 9 0 ++ (executable ++ (little_bytes 4 1 ++ (little_bytes 8 entry ++ (little_bytes 8 64 ++ (replicate 12 0 ++ (little_bytes 2 64 ++ (little_bytes 2 56 ++ (little_bytes 2 count ++ replicate 6 0)))))))))

-- p_paddr and p_align are 0
unfoldable pub program_header : ℕ → Segment → List ℕ
program_header offset s =
    little_bytes 4 1 ++ (little_bytes 4 (flags_of s.rights) ++ (little_bytes 8 offset ++ (little_bytes 8 s.addr ++ (replicate 8 0 ++ (little_bytes 8 (length s.bytes) ++ (little_bytes 8 s.mem ++ replicate 8 0))))))

-- those of segments whose file parts stand from an offset on
abbrev pub program_headers : ℕ → List Segment → List ℕ
program_headers offset [] = []
program_headers offset (s ∷ ss) = program_header offset s ++ program_headers (offset + length s.bytes) ss

abbrev pub parts : List Segment → List ℕ
parts segments = flat_map (λ s. s.bytes) segments

-- the program headers that are none of a segment are zeros
unfoldable pub apart_file : Image → List ℕ
apart_file image =
    header_bytes image.entry image.phnum
    ++ (program_headers (table_end image.phnum) image.segments ++ (replicate (program_header_size * (image.phnum - length image.segments)) 0 ++ parts image.segments))

-- ---- program headers in a segment: they say where each file part stands

abbrev pub holds_table : Image → Segment → Bool
holds_table image s = nat_le s.addr image.phdr && nat_le (image.phdr + program_header_size * image.phnum) (s.addr + length s.bytes)

abbrev pub table_in : Image → Segment → List ℕ
table_in image s = take (program_header_size * image.phnum) (drop (image.phdr - s.addr) s.bytes)

-- the program headers, where a segment holds them
abbrev pub table_of : Image → Option (List ℕ)
table_of image = option_map (table_in image) (find (holds_table image) image.segments)

abbrev pub placed_at : List ℕ → ℕ → ℕ → Option Placed
placed_at table at k = if is_loaded table at then Some (segment_at table at k) else None

-- the segments that n program headers from number k on name
unfoldable pub placed_in : List ℕ → ℕ → ℕ → ℕ → List Placed
placed_in table at k zero = []
placed_in table at k (suc n) = option_to_list (placed_at table at k) ++ placed_in table (at + program_header_size) (k + 1) n

-- the bytes with a part written at a place
unfoldable pub put : List ℕ → ℕ → List ℕ → List ℕ
put file at part = take at file ++ (part ++ drop (at + length part) file)

-- those with each segment's file part at the place of its program header
abbrev pub laid : List ℕ → List Placed → List Segment → List ℕ
laid file [] segments = file
laid file (p ∷ placed) [] = file
laid file (p ∷ placed) (s ∷ segments) = laid (put file p.offset s.bytes) placed segments

abbrev pub part_end : ℕ → ℕ → ℕ
part_end offset len = if len == 0 then 0 else offset + len

-- where the last of these parts ends
abbrev pub last_end : List Placed → List Segment → ℕ
last_end [] segments = 0
last_end (p ∷ placed) [] = 0
last_end (p ∷ placed) (s ∷ segments) = max (part_end p.offset (length s.bytes)) (last_end placed segments)

abbrev pub is_around : ℕ → Placed → Bool
is_around address p = nat_le p.addr address && nat_lt address (p.addr + p.mem)

abbrev pub place_in : ℕ → Option Placed → ℕ
place_in address None = 0
place_in address (Some p) = p.offset + (address - p.addr)

-- where the byte at an address of the image stands in the file
abbrev pub place_of : ℕ → List Placed → ℕ
place_of address placed = place_in address (find (is_around address) placed)

-- the header's fields written over the bytes; e_flags stays
unfoldable pub with_header : ℕ → ℕ → ℕ → List ℕ → List ℕ
with_header entry place count file =
    put (put (put (put (put (put file 0 identity) 16 executable) 24 (little_bytes 8 entry)) 32 (little_bytes 8 place)) 54 (little_bytes 2 56)) 56 (little_bytes 2 count)

-- each file part at its place, zeros between them, and the header
unfoldable pub file_around : Image → List Placed → List ℕ
file_around image placed =
    with_header image.entry (place_of image.phdr placed) image.phnum (laid (replicate (max header_size (last_end placed image.segments)) 0) placed image.segments)
