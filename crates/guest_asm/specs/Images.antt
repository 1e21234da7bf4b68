-- Small executables.
use Rattle.std.specs.Prelude.{ℕ, ◌+◌, List, [], ◌∷◌, ◌++◌, flat_map, length, replicate}
use Rattle.byteorder.specs.Endian.{little_bytes}
use Rattle.job_model.specs.declared.image.Image.{Image}

abbrev pub code_of : List ℕ → List ℕ
code_of words = flat_map (λ w. little_bytes 4 w) words

-- ELF-64 of class 2, data 1 and version 1: e_type 2, e_machine 243, e_version 1, e_entry 0x10078, e_phoff 64, e_ehsize 64, e_phentsize
-- 56 and e_phnum 1; all else is 0
abbrev pub header : List ℕ
header =
    (0x7f ∷ 0x45 ∷ 0x4c ∷ 0x46 ∷ 2 ∷ 1 ∷ 1 ∷ []) ++ replicate 9 0 ++ little_bytes 2 2 ++ little_bytes 2 243 ++ little_bytes 4 1
    ++ little_bytes 8 0x10078 ++ little_bytes 8 64 ++ little_bytes 8 0 ++ little_bytes 4 0 ++ little_bytes 2 64 ++ little_bytes 2 56 ++ little_bytes 2 1
    ++ replicate 6 0

-- p_type 1, p_flags 7, p_offset 0, p_vaddr 0x10000, p_filesz and p_memsz the file's size, p_align 4096; p_paddr is 0
abbrev pub program_header : ℕ → List ℕ
program_header size =
    (little_bytes 4 1 ++ little_bytes 4 7 ++ little_bytes 8 0 ++ little_bytes 8 0x10000 ++ little_bytes 8 0) ++ little_bytes 8 size ++ little_bytes 8 size
    ++ little_bytes 8 4096

abbrev pub with_headers : List ℕ → List ℕ
with_headers code = header ++ program_header (length code + 120) ++ code

-- the file of a small executable with these words
unfoldable pub small_image_of : List ℕ → List ℕ
small_image_of words = with_headers (code_of words)

-- the image of such a file: one segment with the whole file
abbrev pub image_with : List ℕ → Image
image_with file = record {
  entry = 0x10078;
  phdr = 0x10040;
  phnum = 1;
  segments = record { addr = 0x10000; mem = length file; bytes = file; rights = record { 0 = 7 } } ∷ [];
}
