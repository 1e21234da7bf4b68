-- Bytes that stand at the front of a buffer.
use Rattle.std.specs.Prelude.{ℤ, pos, negsuc, ℕ, ◌+◌, ◌≡◌, List, ◌++◌, length, drop}
use Rattle.file_model.specs.Acts.{directory_record, all_records, records_that_fit, joined}
use Rattle.file_model.specs.Files.{Files}
use Rattle.file_model.specs.Operations.{FileResult}
use Rattle.file_calls.specs.declared.entries.Entry.{Entry}
use Rattle.file_calls.specs.declared.entries.Filled.{Filled}

-- the buffer with those bytes at its front
abbrev pub placed : List ℕ → List ℕ → List ℕ
placed out buffer = out ++ drop (length out) buffer

-- the record of an entry that stands at a place
abbrev pub record_at : ℕ → Entry → List ℕ
record_at place e = directory_record e.node (place + 1) e.directory e.name.now

-- the records of a directory from a place on that fit
unfoldable pub fitting : Files → ℕ → ℕ → ℕ → List (List ℕ)
fitting files here place most = records_that_fit most (drop place (all_records files here))

-- the buffer is filled with those records
pub record IsFilled (records : List (List ℕ)) (filled : Filled) (before after : List ℕ) : Type 0 where
  pub entries : filled.entries ≡ length records
  pub bytes : filled.bytes ≡ length (joined records)
  pub fills : after ≡ placed (joined records) before

-- how many bytes come with an answer: none with an error, and so many with a value, or as many as the value says
abbrev pub len_with : ℕ → ℤ → ℕ
len_with len (pos n) = len
len_with len (negsuc n) = 0

abbrev pub len_said : ℤ → ℕ
len_said (pos n) = n
len_said (negsuc n) = 0

-- an operation answers and leaves what its result says, and its bytes, of that length, stand at the front of the buffer
pub record Gives (r : FileResult) (value : ℤ) (len : ℕ) (before after : List ℕ) (left : Files) : Type 0 where
  pub answers : value ≡ r.answer
  pub gives : length r.out ≡ len
  pub fills : after ≡ placed r.out before
  pub leaves : left ≡ r.files
