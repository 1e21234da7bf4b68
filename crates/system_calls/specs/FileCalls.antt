-- What the calls on files have.
-- Source: man-pages section 2.
use Rattle.std.specs.Prelude.{Bool, false, true}
use Rattle.system_calls.specs.declared.file_calls.FileCall.{FileCall}
use Rattle.system_calls.specs.declared.file_calls.FileCall.TheVariants.{Mkdirat, Openat, Pread64, Pwrite64, Read, Readv, Unlinkat, Write, Writev}

abbrev pub is_read : FileCall → Bool
is_read Read = true
is_read Readv = true
is_read Pread64 = true
is_read _ = false

abbrev pub is_write : FileCall → Bool
is_write Write = true
is_write Writev = true
is_write Pwrite64 = true
is_write _ = false

abbrev pub has_vectors : FileCall → Bool
has_vectors Readv = true
has_vectors Writev = true
has_vectors _ = false

abbrev pub has_offset : FileCall → Bool
has_offset Pread64 = true
has_offset Pwrite64 = true
has_offset _ = false

abbrev pub has_path : FileCall → Bool
has_path Openat = true
has_path Mkdirat = true
has_path Unlinkat = true
has_path _ = false
