-- The act of each call: what it adds, and that it refuses vectors whose number isn't valid.
use Rattle.file_model.specs.Acts as Acts
use Rattle.file_model.specs.Acts.{count_is_valid, is_directory_target, is_node_target, read_act, write_act}
use Rattle.file_model.specs.Errno.{EBADF, EINVAL, EISDIR, ESPIPE}
use Rattle.file_model.specs.FileSteps.{file_step}
use Rattle.file_model.specs.Files.{Files, description_of, hold}
use Rattle.file_model.specs.Operations.{FileResult, done, fails}
use Rattle.file_model.specs.declared.descriptions.Target.{Target}
use Rattle.hybrid_laws.proofs.files.Operations.{cond-case, with-description}
use Rattle.kernel_model.specs.CallPhases.{act_of, argument, flags_at, int_at, own_offset, vector_count}
use Rattle.mck_word.specs.Words.{signed}
use Rattle.std.proofs.Common.{ap, refl}
use Rattle.std.specs.Prelude.{Bool, List, None, Option, Some, cond, false, negsuc, not, pos, true, ℕ, ℤ, ◌≡◌}
use Rattle.system_calls.specs.FileCalls.{has_vectors}
use Rattle.system_calls.specs.declared.file_calls.FileCall.TheVariants as Calls
use Rattle.system_calls.specs.declared.file_calls.FileCall.{FileCall}
use Rattle.work_laws.proofs.calls.ActsAdd.{ActAdds, close-adds, fstat-adds, getdents-adds, ioctl-adds, lseek-adds, mkdirat-adds, openat-adds, pipe2-adds, read-adds, unlinkat-adds, write-adds}

pub act-adds : (files : Files) (process : ℕ) (call : FileCall) (arguments given : List ℕ) → ActAdds files (file_step files process (act_of call arguments) given)
act-adds files process Calls.Openat arguments given = openat-adds files process (int_at arguments 0) (flags_at arguments 2) given
act-adds files process Calls.Mkdirat arguments given = mkdirat-adds files process (int_at arguments 0) given
act-adds files process Calls.Unlinkat arguments given = unlinkat-adds files process (int_at arguments 0) (flags_at arguments 2) given
act-adds files process Calls.Close arguments given = close-adds files process (int_at arguments 0)
act-adds files process Calls.Lseek arguments given = lseek-adds files process (int_at arguments 0) (signed 64 (argument arguments 1)) (int_at arguments 2)
act-adds files process Calls.Ioctl arguments given = ioctl-adds files process (int_at arguments 0)
act-adds files process Calls.Pipe2 arguments given = pipe2-adds files process (flags_at arguments 1)
act-adds files process Calls.Fstat arguments given = fstat-adds files process (int_at arguments 0)
act-adds files process Calls.Getdents64 arguments given = getdents-adds files process (int_at arguments 0) (argument arguments 2)
act-adds files process Calls.Read arguments given = read-adds files process (int_at arguments 0) (own_offset Calls.Read arguments) (vector_count Calls.Read arguments)
act-adds files process Calls.Readv arguments given = read-adds files process (int_at arguments 0) (own_offset Calls.Readv arguments) (vector_count Calls.Readv arguments)
act-adds files process Calls.Pread64 arguments given = read-adds files process (int_at arguments 0) (own_offset Calls.Pread64 arguments) (vector_count Calls.Pread64 arguments)
act-adds files process Calls.Write arguments given = write-adds files process (int_at arguments 0) (own_offset Calls.Write arguments) (vector_count Calls.Write arguments)
act-adds files process Calls.Writev arguments given = write-adds files process (int_at arguments 0) (own_offset Calls.Writev arguments) (vector_count Calls.Writev arguments)
act-adds files process Calls.Pwrite64 arguments given = write-adds files process (int_at arguments 0) (own_offset Calls.Pwrite64 arguments) (vector_count Calls.Pwrite64 arguments)

-- ---- vectors that are refused
abbrev pub is_refusal : ℤ → Bool
is_refusal (pos n) = false
is_refusal (negsuc n) = true

module _ (files : Files) (number : ℤ) (invalid : count_is_valid number ≡ false) where
  abbrev Refuses : FileResult → Type 0
  Refuses r = is_refusal r.answer ≡ true

  valid-refuses : (d : ℕ) → Refuses (cond (count_is_valid number) (done (pos d) (hold d files)) (fails EINVAL files))
  valid-refuses d = ap (λ b. is_refusal (cond b (done (pos d) (hold d files)) (fails EINVAL files)).answer) invalid

  found-refuses : (d : ℕ) (t : Target) (own : Option ℤ) → Refuses (Acts.found files d t own number)
  found-refuses d t None = valid-refuses d
  found-refuses d t (Some (pos n)) = go (is_node_target t)
    where
      go : (b : Bool) → Refuses (elim (cond (not b) (Some ESPIPE) None) [ Some errno ↦ fails errno files | None ↦ cond (count_is_valid number) (done (pos d) (hold d files)) (fails EINVAL files) ])
      go true = valid-refuses d
      go false = refl
  found-refuses d t (Some (negsuc n)) = go (is_node_target t)
    where
      go : (b : Bool) → Refuses (elim (cond (not b) (Some ESPIPE) (Some EINVAL)) [ Some errno ↦ fails errno files | None ↦ cond (count_is_valid number) (done (pos d) (hold d files)) (fails EINVAL files) ])
      go true = refl
      go false = refl

  pub read-refuses : (process : ℕ) (fd : ℤ) (own : Option ℤ) → Refuses (read_act files process fd own number)
  read-refuses process fd own = with-description (λ r. Refuses r) files process fd (λ d x. cond (not x.readable) (fails EBADF files) (cond (is_directory_target files x.target) (fails EISDIR files) (Acts.found files d x.target own number))) refl
      (λ d. cond-case (λ r. Refuses r) (not (description_of files d).readable) (fails EBADF files) _ refl (cond-case (λ r. Refuses r) (is_directory_target files (description_of files d).target) (fails EISDIR files) _ refl (found-refuses d (description_of files d).target own)))

  pub write-refuses : (process : ℕ) (fd : ℤ) (own : Option ℤ) → Refuses (write_act files process fd own number)
  write-refuses process fd own = with-description (λ r. Refuses r) files process fd (λ d x. cond (not x.writable) (fails EBADF files) (Acts.found files d x.target own number)) refl
      (λ d. cond-case (λ r. Refuses r) (not (description_of files d).writable) (fails EBADF files) _ refl (found-refuses d (description_of files d).target own))

-- the act of a call with vectors
pub vectors-refuse : (files : Files) (process : ℕ) (call : FileCall) (arguments given : List ℕ) → has_vectors call ≡ true → count_is_valid (vector_count call arguments) ≡ false
    → is_refusal (file_step files process (act_of call arguments) given).answer ≡ true
vectors-refuse files process Calls.Readv arguments given v invalid = read-refuses files (int_at arguments 2) invalid process (int_at arguments 0) None
vectors-refuse files process Calls.Writev arguments given v invalid = write-refuses files (int_at arguments 2) invalid process (int_at arguments 0) None
vectors-refuse files process _ arguments given v invalid = cc
