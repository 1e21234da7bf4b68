-- The one table of the calls' numbers.
-- Source: Linux's generic call numbers.
use Rattle.std.specs.Prelude.{List, None, Option, Some, [], cond, ℕ, ◌==◌, ◌∷◌}
use Rattle.system_calls.specs.declared.LocalCall.TheVariants.{Exit, ExitGroup, Futex, Getpid, Getppid, Gettid, Kill, RtSigaction, RtSigpending, RtSigprocmask, RtSigreturn, SchedYield, SetRobustList, SetTidAddress, Tgkill, Wait4}
use Rattle.system_calls.specs.declared.MemoryCall.TheVariants.{Brk, Mmap, Mprotect, Munmap}
use Rattle.system_calls.specs.declared.SystemCall.{SystemCall}
use Rattle.system_calls.specs.declared.SystemCall.TheVariants.{Clone, File, Local, Memory}
use Rattle.system_calls.specs.declared.file_calls.FileCall.TheVariants.{Close, Fstat, Getdents64, Ioctl, Lseek, Mkdirat, Openat, Pipe2, Pread64, Pwrite64, Read, Readv, Unlinkat, Write, Writev}

abbrev pub numbers : List (ℕ × SystemCall)
numbers =
    (29, File Ioctl) ∷ (34, File Mkdirat) ∷ (35, File Unlinkat) ∷ (56, File Openat) ∷ (57, File Close) ∷
    (59, File Pipe2) ∷ (61, File Getdents64) ∷ (62, File Lseek) ∷ (63, File Read) ∷ (64, File Write) ∷
    (65, File Readv) ∷ (66, File Writev) ∷ (67, File Pread64) ∷ (68, File Pwrite64) ∷ (80, File Fstat) ∷
    (93, Local Exit) ∷ (94, Local ExitGroup) ∷ (96, Local SetTidAddress) ∷ (98, Local Futex) ∷
    (99, Local SetRobustList) ∷ (124, Local SchedYield) ∷ (129, Local Kill) ∷ (131, Local Tgkill) ∷
    (134, Local RtSigaction) ∷ (135, Local RtSigprocmask) ∷ (136, Local RtSigpending) ∷ (139, Local RtSigreturn) ∷
    (172, Local Getpid) ∷ (173, Local Getppid) ∷ (178, Local Gettid) ∷
    (214, Memory Brk) ∷ (215, Memory Munmap) ∷ (220, Clone) ∷ (222, Memory Mmap) ∷ (226, Memory Mprotect) ∷
    (260, Local Wait4) ∷ []

abbrev call_in : ℕ → List (ℕ × SystemCall) → Option SystemCall
call_in number [] = None
call_in number (row ∷ rows) = cond (number == row.0) (Some row.1) (call_in number rows)

-- the call of that number, where there is one
unfoldable pub system_call : ℕ → Option SystemCall
system_call number = call_in number numbers
