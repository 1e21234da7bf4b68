-- The memory calls over a few facts on a process's memory.
use Rattle.file_model.specs.Errno.{EINVAL, ENOMEM}
use Rattle.kernel_model.specs.CallPhases.{argument}
use Rattle.kernel_model.specs.MemoryCalls.{Decision, Now, Reply, Round, is_aligned, is_fixed, is_inside, low_word, most_heap, range_for, refuse, rights_of_prot, round_or_now}
use Rattle.kernel_model.specs.Pages.{page_end, page_number, pages_count, range}
use Rattle.kernel_model.specs.declared.Change.{Change}
use Rattle.kernel_model.specs.declared.Change.TheVariants.{Map as ChangeMap, Unmap, Protect, Brk}
use Rattle.mck_flags.specs.declared.rights.Rights.{Rights}
use Rattle.mck_word.specs.Words.{has_bit, refused}
use Rattle.mck_word.specs.declared.PageRange.{PageRange}
use Rattle.std.specs.Prelude.{Bool, List, None, Option, Some, cond, false, nat_le, nat_lt, not, pos, ℕ, ℤ, ◌%◌, ◌&&◌, ◌+◌, ◌==◌, ◌||◌}
use Rattle.system_calls.specs.declared.MemoryCall.{MemoryCall}
use Rattle.system_calls.specs.declared.MemoryCall.TheVariants as calls
use Rattle.vm_calls.specs.declared.Facts.{Facts}

-- ---- the pages of a call

-- the pages between the break and another one
abbrev pub heap_range : ℕ → ℕ → PageRange
heap_range old new = cond (nat_lt new old) (range (page_end new) (page_end old)) (range (page_end old) (page_end new))

-- the pages of which a call speaks
abbrev pub call_range : ℕ → MemoryCall → List ℕ → PageRange
call_range program_break calls.Brk arguments = heap_range program_break (argument arguments 0)
call_range program_break _ arguments = range_for (argument arguments 0) (argument arguments 1)

-- whether a call looks for a gap: an mmap without FIXED of at least one page, for which there are frames
abbrev pub looks_for_gap : ℕ → MemoryCall → List ℕ → Bool
looks_for_gap free calls.Mmap arguments =
    not (argument arguments 1 == 0) && not (is_fixed (low_word (argument arguments 3))) && nat_le (page_end (argument arguments 1)) free
looks_for_gap free _ arguments = false

-- ---- deciding

abbrev pub mmap_fixed : Facts → PageRange → Rights → Decision
mmap_fixed f r rights =
    cond (nat_lt 0 f.present) (Round (ChangeMap r rights))
    (cond (nat_lt (f.free + f.present) (pages_count r)) (refuse ENOMEM) (Now (ChangeMap r rights)))

abbrev pub in_gap : Option ℕ → ℕ → Rights → Decision
in_gap None n rights = refuse ENOMEM
in_gap (Some low) n rights = Now (ChangeMap (range low (low + n)) rights)

abbrev pub mmap_anywhere : Facts → ℕ → Rights → Decision
mmap_anywhere f n rights = cond (nat_lt f.free n) (refuse ENOMEM) (in_gap f.gap n rights)

-- arguments of mmap that are refused
abbrev pub bad_mmap : ℕ → ℕ → ℕ → ℕ → Bool
bad_mmap address len prot flags =
    len == 0 || nat_lt 7 prot || not (flags % 4 == 2) || not (has_bit 5 flags) || (is_fixed flags && (not (is_aligned address) || not (is_inside address len)))

abbrev pub mmap_by : Facts → ℕ → ℕ → ℕ → ℕ → Decision
mmap_by f address len prot flags =
    cond (bad_mmap address len prot flags) (refuse EINVAL)
    (cond (is_fixed flags) (mmap_fixed f (range_for address len) (rights_of_prot prot))
    (mmap_anywhere f (page_end len) (rights_of_prot prot)))

abbrev pub munmap_by : Facts → ℕ → ℕ → Decision
munmap_by f address len =
    cond (not (is_aligned address) || len == 0 || not (is_inside address len)) (refuse EINVAL)
    (cond (nat_lt 0 f.present) (Round (Unmap (range_for address len))) (Reply (pos 0)))

abbrev pub protect_by : Facts → PageRange → Rights → Decision
protect_by f r rights =
    cond f.lessens (Round (Protect r rights))
    (cond (f.present == pages_count r) (Now (Protect r rights)) (refuse ENOMEM))

abbrev pub mprotect_by : Facts → ℕ → ℕ → ℕ → Decision
mprotect_by f address len prot =
    cond (not (is_aligned address) || nat_lt 7 prot) (refuse EINVAL)
    (cond (len == 0) (Reply (pos 0))
    (cond (not (is_inside address len)) (refuse ENOMEM)
    (protect_by f (range_for address len) (rights_of_prot prot))))

abbrev pub brk_down : Facts → ℕ → Decision
brk_down f a = round_or_now (nat_lt 0 f.present) (Brk a)

abbrev pub brk_up : Facts → ℕ → Decision
brk_up f a =
    cond (nat_lt 0 f.present || nat_lt f.free (pages_count (range (page_end f.brk) (page_end a)))) (Reply (pos f.brk)) (Now (Brk a))

-- a break outside the heap's bounds
abbrev pub bad_brk : ℕ → ℕ → Bool
bad_brk base a = nat_lt a base || nat_lt (base + most_heap) a

abbrev pub brk_by : Facts → ℕ → Decision
brk_by f a =
    cond (bad_brk f.base a) (Reply (pos f.brk))
    (cond (nat_lt a f.brk) (brk_down f a) (brk_up f a))

abbrev pub decided : Facts → MemoryCall → List ℕ → Decision
decided f calls.Mmap arguments =
    mmap_by f (argument arguments 0) (argument arguments 1) (low_word (argument arguments 2)) (low_word (argument arguments 3))
decided f calls.Munmap arguments = munmap_by f (argument arguments 0) (argument arguments 1)
decided f calls.Mprotect arguments = mprotect_by f (argument arguments 0) (argument arguments 1) (low_word (argument arguments 2))
decided f calls.Brk arguments = brk_by f (argument arguments 0)

-- ---- at the end of a round

abbrev pub finished : Facts → Change → Option ℤ
finished f (ChangeMap r rights) = cond (nat_lt (f.free + f.present) (pages_count r)) (Some (refused ENOMEM)) None
finished f (Unmap r) = None
finished f (Protect r rights) = cond (f.present == pages_count r) None (Some (refused ENOMEM))
finished f (Brk a) = cond (nat_lt a f.brk) None (Some (pos f.brk))

-- the pages of which a change speaks
abbrev pub change_range : ℕ → Change → PageRange
change_range program_break (ChangeMap r rights) = r
change_range program_break (Unmap r) = r
change_range program_break (Protect r rights) = r
change_range program_break (Brk a) = heap_range program_break a

-- what a round over a change closes
abbrev pub closes : ℕ → Change → PageRange
closes base (ChangeMap r rights) = r
closes base (Unmap r) = r
closes base (Protect r rights) = r
closes base (Brk a) = range (page_end a) (page_number (base + most_heap))
