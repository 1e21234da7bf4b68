-- The memory calls: what one decides, what its change does, and what a round over it closes.
-- Source: man-pages section 2 (mmap, munmap, mprotect, brk); rounds and bounds are this project's own.
use Rattle.file_model.specs.Errno.{EINVAL, ENOMEM}
use Rattle.isa_model.specs.Memory.{Page, allows, Memory}
use Rattle.kernel_model.specs.CallPhases.{argument}
use Rattle.kernel_model.specs.Nodes.{Process}
use Rattle.kernel_model.specs.Pages.{page_end, page_number, page_size, pages_count, range}
use Rattle.kernel_model.specs.declared.Change.{Change}
use Rattle.kernel_model.specs.declared.Change.TheVariants.{Map as ChangeMap, Unmap, Protect, Brk}
use Rattle.mck_flags.specs.declared.rights.Rights.{Rights}
use Rattle.mck_word.specs.Lists.{sorted_by}
use Rattle.mck_word.specs.Maps.{keys, some_row}
use Rattle.mck_word.specs.Pages.{in_range}
use Rattle.mck_word.specs.Words.{has_bit, refused}
use Rattle.mck_word.specs.declared.Access.{Access}
use Rattle.mck_word.specs.declared.Access.TheVariants.{Exec, Read, Write}
use Rattle.mck_word.specs.declared.PageRange.{PageRange}
use Rattle.std.specs.Prelude.{find, Bool, List, None, Option, Some, cond, false, filter, length, nat_le, nat_lt, not, pos, true, ℕ, ℤ, ◌%◌, ◌&&◌, ◌*◌, ◌+◌, ◌-◌, ◌==◌, ◌^◌, ◌||◌, ◌∷◌}
use Rattle.system_calls.specs.declared.MemoryCall.{MemoryCall}
use Rattle.system_calls.specs.declared.MemoryCall.TheVariants as calls

-- ---- bounds

abbrev pub lowest_address : ℕ
lowest_address = 0x10000

abbrev pub highest_address : ℕ
highest_address = 0x3ffffff000

abbrev pub highest_gap_end : ℕ
highest_gap_end = 0x3f00000000

abbrev pub most_heap : ℕ
most_heap = 0x4000000

abbrev pub pages_for : ℕ → ℕ
pages_for len = page_end len

abbrev pub is_inside : ℕ → ℕ → Bool
is_inside address len = nat_le lowest_address address && nat_le (address + pages_for len * page_size) highest_address

abbrev pub range_for : ℕ → ℕ → PageRange
range_for address len = range (page_number address) (page_number address + pages_for len)

abbrev pub is_aligned : ℕ → Bool
is_aligned address = address % page_size == 0

-- ---- rights

-- a page with the write right also has the read right
abbrev pub read_bit : ℕ → ℕ
read_bit prot = cond (has_bit 0 prot || has_bit 1 prot) 1 0

unfoldable pub rights_of_prot : ℕ → Rights
rights_of_prot prot = record { 0 = read_bit prot + cond (has_bit 1 prot) 2 0 + cond (has_bit 2 prot) 4 0 }

abbrev pub heap_rights : Rights
heap_rights = rights_of_prot 3

abbrev pub lacks_of : Rights → Rights → Access → Bool
lacks_of old new a = allows a old && not (allows a new)

-- whether the new rights lack one of the old ones
abbrev pub lessens : Rights → Rights → Bool
lessens old new = lacks_of old new Read || lacks_of old new Write || lacks_of old new Exec

-- ---- pages of a range

abbrev pub present_in : Memory → PageRange → List ℕ
present_in m r = filter (in_range r) (keys m)

abbrev pub count_present : Memory → PageRange → ℕ
count_present m r = length (present_in m r)

abbrev pub any_lessened : Memory → PageRange → Rights → Bool
any_lessened m r rights = some_row (λ page (x : Page). in_range r page && lessens x.rights rights) m

abbrev pub all_present : Memory → PageRange → Bool
all_present m r = count_present m r == pages_count r

-- ---- gaps

abbrev pub no_page_in : Memory → PageRange → Bool
no_page_in m r = count_present m r == 0

abbrev pub gap_below : ℕ → ℕ → PageRange
gap_below n high = range (high - n) high

-- the ends that a gap which can't be moved up may have, the highest first: the limit, and each present page
abbrev pub gap_ends : Memory → List ℕ
gap_ends m = sorted_by (λ a b. nat_lt b a) (page_number highest_gap_end ∷ keys m)

abbrev pub is_gap : Memory → ℕ → ℕ → Bool
is_gap m n high = nat_le high (page_number highest_gap_end) && nat_le (page_number lowest_address + n) high && no_page_in m (gap_below n high)

-- the highest gap of n pages, by its end
abbrev pub highest_gap : Memory → ℕ → Option ℕ
highest_gap m n = find (is_gap m n) (gap_ends m)

-- ---- what a change does

-- Pages are taken away, then pages are added, zero and with the rights; pages of the third range get the rights.
pub record Effect : Type 0 where
  pub dropped : PageRange
  pub added : PageRange
  pub protected : PageRange
  pub rights : Rights
  pub program_break : ℕ

abbrev pub nothing : PageRange
nothing = range 0 0

abbrev pub effect_of : Process → Change → Effect
effect_of p (ChangeMap r rights) = record { dropped = r; added = r; protected = nothing; rights = rights; program_break = p.program_break }
effect_of p (Unmap r) = record { dropped = r; added = nothing; protected = nothing; rights = heap_rights; program_break = p.program_break }
effect_of p (Protect r rights) = record { dropped = nothing; added = nothing; protected = r; rights = rights; program_break = p.program_break }
effect_of p (Brk a) = record {
  dropped = range (page_end a) (page_end p.program_break);
  added = range (page_end p.program_break) (page_end a);
  protected = nothing;
  rights = heap_rights;
  program_break = a;
}

-- what the call answers once its change is made
abbrev pub answer_of_change : Change → ℤ
answer_of_change (ChangeMap r rights) = pos (r.lo * page_size)
answer_of_change (Unmap r) = pos 0
answer_of_change (Protect r rights) = pos 0
answer_of_change (Brk a) = pos a

-- ---- deciding

-- answered at once; changed at once; or changed at the end of a round
pub data Decision : Type 0 where
  Reply : ℤ → Decision
  Now : Change → Decision
  Round : Change → Decision

abbrev pub refuse : ℕ → Decision
refuse errno = Reply (refused errno)

abbrev pub round_or_now : Bool → Change → Decision
round_or_now true c = Round c
round_or_now false c = Now c

-- ENOMEM exactly where the pages added, less those replaced, exceed the free frames
abbrev pub exceeds : Memory → ℕ → PageRange → Bool
exceeds m free r = nat_lt (free + count_present m r) (pages_count r)

abbrev pub map_fixed : Memory → ℕ → PageRange → Rights → Decision
map_fixed m free r rights =
    cond (nat_lt 0 (count_present m r)) (Round (ChangeMap r rights))
    (cond (exceeds m free r) (refuse ENOMEM) (Now (ChangeMap r rights)))

abbrev pub map_anywhere : Memory → ℕ → ℕ → Rights → Decision
map_anywhere m free n rights =
    cond (nat_lt free n) (refuse ENOMEM)
    (elim (highest_gap m n) [ None ↦ refuse ENOMEM | Some high ↦ Now (ChangeMap (gap_below n high) rights) ])

abbrev pub is_fixed : ℕ → Bool
is_fixed flags = has_bit 4 flags

abbrev pub mmap : Memory → ℕ → ℕ → ℕ → ℕ → ℕ → Decision
mmap m free address len prot flags =
    cond (len == 0 || nat_lt 7 prot || not (flags % 4 == 2) || not (has_bit 5 flags)
    || (is_fixed flags && (not (is_aligned address) || not (is_inside address len)))) (refuse EINVAL)
    (cond (is_fixed flags) (map_fixed m free (range_for address len) (rights_of_prot prot))
    (map_anywhere m free (pages_for len) (rights_of_prot prot)))

abbrev pub munmap : Memory → ℕ → ℕ → Decision
munmap m address len =
    cond (not (is_aligned address) || len == 0 || not (is_inside address len)) (refuse EINVAL)
    (cond (nat_lt 0 (count_present m (range_for address len))) (Round (Unmap (range_for address len))) (Reply (pos 0)))

abbrev pub protect_range : Memory → PageRange → Rights → Decision
protect_range m r rights =
    cond (any_lessened m r rights) (Round (Protect r rights))
    (cond (all_present m r) (Now (Protect r rights)) (refuse ENOMEM))

abbrev pub mprotect : Memory → ℕ → ℕ → ℕ → Decision
mprotect m address len prot =
    cond (not (is_aligned address) || nat_lt 7 prot) (refuse EINVAL)
    (cond (len == 0) (Reply (pos 0))
    (cond (not (is_inside address len)) (refuse ENOMEM)
    (protect_range m (range_for address len) (rights_of_prot prot))))

abbrev pub brk_up : Process → Memory → ℕ → ℕ → Decision
brk_up p m free a =
    let r = range (page_end p.program_break) (page_end a) in
    cond (nat_lt 0 (count_present m r) || nat_lt free (pages_count r)) (Reply (pos p.program_break)) (Now (Brk a))

abbrev pub brk_down : Process → Memory → ℕ → Decision
brk_down p m a =
    let r = range (page_end a) (page_end p.program_break) in
    round_or_now (nat_lt 0 (count_present m r)) (Brk a)

abbrev pub brk : Process → Memory → ℕ → ℕ → Decision
brk p m free a =
    cond (nat_lt a p.heap_base || nat_lt (p.heap_base + most_heap) a) (Reply (pos p.program_break))
    (cond (nat_lt a p.program_break) (brk_down p m a) (brk_up p m free a))

-- an int argument that has to be from 0 to 7: its low 32 bits
abbrev pub low_word : ℕ → ℕ
low_word n = n % 2 ^ 32

abbrev pub decide : Process → Memory → ℕ → MemoryCall → List ℕ → Decision
decide p m free calls.Mmap arguments =
    mmap m free (argument arguments 0) (argument arguments 1) (low_word (argument arguments 2)) (low_word (argument arguments 3))
decide p m free calls.Munmap arguments = munmap m (argument arguments 0) (argument arguments 1)
decide p m free calls.Mprotect arguments = mprotect m (argument arguments 0) (argument arguments 1) (low_word (argument arguments 2))
decide p m free calls.Brk arguments = brk p m free (argument arguments 0)

-- ---- finishing a round: a refusal, or none where the change is made
abbrev pub refusal_at_end : Process → Memory → ℕ → Change → Option ℤ
refusal_at_end p m free (ChangeMap r rights) = cond (exceeds m free r) (Some (refused ENOMEM)) None
refusal_at_end p m free (Unmap r) = None
refusal_at_end p m free (Protect r rights) = cond (all_present m r) None (Some (refused ENOMEM))
refusal_at_end p m free (Brk a) = cond (nat_lt a p.program_break) None (Some (pos p.program_break))

-- The range that a round over the change closes: the call's pages, and for a break downwards all from the new break's page end to the heap's limit.
abbrev pub closing_range : Process → Change → PageRange
closing_range p (ChangeMap r rights) = r
closing_range p (Unmap r) = r
closing_range p (Protect r rights) = r
closing_range p (Brk a) = range (page_end a) (page_number (p.heap_base + most_heap))
