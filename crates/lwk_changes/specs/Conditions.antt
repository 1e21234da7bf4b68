-- What a plan's round closes, and what has to hold before a change is made.
use Rattle.isa_model.specs.Memory.{Memory}
use Rattle.kernel_model.specs.MemoryCalls.{all_present, count_present, exceeds, nothing}
use Rattle.kernel_model.specs.Pages.{page_end, pages_count, range}
use Rattle.kernel_model.specs.declared.Change.{Change}
use Rattle.kernel_model.specs.declared.Change.TheVariants.{Brk, Map as ChangeMap, Protect, Unmap}
use Rattle.lwk_space.specs.Rows.{RoomFor}
use Rattle.mck_word.specs.declared.PageRange.{PageRange}
use Rattle.std.specs.Prelude.{List, cond, false, nat_lt, true, ℕ, ◌^◌, ◌≡◌, ◌≤◌}
use Rattle.vm_calls.specs.Deciding.{closes}
use Rattle.vm_calls.specs.declared.VmPlan.{VmPlan}
use Rattle.vm_calls.specs.declared.VmPlan.TheVariants.{Now as PlanNow, Reply as PlanReply, Round as PlanRound}

-- a round has the range that it closes
abbrev pub ClosesBy : ℕ → VmPlan → Type 0
ClosesBy base (PlanReply z) = Unit {0}
ClosesBy base (PlanNow c) = Unit {0}
ClosesBy base (PlanRound r c) = r ≡ closes base c

-- the pages that a change adds
abbrev pub added_by : ℕ → Change → PageRange
added_by program_break (ChangeMap r rights) = r
added_by program_break (Unmap r) = nothing
added_by program_break (Protect r rights) = nothing
added_by program_break (Brk a) = cond (nat_lt a program_break) nothing (range (page_end program_break) (page_end a))

-- the change's range rises
abbrev pub HasOrder : Change → Type 0
HasOrder (ChangeMap r rights) = r.lo ≤ r.hi
HasOrder (Unmap r) = r.lo ≤ r.hi
HasOrder (Protect r rights) = r.lo ≤ r.hi
HasOrder (Brk a) = Unit {0}

-- the change's range rises, and the pages that it adds end at 2^27 at most
pub record IsInBounds (program_break : ℕ) (c : Change) : Type 0 where
  pub order : HasOrder c
  pub below : (added_by program_break c).hi ≤ 2 ^ 27

-- there is room for the pages that it adds, and for two more ranges
pub record HasRoomFor (has_room : List PageRange → Type 0) (spare program_break : ℕ) (c : Change) : Type 0 where
  pub rows : RoomFor has_room (added_by program_break c)
  pub ranges : 2 ≤ spare

-- no page of the heap's new range is present, and the frames suffice for it
pub record RisesBy (m : Memory) (free : ℕ) (r : PageRange) : Type 0 where
  pub absent : count_present m r ≡ 0
  pub enough : pages_count r ≤ free

-- what the go-ahead of a call or of the end of its round says: the frames suffice, and a protected range is all
-- present
abbrev pub GoesAhead : Memory → ℕ → ℕ → Change → Type 0
GoesAhead m free program_break (ChangeMap r rights) = exceeds m free r ≡ false
GoesAhead m free program_break (Unmap r) = Unit {0}
GoesAhead m free program_break (Protect r rights) = all_present m r ≡ true
GoesAhead m free program_break (Brk a) = nat_lt a program_break ≡ false → RisesBy m free (range (page_end program_break) (page_end a))
