-- What the facts say of a process's memory, and what the answers mean.
use Rattle.isa_model.specs.Memory.{Memory, Page}
use Rattle.kernel_model.specs.CallPhases.{argument}
use Rattle.kernel_model.specs.MemoryCalls.{Decision, Now, Reply, Round, highest_gap, lessens, low_word, present_in, rights_of_prot}
use Rattle.kernel_model.specs.Nodes.{Process}
use Rattle.kernel_model.specs.Pages.{page_end}
use Rattle.kernel_model.specs.declared.Change.{Change}
use Rattle.mck_word.specs.Maps.{some_row}
use Rattle.mck_word.specs.Pages.{in_range}
use Rattle.std.specs.Prelude.{List, None, Option, Some, length, option_map, true, ℕ, ℤ, ◌&&◌, ◌+◌, ◌≡◌}
use Rattle.system_calls.specs.declared.MemoryCall.{MemoryCall}
use Rattle.system_calls.specs.declared.MemoryCall.TheVariants.{Mprotect}
use Rattle.vm_calls.specs.Deciding.{call_range, change_range, closes, looks_for_gap}
use Rattle.vm_calls.specs.declared.Facts.{Facts}
use Rattle.vm_calls.specs.declared.AtEnd.{AtEnd}
use Rattle.vm_calls.specs.declared.AtEnd.TheVariants.{Make, Reply as Refuse}
use Rattle.vm_calls.specs.declared.VmPlan.{VmPlan}
use Rattle.vm_calls.specs.declared.VmPlan.TheVariants.{Now as PlanNow, Reply as PlanReply, Round as PlanRound}

-- the facts are those of the process and its memory, for a call's pages
pub record Describes (f : Facts) (call : MemoryCall) (arguments : List ℕ) (p : Process) (m : Memory) : Type 0 where
  pub program_break : f.brk ≡ p.program_break
  pub base : f.base ≡ p.heap_base
  pub present : f.present ≡ length (present_in m (call_range f.brk call arguments))
  pub lessened : call ≡ Mprotect → f.lessens ≡ some_row (λ page (x : Page). in_range (call_range f.brk call arguments) page && lessens x.rights (rights_of_prot (low_word (argument arguments 2)))) m
  pub gap : looks_for_gap f.free call arguments ≡ true → option_map (λ low. low + page_end (argument arguments 1)) f.gap ≡ highest_gap m (page_end (argument arguments 1))

-- the facts are those of the process and its memory, for a change's pages
pub record DescribesAtEnd (f : Facts) (c : Change) (p : Process) (m : Memory) : Type 0 where
  pub program_break : f.brk ≡ p.program_break
  pub present : f.present ≡ length (present_in m (change_range f.brk c))

abbrev pub decision : VmPlan → Decision
decision (PlanReply z) = Reply z
decision (PlanNow c) = Now c
decision (PlanRound r c) = Round c

-- a round has the range that it closes
abbrev pub Closes : Facts → VmPlan → Type 0
Closes f (PlanReply z) = Unit {0}
Closes f (PlanNow c) = Unit {0}
Closes f (PlanRound r c) = r ≡ closes f.base c

abbrev pub refusal : AtEnd → Option ℤ
refusal (Refuse z) = Some z
refusal Make = None
