-- The change of memory that a thread makes next: what it is, and the room for it.
use Rattle.isa_model.specs.Memory.{Memory}
use Rattle.isa_model.specs.declared.stops.Stop.TheVariants.{Ecall}
use Rattle.job_model.specs.Images.{highest}
use Rattle.kernel_model.specs.MemoryCalls.{Decision, Now, Reply, Round, decide, most_heap, refusal_at_end}
use Rattle.kernel_model.specs.Nodes.{Node, Process, process_of, thread_of}
use Rattle.kernel_model.specs.Pages.{pages_count}
use Rattle.kernel_model.specs.Steps.{of_thread}
use Rattle.kernel_model.specs.Traps.{arguments_of, call_named}
use Rattle.kernel_model.specs.declared.Change.{Change}
use Rattle.kernel_model.specs.declared.Does.TheVariants.{InVm, Stopped}
use Rattle.kernel_model.specs.declared.Does.{Does}
use Rattle.mck_word.specs.Maps.{at}
use Rattle.mck_word.specs.declared.Regs.{Regs}
use Rattle.one_kernel.specs.Parts.{one_of}
use Rattle.one_kernel.specs.declared.parts.One.{One}
use Rattle.one_kernel.specs.declared.parts.Own.{Own}
use Rattle.one_memory.specs.Changing.{added_by}
use Rattle.std.specs.Prelude.{List, None, Option, Some, ℕ, ℤ, ◌+◌, ◌≡◌, ◌≤◌}
use Rattle.system_calls.specs.declared.SystemCall.{SystemCall}
use Rattle.system_calls.specs.declared.SystemCall.TheVariants as calls

-- a heap begins where an image may end, or below, and no break is above its limit
pub record HeapFits (x : Process) : Type 0 where
  pub base : x.heap_base ≤ highest
  pub limit : x.program_break ≤ x.heap_base + most_heap

-- the change that is decided to be made at once
abbrev pub at_once : Decision → Option Change
at_once (Reply answer) = None
at_once (Now c) = Some c
at_once (Round c) = None

-- the change, where it isn't refused
abbrev pub unless_refused : Change → Option ℤ → Option Change
unless_refused c None = Some c
unless_refused c (Some answer) = None

-- the change that a memory call makes at once, by its arguments
abbrev pub changed_at_once : Option SystemCall → List ℕ → Process → Memory → ℕ → Option Change
changed_at_once (Some (calls.Memory call)) arguments p m free = at_once (decide p m free call arguments)
changed_at_once _ arguments p m free = None

-- what a thread that does so changes next: its call decides it at once, or its change has waited and isn't refused
abbrev pub due_by : Does → Regs → Process → Memory → ℕ → Option Change
due_by (Stopped Ecall) r p m free = changed_at_once (call_named r) (arguments_of r) p m free
due_by (InVm c) r p m free = unless_refused c (refusal_at_end p m free c)
due_by _ r p m free = None

abbrev pub due : Node → ℕ → Memory → ℕ → Option Change
due node t m free = let x = thread_of node t in due_by x.does x.regs (process_of node x.process) m free

-- there is room for the pages that it adds
abbrev pub HasRoomFor : ℕ → ℕ → Option Change → Type 0
HasRoomFor spare program_break None = Unit {0}
HasRoomFor spare program_break (Some c) = pages_count (added_by program_break c) ≤ spare

-- and so there is in the memory of the thread's process
abbrev pub HasChangeRoom : One → ℕ → Type 0
HasChangeRoom x t =
    let node = (one_of x).node in
    (w : Own) → at x.own.map (of_thread node t) ≡ Some w → HasRoomFor w.memory.spare (process_of node (of_thread node t)).program_break (due node t w.memory.map x.free)
