-- Changes of memory that calls ask for: what one comes to, and what it needs.
use Rattle.isa_model.specs.Memory.{Memory}
use Rattle.isa_model.specs.declared.stops.Stop.TheVariants.{Ecall}
use Rattle.isa_model.specs.declared.stops.Stop.{Stop}
use Rattle.job_model.specs.Images.{highest}
use Rattle.kernel_model.specs.MemoryCalls.{Decision, Now, Reply, Round, decide, most_heap, refusal_at_end}
use Rattle.kernel_model.specs.Nodes.{Process, process_of, thread_of}
use Rattle.kernel_model.specs.Signals.{View}
use Rattle.kernel_model.specs.Traps.{Begins, Changes, Done, Forks, Trapped, decided, past_ecall}
use Rattle.kernel_model.specs.declared.Change.{Change}
use Rattle.lwk_changes.specs.Conditions.{GoesAhead, HasRoomFor}
use Rattle.mck_word.specs.declared.PageRange.{PageRange}
use Rattle.mck_word.specs.declared.Tid.{Tid}
use Rattle.std.specs.Prelude.{Bool, List, None, Option, Some, false, option_map, true, unwrap_or, ℕ, ℤ, ◌+◌, ◌≤◌}
use Rattle.system_calls.specs.declared.MemoryCall.{MemoryCall}

-- a heap begins where an image may end, or below, and no break is above its limit
pub record HeapFits (x : Process) : Type 0 where
  pub base : x.heap_base ≤ highest
  pub limit : x.program_break ≤ x.heap_base + most_heap

-- what a memory call of the thread comes to, behind its ecall, with so many frames free
abbrev pub memory_call : ℕ → ℕ → MemoryCall → List ℕ → View → Trapped
memory_call t free call arguments v =
    let w = past_ecall t v in
    decided t w (decide (process_of w.node (thread_of w.node t).process) w.memory free call arguments)

-- a change that is made at once may go ahead
abbrev pub IsAhead : Memory → ℕ → ℕ → Decision → Type 0
IsAhead m free program_break (Reply answer) = Unit {0}
IsAhead m free program_break (Now c) = GoesAhead m free program_break c
IsAhead m free program_break (Round c) = Unit {0}

-- there is room for a change that is made at once
abbrev pub HasDecidedRoom : (List PageRange → Type 0) → ℕ → ℕ → Decision → Type 0
HasDecidedRoom has_room spare program_break (Reply answer) = Unit {0}
HasDecidedRoom has_room spare program_break (Now c) = HasRoomFor has_room spare program_break c
HasDecidedRoom has_room spare program_break (Round c) = Unit {0}

-- and for the change that a trap of process p makes
abbrev pub HasTrappedRoom : (List PageRange → Type 0) → ℕ → ℕ → Trapped → Type 0
HasTrappedRoom has_room spare p (Done v) = Unit {0}
HasTrappedRoom has_room spare p (Forks v child stores) = Unit {0}
HasTrappedRoom has_room spare p (Begins node progress) = Unit {0}
HasTrappedRoom has_room spare p (Changes node c) = HasRoomFor has_room spare (process_of node p).program_break c

-- a stop at an ecall
abbrev pub is_ecall : Option Stop → Bool
is_ecall (Some Ecall) = true
is_ecall _ = false

-- ---- the end of a round

-- the thread to which the round belongs
abbrev pub changing_in : Option Tid → ℕ
changing_in o = unwrap_or (option_map (λ (t : Tid). t.0) o) 0

-- where its change isn't refused there is room for it
abbrev pub HasEndRoom : (List PageRange → Type 0) → ℕ → ℕ → Change → Option ℤ → Type 0
HasEndRoom has_room spare program_break c None = HasRoomFor has_room spare program_break c
HasEndRoom has_room spare program_break c (Some answer) = Unit {0}

abbrev pub HasAckRoom : (List PageRange → Type 0) → ℕ → Process → Memory → ℕ → Option Change → Type 0
HasAckRoom has_room spare x m free None = Unit {0}
HasAckRoom has_room spare x m free (Some c) = HasEndRoom has_room spare x.program_break c (refusal_at_end x m free c)
