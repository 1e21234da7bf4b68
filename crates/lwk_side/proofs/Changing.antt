-- A memory call of a thread behind its ecall.
use Rattle.hybrid_model.specs.OneProcess.{view_here}
use Rattle.hybrid_model.specs.Trap.{trapped}
use Rattle.hybrid_model.specs.Pairs.{Here, with_node}
use Rattle.isa_model.specs.Memory as memories
use Rattle.isa_model.specs.declared.stops.Stop.TheVariants.{Break, Ecall, Fault, Illegal, Misaligned, On}
use Rattle.isa_model.specs.declared.stops.Stop.{Stop}
use Rattle.kernel_model.specs.MemoryCalls.{Decision, Now, Reply, Round, decide}
use Rattle.kernel_model.specs.Nodes.{Node, Process, process_of, stop_in, thread_of}
use Rattle.kernel_model.specs.Signals.{View}
use Rattle.kernel_model.specs.Traps.{Trapped, decided, past_ecall, trap, trap_of_stop}
use Rattle.lwk_changes.specs.GoAhead.{ahead-at-once}
use Rattle.lwk_side.proofs.Behind.{process-kept}
use Rattle.lwk_side.specs.Changing.{HasDecidedRoom, HasTrappedRoom, IsAhead, is_ecall, memory_call}
use Rattle.mck_word.specs.declared.PageRange.{PageRange}
use Rattle.std.proofs.Common.{ap, refl, subst, sym, ◌∙◌, ◌≡◌}
use Rattle.std.specs.Prelude.{List, None, Option, Some, length, true, ℕ}
use Rattle.system_calls.specs.declared.MemoryCall.{MemoryCall}

-- what is decided does away with the node that stood there
same-decided : (p t : ℕ) (v : View) (h : Here) (node : Node) (d : Decision) → trapped p t (decided t v d) (with_node h node) ≡ trapped p t (decided t v d) h
same-decided p t v h node (Reply answer) = refl
same-decided p t v h node (Now c) = refl
same-decided p t v h node (Round c) = refl

-- what a memory call decides behind its ecall, for a process
abbrev pub decision_of : ℕ → ℕ → MemoryCall → List ℕ → View → ℕ → Decision
decision_of t free call arguments v q = let w = past_ecall t v in decide (process_of w.node q) w.memory free call arguments

pub memory-call-by : (p t free : ℕ) (call : MemoryCall) (arguments : List ℕ) (v : View) → (thread_of v.node t).process ≡ p → decided t (past_ecall t v) (decision_of t free call arguments v p) ≡ memory_call t free call arguments v
memory-call-by p t free call arguments v own = ap (λ (q : ℕ). decided t (past_ecall t v) (decision_of t free call arguments v q)) (sym (process-kept v.node t ∙ own))

pub memory-call-is : (p t : ℕ) (call : MemoryCall) (arguments : List ℕ) (h : Here) → (thread_of h.node t).process ≡ p
    → (let node = (past_ecall t (view_here h)).node in trapped p t (decided t (view_here (with_node h node)) (decision_of t (length h.free) call arguments (view_here h) p)) (with_node h node)) ≡ trapped p t (memory_call t (length h.free) call arguments (view_here h)) h
memory-call-is p t call arguments h own =
    let v = past_ecall t (view_here h) in
    same-decided p t v h v.node (decision_of t (length h.free) call arguments (view_here h) p) ∙ ap (λ (x : Trapped). trapped p t x h) (memory-call-by p t (length h.free) call arguments (view_here h) own)

-- the room for the change of a trap is that for the change decided
pub decided-room : (has_room : List PageRange → Type 0) (spare p t : ℕ) (v : View) (d : Decision) → HasTrappedRoom has_room spare p (decided t v d) → HasDecidedRoom has_room spare (process_of v.node p).program_break d
decided-room has_room spare p t v (Reply answer) h = tt
decided-room has_room spare p t v (Now c) h = h
decided-room has_room spare p t v (Round c) h = tt

pub room-decided : (has_room : List PageRange → Type 0) (spare p t : ℕ) (v : View) (d : Decision) → HasDecidedRoom has_room spare (process_of v.node p).program_break d → HasTrappedRoom has_room spare p (decided t v d)
room-decided has_room spare p t v (Reply answer) h = tt
room-decided has_room spare p t v (Now c) h = h
room-decided has_room spare p t v (Round c) h = tt

-- a change that is decided to be made at once may go ahead
pub decided-ahead : (p : Process) (m : memories.Memory) (free : ℕ) (call : MemoryCall) (arguments : List ℕ) (d : Decision) → decide p m free call arguments ≡ d → IsAhead m free p.program_break d
decided-ahead p m free call arguments (Reply answer) e = tt
decided-ahead p m free call arguments (Now c) e = ahead-at-once p m free call arguments c e
decided-ahead p m free call arguments (Round c) e = tt

-- ---- room made before
pub call-room : (has_room : List PageRange → Type 0) (spare p t free : ℕ) (call : MemoryCall) (arguments : List ℕ) (v : View) → (thread_of v.node t).process ≡ p
    → HasDecidedRoom has_room spare (process_of v.node p).program_break (decide (process_of v.node p) v.memory free call arguments) → HasTrappedRoom has_room spare p (memory_call t free call arguments v)
call-room has_room spare p t free call arguments v own h =
    subst (λ (x : Trapped). HasTrappedRoom has_room spare p x) (memory-call-by p t free call arguments v own)
    (room-decided has_room spare p t (past_ecall t v) (decision_of t free call arguments v p) h)

module _ (has_room : List PageRange → Type 0) (spare p t free : ℕ) where
  -- only at an ecall
  stop-room : (v : View) (o : Option Stop) → (is_ecall o ≡ true → HasTrappedRoom has_room spare p (trap_of_stop t free v (Some Ecall))) → HasTrappedRoom has_room spare p (trap_of_stop t free v o)
  stop-room v None h = tt
  stop-room v (Some On) h = tt
  stop-room v (Some Ecall) h = h refl
  stop-room v (Some Break) h = tt
  stop-room v (Some Illegal) h = tt
  stop-room v (Some Misaligned) h = tt
  stop-room v (Some (Fault lack)) h = tt

  pub trap-room : (v : View) → (is_ecall (stop_in (thread_of v.node t).does) ≡ true → HasTrappedRoom has_room spare p (trap_of_stop t free v (Some Ecall))) → HasTrappedRoom has_room spare p (trap t free v)
  unfolding trap
  trap-room v h = stop-room v (stop_in (thread_of v.node t).does) h
