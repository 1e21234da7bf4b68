-- The steps of the one-kernel machine: when each may happen, and what it does, one process at a time.
-- Source: this project's own.
use Rattle.kernel_model.specs.declared.steps.Step.{Step}
use Rattle.kernel_model.specs.declared.steps.Step.TheVariants.{Instr, Trap, Deliver, VmFinish, Piece, PieceFault, FileStep, Block, Wake, Return, Mark, Interrupted, Wait, Script, End}
use Rattle.isa_model.specs.Memory.{Memory, Page, allows_in}
use Rattle.kernel_model.specs.MemoryCalls.{Effect, answer_of_change, effect_of, refusal_at_end}
use Rattle.kernel_model.specs.Nodes.{Node, Process, ScriptLine, Thread, change_in, change_process, has_thread, instructions_in_all, is_called, is_dying, process_of, set_does, set_files, thread_of}
use Rattle.kernel_model.specs.OneKernel.{Active, Blocked, CallStatus, OneHere, OneKernel, Over, no_own, one_here, put_one_here, Call}
use Rattle.kernel_model.specs.Progress.{is_ready, After, Progress, fault_answer, given_back, has_piece, interrupted_answer, is_file_step, is_not_ready, move_piece, needed_access, next_kind, next_piece, no_progress, take_file_step}
use Rattle.kernel_model.specs.Signals.{View, deliver, moved_to_own, stored_all, view}
use Rattle.kernel_model.specs.Spaces.{OneSpace, after_effect}
use Rattle.kernel_model.specs.Traps.{Begins, Changes, Done, Forks, Trapped, called_back, executed, finishes, line_of, may_be_called_back, may_be_marked, may_deliver, may_run, may_script, may_trap, may_wait, process_ended, returns, script_sent, trap, waited}
use Rattle.kernel_model.specs.declared.Change.{Change}
use Rattle.kernel_model.specs.declared.Does.TheVariants.{Called}
use Rattle.mck_word.specs.Maps.{at, put, cut, change, count, some_row, no_rows}
use Rattle.std.specs.Prelude.{Bool, List, None, Option, Some, [], false, is_some, nat_lt, not, pos, true, unwrap_or, ℕ, ℤ, ◌&&◌, ◌+◌, ◌-◌, ◌==◌, ◌||◌, ◌∷◌}

-- ---- the call of a thread

abbrev pub no_call : Call
no_call = record { marked = false; status = Over (pos 0) }

abbrev pub call_at : OneHere → ℕ → Call
call_at h t = unwrap_or (at h.own.calls t) no_call

abbrev pub has_call : OneHere → ℕ → Bool
has_call h t = is_some (at h.own.calls t)

abbrev pub active : CallStatus → Option Progress
active (Active p) = Some p
active (Blocked p) = None
active (Over answer) = None

abbrev pub blocked : CallStatus → Option Progress
blocked (Active p) = None
blocked (Blocked p) = Some p
blocked (Over answer) = None

abbrev pub answer_in : CallStatus → Option ℤ
answer_in (Active p) = None
answer_in (Blocked p) = None
answer_in (Over answer) = Some answer

abbrev pub progress_in : CallStatus → Progress
progress_in (Active p) = p
progress_in (Blocked p) = p
progress_in (Over answer) = no_progress

abbrev pub progress_at : OneHere → ℕ → Progress
progress_at h t = progress_in (call_at h t).status

-- a test of a progress that may not be there
abbrev pub holds_of : Option Progress → (Progress → Bool) → Bool
holds_of None test = false
holds_of (Some p) test = test p

abbrev pub is_active : OneHere → ℕ → (Progress → Bool) → Bool
is_active h t test = has_call h t && holds_of (active (call_at h t).status) test

abbrev pub is_blocked : OneHere → ℕ → (Progress → Bool) → Bool
is_blocked h t test = has_call h t && holds_of (blocked (call_at h t).status) test

abbrev pub piece_has_right : OneHere → Progress → Bool
piece_has_right h p = allows_in (needed_access p) (at h.own.memory (next_piece p).page)

-- ---- when a step may happen

abbrev pub may_change : Node → ℕ → Bool
may_change node t = has_thread node t && is_some (change_in (thread_of node t).does)

abbrev pub some_called : Node → ℕ → Bool
some_called node p = some_row (λ t (x : Thread). x.process == p && is_called x.does) node.threads

abbrev pub may_end : Node → ℕ → Bool
may_end node p = is_dying node p && not (some_called node p)

abbrev pub may_here : Step → OneHere → Bool
may_here (Instr t) h = may_run h.node t.0 && nat_lt (instructions_in_all h.node) h.node.limit
may_here (Trap t) h = may_trap h.node t.0
may_here (Deliver t) h = may_deliver h.node t.0
may_here (VmFinish t) h = may_change h.node t.0
may_here (Piece t) h = is_active h t.0 (λ p. is_ready (next_kind h.node.files p) && piece_has_right h p)
may_here (PieceFault t) h = is_active h t.0 (λ p. has_piece p && not (piece_has_right h p))
may_here (FileStep t) h = is_active h t.0 (λ p. is_file_step (next_kind h.node.files p))
may_here (Block t) h = is_active h t.0 (λ p. is_not_ready (next_kind h.node.files p))
may_here (Wake t) h = is_blocked h t.0 (λ p. (call_at h t.0).marked || not (is_not_ready (next_kind h.node.files p)))
may_here (Return t) h = has_call h t.0 && is_some (answer_in (call_at h t.0).status)
may_here (Mark t) h = has_call h t.0 && not (call_at h t.0).marked && may_be_marked h.node t.0
may_here (Interrupted t) h = is_active h t.0 (λ p. (call_at h t.0).marked && is_not_ready (next_kind h.node.files p)) || may_be_called_back h.node t.0
may_here (Wait t) h = may_wait h.node t.0
may_here (Script k) h = may_script h.node k
may_here (End p) h = may_end h.node p.0

-- ---- what a step does

abbrev pub with_node : Node → OneHere → OneHere
with_node node h = record h { node = node }

abbrev pub with_memory : Memory → OneHere → OneHere
with_memory m h = record h { own = record h.own { memory = m } }

abbrev pub one_view : OneHere → View
one_view h = view h.node h.own.memory

-- the node of a view, and its stores
abbrev pub with_view : View → OneHere → OneHere
with_view v h = with_node v.node (with_memory (stored_all v.stores h.own.memory) h)

abbrev pub one_space : OneHere → OneSpace
one_space h = record { memory = h.own.memory; free = h.free }

abbrev pub spaced : OneSpace → OneHere → OneHere
spaced sp h = record h { own = record h.own { memory = sp.memory }; free = sp.free }

abbrev pub set_break : ℕ → ℕ → Node → Node
set_break p a node = change_process p (λ (x : Process). record x { program_break = a }) node

-- an effect is made: the rows and the break; then the thread has its answer
abbrev pub one_effect : ℕ → ℕ → ℤ → Effect → OneHere → OneHere
one_effect p t answer e h = with_node (finishes t answer (set_break p e.program_break h.node)) (spaced (after_effect e (one_space h)) h)

abbrev pub one_changed : ℕ → ℕ → Change → Option ℤ → OneHere → OneHere
one_changed p t c (Some answer) h = with_node (finishes t answer h.node) h
one_changed p t c None h = one_effect p t (answer_of_change c) (effect_of (process_of h.node p) c) h

abbrev pub vm_finish_of : ℕ → ℕ → Option Change → OneHere → OneHere
vm_finish_of p t None h = h
vm_finish_of p t (Some c) h = one_changed p t c (refusal_at_end (process_of h.node p) h.own.memory h.free c) h

unfoldable pub vm_finish : ℕ → ℕ → OneHere → OneHere
vm_finish p t h = vm_finish_of p t (change_in (thread_of h.node t).does) h

abbrev pub set_status : ℕ → Bool → CallStatus → OneHere → OneHere
set_status t marked status h = record h { own = record h.own { calls = put h.own.calls t (record { marked = marked; status = status }) } }

abbrev pub one_trapped : ℕ → ℕ → Trapped → OneHere → OneHere
one_trapped p t (Done v) h = with_view v h
one_trapped p t (Forks v child stores) h =
    let m = stored_all v.stores h.own.memory in
    record (with_view v h) { free = h.free - count h.own.memory; born = Some (child, record { memory = stored_all stores m; calls = no_rows }) }
one_trapped p t (Begins node progress) h = set_status t false (Active progress) (with_node (set_does t Called node) h)
one_trapped p t (Changes node change) h = one_effect p t (answer_of_change change) (effect_of (process_of node p) change) (with_node node h)

unfoldable pub one_trap : ℕ → ℕ → OneHere → OneHere
one_trap p t h = one_trapped p t (trap t h.free (one_view h)) h

abbrev pub status_if : Progress → Option ℤ → CallStatus
status_if p None = Active p
status_if p (Some answer) = Over answer

abbrev pub status_after : After → CallStatus
status_after a = status_if a.progress a.ended

-- the call and the files after a step of the call
abbrev pub after_call_step : ℕ → After → OneHere → OneHere
after_call_step t a h = set_status t (call_at h t).marked (status_after a) (with_node (set_files a.files h.node) h)

abbrev pub bytes_at : Memory → ℕ → List ℕ
bytes_at m i = bytes_in (at m i)
  where
    bytes_in : Option Page → List ℕ
    bytes_in None = []
    bytes_in (Some x) = x.bytes

abbrev pub with_page : ℕ → List ℕ → Memory → Memory
with_page i bytes m = change m i (λ (x : Page). record x { bytes = bytes })

unfoldable pub one_piece : ℕ → ℕ → OneHere → OneHere
one_piece p t h =
    let i = (next_piece (progress_at h t)).page in
    let m = move_piece (progress_at h t) h.node.files p (bytes_at h.own.memory i) in
    after_call_step t m.after (with_memory (with_page i m.page h.own.memory) h)

-- the call ends with that answer and gives its description back
unfoldable pub call_ended : ℕ → ℤ → OneHere → OneHere
call_ended t answer h = set_status t (call_at h t).marked (Over answer) (with_node (set_files (given_back (progress_at h t) h.node.files) h.node) h)

abbrev pub interrupted_as : Bool → ℕ → OneHere → OneHere
interrupted_as true t h = call_ended t (interrupted_answer (progress_at h t)) h
interrupted_as false t h = with_node (called_back t h.node) h

abbrev pub return_of : ℕ → Option ℤ → OneHere → OneHere
return_of t None h = h
return_of t (Some answer) h = record (with_node (returns t answer h.node) h) { own = record h.own { calls = cut h.own.calls t } }

abbrev pub after_here : Step → ℕ → OneHere → OneHere
after_here (Instr t) p h = let r = executed t.0 (record { node = h.node; memory = h.own.memory }) in with_node r.node (with_memory r.memory h)
after_here (Trap t) p h = one_trap p t.0 h
after_here (Deliver t) p h = with_view (deliver t.0 (one_view h)) h
after_here (VmFinish t) p h = vm_finish p t.0 h
after_here (Piece t) p h = one_piece p t.0 h
after_here (PieceFault t) p h = call_ended t.0 (fault_answer (progress_at h t.0)) h
after_here (FileStep t) p h = after_call_step t.0 (take_file_step (progress_at h t.0) h.node.files p) h
after_here (Block t) p h = set_status t.0 (call_at h t.0).marked (Blocked (progress_at h t.0)) h
after_here (Wake t) p h = set_status t.0 (call_at h t.0).marked (Active (progress_at h t.0)) h
after_here (Return t) p h = return_of t.0 (answer_in (call_at h t.0).status) h
after_here (Mark t) p h = set_status t.0 true (call_at h t.0).status (with_node (moved_to_own t.0 h.node) h)
after_here (Interrupted t) p h = interrupted_as (has_call h t.0) t.0 h
after_here (Wait t) p h = with_view (waited t.0 (one_view h)) h
after_here (Script k) p h = with_node (script_sent k h.node) h
after_here (End q) p h = record (with_node (process_ended p h.node) h) { own = no_own; free = h.free + count h.own.memory }

-- ---- in the whole state

abbrev pub of_line : Option ScriptLine → ℕ
of_line None = 0
of_line (Some l) = l.process

abbrev pub of_thread : Node → ℕ → ℕ
of_thread node t = (thread_of node t).process

abbrev pub process_of_step : Node → Step → ℕ
process_of_step node (Instr t) = of_thread node t.0
process_of_step node (Trap t) = of_thread node t.0
process_of_step node (Deliver t) = of_thread node t.0
process_of_step node (VmFinish t) = of_thread node t.0
process_of_step node (Piece t) = of_thread node t.0
process_of_step node (PieceFault t) = of_thread node t.0
process_of_step node (FileStep t) = of_thread node t.0
process_of_step node (Block t) = of_thread node t.0
process_of_step node (Wake t) = of_thread node t.0
process_of_step node (Return t) = of_thread node t.0
process_of_step node (Mark t) = of_thread node t.0
process_of_step node (Interrupted t) = of_thread node t.0
process_of_step node (Wait t) = of_thread node t.0
process_of_step node (Script k) = of_line (line_of node k)
process_of_step node (End p) = p.0

abbrev pub may : OneKernel → Step → Bool
may one s = may_here s (one_here one (process_of_step one.node s))

abbrev pub after : OneKernel → Step → OneKernel
after one s = let p = process_of_step one.node s in put_one_here one p (after_here s p (one_here one p))

-- the state after steps, one after another, and whether each may happen in its turn
abbrev pub after_all : OneKernel → List Step → OneKernel
after_all one [] = one
after_all one (s ∷ ss) = after_all (after one s) ss

abbrev pub may_all : OneKernel → List Step → Bool
may_all one [] = true
may_all one (s ∷ ss) = may one s && may_all (after one s) ss
