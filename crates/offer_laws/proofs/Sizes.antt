-- What no event changes: the numbers of cores, workers and rings, the limit of instructions and the number of frames. And a process begins only where there are fewer than most.
use Rattle.hybrid_model.specs.declared.events.Event.TheVariants as Events
use Rattle.file_model.specs.Errno.{EAGAIN, EINVAL, ENOMEM}
use Rattle.file_model.specs.Files.{close_all}
use Rattle.hybrid_laws.proofs.calls.Closed.{Closed, calls-closed, deliver-closed, finishes-closed, for_process-closed, moved-closed, raised-closed, returns-closed, script-closed, wait_over-closed}
use Rattle.hybrid_laws.proofs.node.Goes.{ignored-goes, wake-goes}
use Rattle.hybrid_model.specs.AckClear.{ack_clear}
use Rattle.hybrid_model.specs.Act.{act_file}
use Rattle.hybrid_model.specs.Copy.{copy}
use Rattle.hybrid_model.specs.Events.{after_here}
use Rattle.hybrid_model.specs.Fetch.{fetch_from}
use Rattle.hybrid_model.specs.Finish.{finish_here}
use Rattle.hybrid_model.specs.Miss.{miss}
use Rattle.hybrid_model.specs.Park.{park_here}
use Rattle.hybrid_model.specs.Unpark.{unpark_here}
use Rattle.hybrid_model.specs.Answer.{post_answer}
use Rattle.hybrid_model.specs.BeginVm.{begin_round, begin_vm_of}
use Rattle.hybrid_model.specs.Deliver.{after_deliver}
use Rattle.hybrid_model.specs.Intake.{caller_of, change_made_of, changed, changing_thread, intake, round_over, take_ack, take_fault, take_reply, take_reply_of}
use Rattle.hybrid_model.specs.Interrupt.{interrupt_as, is_calling, post_interrupt}
use Rattle.hybrid_model.specs.OneProcess.{memory_here, set_break, view_here}
use Rattle.hybrid_model.specs.Reap.{reap}
use Rattle.hybrid_model.specs.Run.{run, run_for}
use Rattle.hybrid_model.specs.Trap.{after_trap, trapped}
use Rattle.hybrid_model.specs.Pairs.{Here, with_side}
use Rattle.hybrid_model.specs.Rings.{ring}
use Rattle.hybrid_model.specs.declared.events.Event.{Event}
use Rattle.ikc_ring.specs.declared.Msg.TheVariants.{Ack, Answer, Clear, Fault, Interrupt, Reply, Request}
use Rattle.ikc_ring.specs.declared.Msg.{Msg}
use Rattle.isa_model.specs.Memory.{may_access}
use Rattle.isa_model.specs.declared.stops.Stop.TheVariants.{Break, Ecall, Illegal, Misaligned, On, Fault as StopFault}
use Rattle.isa_model.specs.declared.stops.Stop.{Stop}
use Rattle.kernel_model.specs.Calls.{clone_call, local_call}
use Rattle.kernel_model.specs.CloneCalls.{CallDone, are_clone_flags, are_fork_flags, clone, clone_or_fork, cloned_thread, clones, forks, with_thread}
use Rattle.kernel_model.specs.LocalCalls.{refuses, wake}
use Rattle.kernel_model.specs.MemoryCalls.{Decision, Now, Reply as DecidedReply, Round as DecidedRound, answer_of_change, decide, effect_of, refusal_at_end}
use Rattle.kernel_model.specs.Nodes.{Node, Process, Sleeper, Thread, change_in, change_process, is_living, most_processes, most_threads, process_of, stop_in, thread_of, threads_of, ready_to_run}
use Rattle.kernel_model.specs.Signals.{View, drop_ignored, generate_for_process, on_node, raised, signal_of_stop, store}
use Rattle.kernel_model.specs.Traps.{Begins, Changes, Done, Forks, Ran, Trapped, arguments_of, call_named, called, called_back, cloned, decided, executed, finishes, life_ended, past_ecall, process_ended, trap, trap_of_stop, wait_of, waited, waited_for}
use Rattle.kernel_model.specs.declared.Change.{Change}
use Rattle.mck_word.specs.Maps.{collect, count}
use Rattle.mck_word.specs.Words.{has_bit, little_endian}
use Rattle.mck_word.specs.declared.Access.TheVariants.{Write}
use Rattle.mck_word.specs.declared.Regs.{Regs}
use Rattle.std.proofs.Common.{ap, arith, refl, ◌∙◌}
use Rattle.std.proofs.lemmas.Bool.Decides.{nat_tests}
use Rattle.std.specs.Prelude.{zero, suc, Bool, List, None, Option, Some, [], cond, false, filter, get_or, length, nat_le, nat_lt, not, true, ℕ, ℤ, ◌<◌, ◌==◌, ◌∷◌, ◌≡◌}
use Rattle.system_calls.specs.declared.LocalCall.{LocalCall}
use Rattle.system_calls.specs.declared.SystemCall.TheVariants.{Clone, File, Local, Memory}
use Rattle.system_calls.specs.declared.SystemCall.{SystemCall}

-- ---- cores, workers and rings
abbrev pub sizes : Here → ℕ × ℕ × ℕ
sizes h = (h.cores, h.workers, h.rings)

pub sizes-stay : (e : Event) (p : ℕ) (h : Here) → sizes (after_here e p h) ≡ sizes h
unfolding run after_trap after_deliver take_reply take_fault take_ack begin_round post_answer post_interrupt reap miss copy act_file park_here unpark_here finish_here ack_clear
sizes-stay (Events.Run core t n) p h = refl
sizes-stay (Events.Deliver t) p h = refl
sizes-stay (Events.Answer q w) p h = refl
sizes-stay (Events.Wait t) p h = refl
sizes-stay (Events.Reap q) p h = refl
sizes-stay (Events.Script i) p h = refl
sizes-stay (Events.Assign q w) p h = refl
sizes-stay (Events.Miss q w) p h = refl
sizes-stay (Events.Pin q w) p h = refl
sizes-stay (Events.Copy q w) p h = refl
sizes-stay (Events.Unpin q w) p h = refl
sizes-stay (Events.Act q w) p h = refl
sizes-stay (Events.Park q w) p h = refl
sizes-stay (Events.Unpark q n) p h = refl
sizes-stay (Events.Finish q w) p h = refl
sizes-stay (Events.AckClear q) p h = refl
sizes-stay (Events.Fetch q r) p h = go (ring r h.side.to_linux)
  where
    go : (ms : List Msg) → sizes (fetch_from r ms h) ≡ sizes h
    go [] = refl
    go (m ∷ ms) = refl
sizes-stay (Events.BeginVm t) p h = go (change_in (thread_of h.node t.0).does)
  where
    go : (o : Option Change) → sizes (begin_vm_of p t.0 o h) ≡ sizes h
    go None = refl
    go (Some c) = refl
sizes-stay (Events.Interrupt t) p h = go (is_calling h.side t.0)
  where
    go : (o : Bool) → sizes (interrupt_as o t.0 h) ≡ sizes h
    go true = refl
    go false = refl
sizes-stay (Events.Intake q) p h = go h.side.to_lwk
  where
    reply : (code : ℤ) (ms : List Msg) (o : Option ℕ) → sizes (take_reply_of o code ms h) ≡ sizes h
    reply code ms None = refl
    reply code ms (Some t) = refl

    made : (ms : List Msg) (c : Change) (o : Option ℤ) → sizes (changed p (changing_thread h.side) c o (with_side h (round_over ms h.side))) ≡ sizes h
    made ms c None = refl
    made ms c (Some answer) = refl

    ack : (ms : List Msg) (o : Option Change) → sizes (change_made_of p (changing_thread h.side) o (with_side h (round_over ms h.side))) ≡ sizes h
    ack ms None = refl
    ack ms (Some c) = made ms c (refusal_at_end (process_of h.node p) (memory_here (with_side h (round_over ms h.side))) (length h.free) c)

    go : (ms : List Msg) → sizes (intake p ms h) ≡ sizes h
    go [] = refl
    go (Request c ∷ ms) = refl
    go (Clear range ∷ ms) = refl
    go (Answer w page number row ∷ ms) = refl
    go (Interrupt n place ∷ ms) = refl
    go (Reply n code ∷ ms) = reply code ms (caller_of h.side.lwk.callers n.0)
    go (Ack ∷ ms) = ack ms (change_in (thread_of h.node (changing_thread h.side)).does)
    go (Fault w page a ∷ ms) = refl
sizes-stay (Events.Trap t) p h = go (trap t.0 (length h.free) (view_here h))
  where
    go : (y : Trapped) → sizes (trapped p t.0 y h) ≡ sizes h
    go (Done v) = refl
    go (Begins node progress) = refl
    go (Changes node change) = refl
    go (Forks v child stores) = refl

-- ---- the limit of instructions and the number of frames, which no call and no signal changes
abbrev pub bounds : Node → ℕ × ℕ
bounds node = (node.limit, node.frame_count)

abbrev SameBounds : Node → Node → Type 0
SameBounds a b = bounds b ≡ bounds a

wake-same : (a : Node) (process address n : ℕ) → bounds (wake process address n a) ≡ bounds a
wake-same a process address n = let g = wake-goes a process address n in (λ i. (g.limit i, g.frames i))

ignored-same : (a : Node) (q signal : ℕ) → bounds (drop_ignored q signal a) ≡ bounds a
ignored-same a q signal = let g = ignored-goes a q signal in (λ i. (g.limit i, g.frames i))

same-bounds : (t : ℕ) → Closed t SameBounds SameBounds
same-bounds t = record {
  same = λ a. refl;
  joined = λ a b c f g. g ∙ f;
  lift = λ a b f. f;
  quiet = λ a u f h. refl;
  moves = λ a f h. refl;
  process = λ a q f h. refl;
  gone = λ a. refl;
  woken = λ a process address n. wake-same a process address n;
  ignored = λ a q signal. ignored-same a q signal;
  falls = λ a address. refl;
}

run-bounds : (n t : ℕ) (v : Ran) → bounds (run_for n t v).node ≡ bounds v.node
run-bounds zero t v = refl
run-bounds (suc n) t v = go (ready_to_run (thread_of w.node t).does) (run-bounds n t w)
  where
    w : Ran
    w = executed t v

    go : (b : Bool) → bounds (run_for n t w).node ≡ bounds w.node → bounds (cond b (run_for n t w) w).node ≡ bounds v.node
    go true k = k
    go false k = refl

-- ---- traps

-- the limit stays, and there are fewer processes than most where one begins
abbrev pub TrapLeaves : View → Trapped → Type 0
TrapLeaves v (Done w) = SameBounds v.node w.node
TrapLeaves v (Forks w child stores) = SameBounds v.node w.node × (count v.node.processes < most_processes)
TrapLeaves v (Begins node progress) = SameBounds v.node node
TrapLeaves v (Changes node change) = SameBounds v.node node

module _ (t frames : ℕ) (v : View) where
  abbrev own_regs : Regs
  own_regs = (thread_of v.node t).regs

  abbrev behind : View
  behind = past_ecall t v

  tried : (b c : Bool) (a : ℕ) (bytes : List ℕ) (w : View) → bounds (cond b (cond c (store a bytes w) w) w).node ≡ bounds w.node
  tried true true a bytes w = refl
  tried true false a bytes w = refl
  tried false c a bytes w = refl

  clones-leaves : (flags stack parent_tid tls child_tid : ℕ) → TrapLeaves v (cloned (CallDone (clones t flags stack parent_tid tls child_tid behind)))
  clones-leaves flags stack parent_tid tls child_tid =
      tried (has_bit 24 flags) (may_access told.memory Write child_tid (length (little_endian 4 n))) child_tid (little_endian 4 n) told
      ∙ tried (has_bit 20 flags) (may_access made.memory Write parent_tid (length (little_endian 4 n))) parent_tid (little_endian 4 n) made
    where
      n : ℕ
      n = behind.node.next_number

      made : View
      made = on_node (with_thread (cloned_thread behind.node (thread_of behind.node t) flags stack tls child_tid)) behind

      told : View
      told = cond (has_bit 20 flags) (cond (may_access made.memory Write parent_tid (length (little_endian 4 n))) (store parent_tid (little_endian 4 n) made) made) made

  clone-leaves : (flags stack parent_tid tls child_tid : ℕ) → TrapLeaves v (cloned (CallDone (clone t flags stack parent_tid tls child_tid behind)))
  clone-leaves flags stack parent_tid tls child_tid = go (not (are_clone_flags flags)) (nat_le most_threads (length (threads_of behind.node (thread_of behind.node t).process)))
    where
      go : (b c : Bool) → TrapLeaves v (cloned (CallDone (cond b (refuses t EINVAL behind) (cond c (refuses t EAGAIN behind) (clones t flags stack parent_tid tls child_tid behind)))))
      go true c = refl
      go false true = refl
      go false false = clones-leaves flags stack parent_tid tls child_tid

  fork-leaves : (flags stack parent_tid tls child_tid : ℕ) → TrapLeaves v (cloned (clone_or_fork t frames flags stack parent_tid tls child_tid behind))
  fork-leaves flags stack parent_tid tls child_tid = go (are_fork_flags flags) (nat_le most_processes (count v.node.processes)) refl (nat_lt frames (count v.memory))
    where
      n : ℕ
      n = v.node.next_number

      go : (b c : Bool) → nat_le most_processes (count v.node.processes) ≡ c → (d : Bool) → TrapLeaves v (cloned (cond b (cond c (CallDone (refuses t EAGAIN behind)) (cond d (CallDone (refuses t ENOMEM behind)) (forks t flags stack parent_tid tls child_tid behind))) (CallDone (clone t flags stack parent_tid tls child_tid behind))))
      go true true e d = refl
      go true false e true = refl
      go true false e false = (tried (has_bit 20 flags) (may_access v.memory Write parent_tid (length (little_endian 4 n))) parent_tid (little_endian 4 n) behind, grind (arith, nat_tests, e))
      go false c e d = clone-leaves flags stack parent_tid tls child_tid

  local-leaves : (call : LocalCall) (arguments : List ℕ) → SameBounds v.node (local_call t call arguments behind).node
  unfolding local_call
  local-leaves call arguments = calls-closed t SameBounds SameBounds (same-bounds t) call (λ k. get_or arguments k 0) behind

  clone_call-leaves : (arguments : List ℕ) → TrapLeaves v (cloned (clone_call t frames arguments behind))
  unfolding clone_call
  clone_call-leaves arguments = fork-leaves (get_or arguments 0 0) (get_or arguments 1 0) (get_or arguments 2 0) (get_or arguments 3 0) (get_or arguments 4 0)

  decided-leaves : (d : Decision) → TrapLeaves v (decided t behind d)
  decided-leaves (DecidedReply answer) = refl
  decided-leaves (Now change) = refl
  decided-leaves (DecidedRound change) = refl

  called-leaves : (o : Option SystemCall) → TrapLeaves v (called t frames own_regs behind o)
  called-leaves None = refl
  called-leaves (Some Clone) = clone_call-leaves (arguments_of own_regs)
  called-leaves (Some (Local call)) = local-leaves call (arguments_of own_regs)
  called-leaves (Some (Memory call)) = decided-leaves (decide (process_of behind.node (thread_of behind.node t).process) v.memory frames call (arguments_of own_regs))
  called-leaves (Some (File call)) = refl

  pub trap-leaves : TrapLeaves v (trap t frames v)
  unfolding trap
  trap-leaves = go (stop_in (thread_of v.node t).does)
    where
      raise : (z : Stop) → SameBounds v.node (raised t (signal_of_stop z) v.node)
      raise z = raised-closed t SameBounds SameBounds (same-bounds t) v.node (signal_of_stop z)

      go : (o : Option Stop) → TrapLeaves v (trap_of_stop t frames v o)
      go None = refl
      go (Some Ecall) = called-leaves (call_named own_regs)
      go (Some On) = raise On
      go (Some Break) = raise Break
      go (Some Illegal) = raise Illegal
      go (Some Misaligned) = raise Misaligned
      go (Some (StopFault l)) = raise (StopFault l)

-- ---- every event
finished-bounds : (t : ℕ) (a : ℤ) (node : Node) → SameBounds node (finishes t a node)
finished-bounds t a node = finishes-closed t SameBounds SameBounds (same-bounds t) node a

-- the end of a process
ended-bounds : (q : ℕ) (node : Node) → SameBounds node (process_ended q node)
unfolding process_ended
ended-bounds q node = go (is_living told parent)
  where
    told : Node
    told = change_process q (λ (x : Process). record x { life = life_ended x.life }) (record node {
      threads = collect (λ t (x : Thread). cond (x.process == q) None (Some x)) node.threads;
      sleepers = filter (λ (x : Sleeper). not (x.process == q)) node.sleepers;
      files = close_all q node.files;
    })

    parent : ℕ
    parent = (process_of node q).parent

    go : (b : Bool) → bounds (cond b (generate_for_process parent 17 told) told) ≡ bounds node
    go true = for_process-closed 0 SameBounds SameBounds (same-bounds 0) told parent 17
    go false = refl

pub bounds-stay : (e : Event) (p : ℕ) (h : Here) → bounds (after_here e p h).node ≡ bounds h.node
unfolding run after_trap after_deliver take_reply take_fault take_ack begin_round post_answer post_interrupt reap miss copy act_file park_here unpark_here finish_here ack_clear waited called_back
bounds-stay (Events.Run core t n) p h = run-bounds n t.0 (record { node = h.node; memory = memory_here h })
bounds-stay (Events.Deliver t) p h = deliver-closed t.0 SameBounds SameBounds (same-bounds t.0) (view_here h)
bounds-stay (Events.Answer q w) p h = refl
bounds-stay (Events.Wait t) p h = go (wait_of (thread_of h.node t.0).does)
  where
    go : (o : Option (ℤ × ℕ)) → bounds (waited_for t.0 (view_here h) o).node ≡ bounds h.node
    go None = refl
    go (Some w) = wait_over-closed t.0 SameBounds SameBounds (same-bounds t.0) w.0 w.1 (view_here h)
bounds-stay (Events.Reap q) p h = ended-bounds p h.node
bounds-stay (Events.Script i) p h = script-closed 0 SameBounds SameBounds (same-bounds 0) i h.node (λ a unsent. refl)
bounds-stay (Events.Assign q w) p h = refl
bounds-stay (Events.Miss q w) p h = refl
bounds-stay (Events.Pin q w) p h = refl
bounds-stay (Events.Copy q w) p h = refl
bounds-stay (Events.Unpin q w) p h = refl
bounds-stay (Events.Act q w) p h = refl
bounds-stay (Events.Park q w) p h = refl
bounds-stay (Events.Unpark q n) p h = refl
bounds-stay (Events.Finish q w) p h = refl
bounds-stay (Events.AckClear q) p h = refl
bounds-stay (Events.Fetch q r) p h = go (ring r h.side.to_linux)
  where
    go : (ms : List Msg) → bounds (fetch_from r ms h).node ≡ bounds h.node
    go [] = refl
    go (m ∷ ms) = refl
bounds-stay (Events.BeginVm t) p h = go (change_in (thread_of h.node t.0).does)
  where
    go : (o : Option Change) → bounds (begin_vm_of p t.0 o h).node ≡ bounds h.node
    go None = refl
    go (Some c) = refl
bounds-stay (Events.Interrupt t) p h = go (is_calling h.side t.0)
  where
    go : (o : Bool) → bounds (interrupt_as o t.0 h).node ≡ bounds h.node
    go true = moved-closed 0 SameBounds SameBounds (same-bounds 0) h.node t.0
    go false = refl
bounds-stay (Events.Intake q) p h = go h.side.to_lwk
  where
    t : ℕ
    t = changing_thread h.side

    reply : (code : ℤ) (ms : List Msg) (o : Option ℕ) → bounds (take_reply_of o code ms h).node ≡ bounds h.node
    reply code ms None = refl
    reply code ms (Some u) = returns-closed u SameBounds SameBounds (same-bounds u) h.node code

    made : (ms : List Msg) (c : Change) (o : Option ℤ) → bounds (changed p t c o (with_side h (round_over ms h.side))).node ≡ bounds h.node
    made ms c None = finished-bounds t (answer_of_change c) (set_break p (effect_of (process_of h.node p) c).program_break h.node)
    made ms c (Some answer) = finished-bounds t answer h.node

    ack : (ms : List Msg) (o : Option Change) → bounds (change_made_of p t o (with_side h (round_over ms h.side))).node ≡ bounds h.node
    ack ms None = refl
    ack ms (Some c) = made ms c (refusal_at_end (process_of h.node p) (memory_here (with_side h (round_over ms h.side))) (length h.free) c)

    go : (ms : List Msg) → bounds (intake p ms h).node ≡ bounds h.node
    go [] = refl
    go (Request c ∷ ms) = refl
    go (Clear range ∷ ms) = refl
    go (Answer w page number row ∷ ms) = refl
    go (Interrupt n place ∷ ms) = refl
    go (Reply n code ∷ ms) = reply code ms (caller_of h.side.lwk.callers n.0)
    go (Ack ∷ ms) = ack ms (change_in (thread_of h.node t).does)
    go (Fault w page a ∷ ms) = refl
bounds-stay (Events.Trap t) p h = go (trap t.0 (length h.free) (view_here h)) (trap-leaves t.0 (length h.free) (view_here h))
  where
    go : (y : Trapped) → TrapLeaves (view_here h) y → bounds (trapped p t.0 y h).node ≡ bounds h.node
    go (Done v) s = s
    go (Begins node progress) s = s
    go (Changes node change) s = finished-bounds t.0 (answer_of_change change) (set_break p (effect_of (process_of node p) change).program_break node) ∙ s
    go (Forks v child stores) s = s.0

pub limit-stays : (e : Event) (p : ℕ) (h : Here) → (after_here e p h).node.limit ≡ h.node.limit
limit-stays e p h = ap (λ b. b.0) (bounds-stay e p h)

pub frame-count-stays : (e : Event) (p : ℕ) (h : Here) → (after_here e p h).node.frame_count ≡ h.node.frame_count
frame-count-stays e p h = ap (λ b. b.1) (bounds-stay e p h)
