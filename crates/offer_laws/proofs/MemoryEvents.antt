-- Each event keeps heaps low, and lets a thread wait for a change only where it fits.
use Rattle.hybrid_model.specs.declared.events.Event.TheVariants as Events
use Rattle.file_model.specs.Errno.{EAGAIN, EINVAL, ENOMEM, ENOSYS}
use Rattle.file_model.specs.Files.{close_all}
use Rattle.hybrid_laws.proofs.calls.Closed.{calls-closed, deliver-closed, finishes-closed, for_process-closed, moved-closed, raised-closed, returns-closed, script-closed, wait_over-closed}
use Rattle.hybrid_model.specs.AckClear.{ack_clear}
use Rattle.hybrid_model.specs.Act.{act_file}
use Rattle.hybrid_model.specs.Copy.{copy}
use Rattle.hybrid_model.specs.Events.{after_here}
use Rattle.hybrid_model.specs.Fetch.{fetch_from}
use Rattle.hybrid_model.specs.Finish.{finish_here}
use Rattle.hybrid_model.specs.Miss.{miss}
use Rattle.hybrid_model.specs.Park.{park_here}
use Rattle.hybrid_model.specs.Unpark.{unpark_here}
use Rattle.hybrid_model.specs.Answer.{post_answer}
use Rattle.hybrid_model.specs.BeginVm.{begin_round, begin_vm_of}
use Rattle.hybrid_model.specs.Deliver.{after_deliver}
use Rattle.hybrid_model.specs.Intake.{caller_of, change_made_of, changed, changing_thread, intake, round_over, take_ack, take_fault, take_reply, take_reply_of}
use Rattle.hybrid_model.specs.Interrupt.{interrupt_as, is_calling, post_interrupt}
use Rattle.hybrid_model.specs.OneProcess.{memory_here, set_break, view_here}
use Rattle.hybrid_model.specs.Reap.{reap}
use Rattle.hybrid_model.specs.Run.{run, run_for}
use Rattle.hybrid_model.specs.Trap.{after_trap, trapped}
use Rattle.hybrid_model.specs.Pairs.{Here, with_side}
use Rattle.hybrid_model.specs.Rings.{ring}
use Rattle.hybrid_model.specs.declared.events.Event.{Event}
use Rattle.ikc_ring.specs.declared.Msg.TheVariants.{Ack, Answer, Clear, Fault, Interrupt, Reply, Request}
use Rattle.ikc_ring.specs.declared.Msg.{Msg}
use Rattle.isa_model.specs.Instr.{Outcome, instr}
use Rattle.isa_model.specs.Memory.{may_access}
use Rattle.isa_model.specs.declared.stops.Stop.TheVariants.{Break, Ecall, Illegal, Misaligned, On, Fault as StopFault}
use Rattle.isa_model.specs.declared.stops.Stop.{Stop}
use Rattle.job_model.specs.Images.{highest}
use Rattle.kernel_model.specs.Calls.{clone_call, local_call}
use Rattle.kernel_model.specs.CloneCalls.{CallDone, are_clone_flags, are_fork_flags, child_process, child_thread, clone, clone_or_fork, cloned_thread, clones, forks, with_child, with_thread}
use Rattle.kernel_model.specs.LocalCalls.{answers, refuses}
use Rattle.kernel_model.specs.MemoryCalls.{Decision, Now, Reply as DecidedReply, Round as DecidedRound, answer_of_change, decide, effect_of, refusal_at_end}
use Rattle.kernel_model.specs.Nodes.{Node, Process, Sleeper, Thread, change_in, change_process, change_thread, is_living, most_processes, most_threads, process_of, ready_to_run, set_does, set_pc, stop_in, thread_of, threads_of, without_sleeper}
use Rattle.kernel_model.specs.Signals.{View, generate_for_process, on_node, raised, signal_of_stop, store}
use Rattle.kernel_model.specs.Traps.{Begins, Changes, Done, Forks, Ran, Trapped, arguments_of, call_named, called, called_back, cloned, decided, does_after, executed, finishes, life_ended, past_ecall, process_ended, returns, trap, trap_of_stop, wait_of, waited, waited_for}
use Rattle.kernel_model.specs.declared.Change.{Change}
use Rattle.kernel_model.specs.declared.Does.TheVariants.{Called, InVm}
use Rattle.mck_word.specs.MapLaws.{at-collect, at-put}
use Rattle.mck_word.specs.Maps.{and_then, at, collect, count}
use Rattle.mck_word.specs.Words.{has_bit, little_endian, refused}
use Rattle.mck_word.specs.declared.Access.TheVariants.{Write}
use Rattle.mck_word.specs.declared.Regs.{Regs}
use Rattle.offer_laws.proofs.ChangeFits.{decide-fits, low-heap}
use Rattle.offer_laws.proofs.MemoryRests.{calls-rest, deliver-same, finishes-rests, raised-rests, returns-rests, wait_over-rests}
use Rattle.offer_laws.proofs.MemoryStays.{HeapsFit, Stays, Waits, answered-rests, own-wants, process-stays, put-waits, quiet-wants, same-waits, stays-closed, wants}
use Rattle.offer_laws.specs.ChangeFits.{ChangeFits, DecisionFits, NodeFits, wanted}
use Rattle.std.proofs.Common.{ap, arith, refl, subst, sym, ◌∙◌}
use Rattle.std.proofs.lemmas.Bool.Decides.{nat_tests}
use Rattle.std.specs.Prelude.{Bool, List, None, Option, Some, [], cond, false, filter, get_or, length, nat_le, nat_lt, not, option_map, pos, suc, true, zero, ℕ, ℤ, ◌+◌, ◌==◌, ◌∷◌, ◌≡◌, ◌≤◌}
use Rattle.system_calls.specs.declared.LocalCall.{LocalCall}
use Rattle.system_calls.specs.declared.SystemCall.TheVariants.{Clone, File, Local, Memory}
use Rattle.system_calls.specs.declared.SystemCall.{SystemCall}

-- ---- from what a part of the event leaves
fits-waits : (a b : Node) → NodeFits a → (HeapsFit a → HeapsFit b) → ((u : ℕ) → Waits u a b) → NodeFits b
fits-waits a b f low waits = record { heaps = low f.heaps; changes = λ u c e. f.changes u c (waits u c e) }

fits-own : (t : ℕ) (a b : Node) → NodeFits a → Stays t a b → ((c : Change) → wants t b ≡ Some c → ChangeFits c) → NodeFits b
fits-own t a b f s own = record { heaps = s.heaps f.heaps; changes = λ u c e. go u c e (u == t) refl }
  where
    go : (u : ℕ) (c : Change) → wants u b ≡ Some c → (d : Bool) → (u == t) ≡ d → ChangeFits c
    go u c e true g = let h : u ≡ t = grind (arith, nat_tests, g) in own c (ap (λ k. wants k b) (sym h) ∙ e)
    go u c e false g = f.changes u c (s.others u g c e)

fits-rests : (t : ℕ) (a b : Node) → NodeFits a → Stays t a b → wants t b ≡ None → NodeFits b
fits-rests t a b f s e = fits-own t a b f s (λ c g. absurd (let h = sym e ∙ g in grind (arith, h)))

fits-same : (t : ℕ) (a b : Node) → NodeFits a → Stays t a b → wants t b ≡ wants t a → NodeFits b
fits-same t a b f s e = fits-own t a b f s (λ c g. f.changes t c (sym e ∙ g))

-- each thread is another one than 0, or than 1
fits-all : (a b : Node) → NodeFits a → Stays 0 a b → Stays 1 a b → NodeFits b
fits-all a b f s r = fits-own 0 a b f s (λ c e. f.changes 0 c (r.others 0 (grind (arith, nat_tests)) c e))

fits-process : (a : Node) (q : ℕ) (g : Process → Process) → ((x : Process) → (g x).heap_base ≡ x.heap_base) → NodeFits a → NodeFits (change_process q g a)
fits-process a q g h f = fits-waits a (change_process q g a) f (process-stays 0 a q g h).heaps (λ u c e. e)

fits-does : (a : Node) (t : ℕ) (g : Thread → Thread) → ((x : Thread) → change_in (g x).does ≡ None) → NodeFits a → NodeFits (change_thread t g a)
fits-does a t g h f = fits-waits a (change_thread t g a) f (λ low. low) (answered-rests a t g h)

fits-answered : (t : ℕ) (z : ℤ) (v : View) → NodeFits v.node → NodeFits (answers t z v).node
fits-answered t z v f = fits-does v.node t _ (λ x. refl) f

fits-finished : (t : ℕ) (z : ℤ) (a : Node) → NodeFits a → NodeFits (finishes t z a)
fits-finished t z a f = fits-rests t a (finishes t z a) f (finishes-closed t (Stays t) (Stays t) (stays-closed t) a z) (finishes-rests t a z)

-- ---- instructions
no-change-after : (s : Stop) → change_in (does_after s) ≡ None
no-change-after On = refl
no-change-after Ecall = refl
no-change-after Break = refl
no-change-after Illegal = refl
no-change-after Misaligned = refl
no-change-after (StopFault l) = refl

executed-fits : (t : ℕ) (v : Ran) → NodeFits v.node → NodeFits (executed t v).node
executed-fits t v f =
    let e : Outcome = instr (thread_of v.node t).regs v.memory in
    fits-process (change_thread t (λ (x : Thread). record x { regs = e.regs; does = does_after e.stop; back = false }) v.node) (thread_of v.node t).process (λ (p : Process). record p { instructions = p.instructions + 1 }) (λ x. refl)
    (fits-does v.node t (λ (x : Thread). record x { regs = e.regs; does = does_after e.stop; back = false }) (λ x. no-change-after e.stop) f)

run-fits : (n t : ℕ) (v : Ran) → NodeFits v.node → NodeFits (run_for n t v).node
run-fits zero t v f = f
run-fits (suc n) t v f = go (ready_to_run (thread_of w.node t).does) (executed-fits t v f) (run-fits n t w)
  where
    w : Ran
    w = executed t v

    go : (b : Bool) → NodeFits w.node → (NodeFits w.node → NodeFits (run_for n t w).node) → NodeFits (cond b (run_for n t w) w).node
    go true f k = k f
    go false f k = f

-- ---- traps
abbrev pub TrapFits : Trapped → Type 0
TrapFits (Done w) = NodeFits w.node
TrapFits (Forks w child stores) = NodeFits w.node
TrapFits (Begins node progress) = NodeFits node
TrapFits (Changes node change) = NodeFits node

module _ (t frames : ℕ) (v : View) (fits : NodeFits v.node) where
  abbrev own_regs : Regs
  own_regs = (thread_of v.node t).regs

  abbrev behind : View
  behind = past_ecall t v

  behind-fits : NodeFits behind.node
  behind-fits = fits-waits v.node behind.node fits (λ low. low)
      (λ u. same-waits u v.node behind.node (quiet-wants v.node t (λ (x : Thread). record x { regs = set_pc (x.regs.pc + 4) x.regs }) (record { process = λ x. refl; place = λ x. refl; does = λ x. refl }) u))

  tried : (b c : Bool) (a : ℕ) (bytes : List ℕ) (w : View) → NodeFits w.node → NodeFits (cond b (cond c (store a bytes w) w) w).node
  tried true true a bytes w f = f
  tried true false a bytes w f = f
  tried false c a bytes w f = f

  clones-fits : (flags stack parent_tid tls child_tid : ℕ) → NodeFits (clones t flags stack parent_tid tls child_tid behind).node
  clones-fits flags stack parent_tid tls child_tid =
      fits-answered t (pos n) (cond (has_bit 24 flags) (cond (may_access told.memory Write child_tid (length (little_endian 4 n))) (store child_tid (little_endian 4 n) told) told) told)
      (tried (has_bit 24 flags) (may_access told.memory Write child_tid (length (little_endian 4 n))) child_tid (little_endian 4 n) told
      (tried (has_bit 20 flags) (may_access made.memory Write parent_tid (length (little_endian 4 n))) parent_tid (little_endian 4 n) made
      (fits-waits behind.node made.node behind-fits (λ low. low) (put-waits behind.node made.node n new refl refl))))
    where
      n : ℕ
      n = behind.node.next_number

      new : Thread
      new = cloned_thread behind.node (thread_of behind.node t) flags stack tls child_tid

      made : View
      made = on_node (with_thread (cloned_thread behind.node (thread_of behind.node t) flags stack tls child_tid)) behind

      told : View
      told = cond (has_bit 20 flags) (cond (may_access made.memory Write parent_tid (length (little_endian 4 n))) (store parent_tid (little_endian 4 n) made) made) made

  clone-fits : (flags stack parent_tid tls child_tid : ℕ) → TrapFits (cloned (CallDone (clone t flags stack parent_tid tls child_tid behind)))
  clone-fits flags stack parent_tid tls child_tid = go (not (are_clone_flags flags)) (nat_le most_threads (length (threads_of behind.node (thread_of behind.node t).process)))
    where
      go : (b c : Bool) → TrapFits (cloned (CallDone (cond b (refuses t EINVAL behind) (cond c (refuses t EAGAIN behind) (clones t flags stack parent_tid tls child_tid behind)))))
      go true c = fits-answered t (refused EINVAL) behind behind-fits
      go false true = fits-answered t (refused EAGAIN) behind behind-fits
      go false false = clones-fits flags stack parent_tid tls child_tid

  forks-fits : (flags stack parent_tid tls child_tid : ℕ) → TrapFits (cloned (forks t flags stack parent_tid tls child_tid behind))
  forks-fits flags stack parent_tid tls child_tid =
      fits-answered t (pos n) (on_node (with_child t n flags stack tls child_tid) told)
      (born told (tried (has_bit 20 flags) (may_access behind.memory Write parent_tid (length (little_endian 4 n))) parent_tid (little_endian 4 n) behind behind-fits))
    where
      n : ℕ
      n = v.node.next_number

      told : View
      told = cond (has_bit 20 flags) (cond (may_access behind.memory Write parent_tid (length (little_endian 4 n))) (store parent_tid (little_endian 4 n) behind) behind) behind

      born : (w : View) → NodeFits w.node → NodeFits (with_child t n flags stack tls child_tid w.node)
      born w f = fits-waits w.node (with_child t n flags stack tls child_tid w.node) f heaps (put-waits w.node (with_child t n flags stack tls child_tid w.node) n (child_thread (thread_of w.node t) n flags stack tls child_tid) refl refl)
        where
          parent : ℕ
          parent = (thread_of w.node t).process

          heaps : HeapsFit w.node → HeapsFit (with_child t n flags stack tls child_tid w.node)
          heaps low p x e = go (p == n) (sym (at-put w.node.processes n (child_process parent (process_of w.node parent)) p) ∙ e)
            where
              go : (b : Bool) → cond b (Some (child_process parent (process_of w.node parent))) (at w.node.processes p) ≡ Some x → x.heap_base ≤ highest
              go true k = let g : child_process parent (process_of w.node parent) ≡ x = cc in let h = ap (λ (z : Process). z.heap_base) g in let l = low-heap w.node parent f in omega (arith, h, l)
              go false k = low p x k

  fork-fits : (flags stack parent_tid tls child_tid : ℕ) → TrapFits (cloned (clone_or_fork t frames flags stack parent_tid tls child_tid behind))
  fork-fits flags stack parent_tid tls child_tid = go (are_fork_flags flags) (nat_le most_processes (count v.node.processes)) (nat_lt frames (count v.memory))
    where
      go : (b c d : Bool) → TrapFits (cloned (cond b (cond c (CallDone (refuses t EAGAIN behind)) (cond d (CallDone (refuses t ENOMEM behind)) (forks t flags stack parent_tid tls child_tid behind))) (CallDone (clone t flags stack parent_tid tls child_tid behind))))
      go true true d = fits-answered t (refused EAGAIN) behind behind-fits
      go true false true = fits-answered t (refused ENOMEM) behind behind-fits
      go true false false = forks-fits flags stack parent_tid tls child_tid
      go false c d = clone-fits flags stack parent_tid tls child_tid

  local-fits : (call : LocalCall) (arguments : List ℕ) → NodeFits (local_call t call arguments behind).node
  unfolding local_call
  local-fits call arguments = fits-rests t behind.node (local_call t call arguments behind).node behind-fits (calls-closed t (Stays t) (Stays t) (stays-closed t) call (λ j. get_or arguments j 0) behind) (calls-rest t call (λ j. get_or arguments j 0) behind)

  clone_call-fits : (arguments : List ℕ) → TrapFits (cloned (clone_call t frames arguments behind))
  unfolding clone_call
  clone_call-fits arguments = fork-fits (get_or arguments 0 0) (get_or arguments 1 0) (get_or arguments 2 0) (get_or arguments 3 0) (get_or arguments 4 0)

  decided-fits : (d : Decision) → DecisionFits d → TrapFits (decided t behind d)
  decided-fits (DecidedReply answer) h = fits-answered t answer behind behind-fits
  decided-fits (Now change) h = behind-fits
  decided-fits (DecidedRound change) h = fits-own t behind.node (set_does t (InVm change) behind.node) behind-fits ((stays-closed t).moves behind.node (λ x. record x { does = InVm change }) (record { process = λ x. refl; place = λ x. refl; plain = λ x. refl }))
      (λ c e. own c (at behind.node.threads t) (sym (own-wants behind.node t (λ x. record x { does = InVm change })) ∙ e))
    where
      own : (c : Change) (o : Option Thread) → wanted (option_map (λ (x : Thread). record x { does = InVm change }) o) ≡ Some c → ChangeFits c
      own c None e = absurd (grind (arith, e))
      own c (Some x) e = let g : change ≡ c = cc in subst ChangeFits g h

  called-fits : (o : Option SystemCall) → TrapFits (called t frames own_regs behind o)
  called-fits None = fits-answered t (refused ENOSYS) behind behind-fits
  called-fits (Some Clone) = clone_call-fits (arguments_of own_regs)
  called-fits (Some (Local call)) = local-fits call (arguments_of own_regs)
  called-fits (Some (Memory call)) =
      let p = (thread_of behind.node t).process in
      decided-fits (decide (process_of behind.node p) v.memory frames call (arguments_of own_regs)) (decide-fits (process_of behind.node p) v.memory frames (low-heap behind.node p behind-fits) call (arguments_of own_regs))
  called-fits (Some (File call)) = behind-fits

  pub trap-fits : TrapFits (trap t frames v)
  unfolding trap
  trap-fits = go (stop_in (thread_of v.node t).does)
    where
      raise : (z : Stop) → NodeFits (raised t (signal_of_stop z) v.node)
      raise z = fits-rests t v.node (raised t (signal_of_stop z) v.node) fits (raised-closed t (Stays t) (Stays t) (stays-closed t) v.node (signal_of_stop z)) (raised-rests t v.node (signal_of_stop z))

      go : (o : Option Stop) → TrapFits (trap_of_stop t frames v o)
      go None = fits
      go (Some Ecall) = called-fits (call_named own_regs)
      go (Some On) = raise On
      go (Some Break) = raise Break
      go (Some Illegal) = raise Illegal
      go (Some Misaligned) = raise Misaligned
      go (Some (StopFault l)) = raise (StopFault l)

-- ---- the end of a process
ended-fits : (q : ℕ) (node : Node) → NodeFits node → NodeFits (process_ended q node)
unfolding process_ended
ended-fits q node f = go (is_living told parent)
  where
    emptied : Node
    emptied = record node {
      threads = collect (λ t (x : Thread). cond (x.process == q) None (Some x)) node.threads;
      sleepers = filter (λ (x : Sleeper). not (x.process == q)) node.sleepers;
      files = close_all q node.files;
    }

    told : Node
    told = change_process q (λ (x : Process). record x { life = life_ended x.life }) emptied

    parent : ℕ
    parent = (process_of node q).parent

    row : (u : ℕ) (c : Change) (o : Option Thread) → wanted (and_then o (λ (x : Thread). cond (x.process == q) None (Some x))) ≡ Some c → wanted o ≡ Some c
    row u c None e = e
    row u c (Some x) e = by (x.process == q) e
      where
        by : (b : Bool) → wanted (cond b None (Some x)) ≡ Some c → change_in x.does ≡ Some c
        by true k = absurd (grind (arith, k))
        by false k = k

    told-fits : NodeFits told
    told-fits = fits-process emptied q (λ (x : Process). record x { life = life_ended x.life }) (λ x. refl)
        (fits-waits node emptied f (λ low. low) (λ u c e. row u c (at node.threads u) (sym (ap wanted (at-collect (λ t (x : Thread). cond (x.process == q) None (Some x)) node.threads u)) ∙ e)))

    go : (b : Bool) → NodeFits (cond b (generate_for_process parent 17 told) told)
    go true = fits-all told (generate_for_process parent 17 told) told-fits (for_process-closed 0 (Stays 0) (Stays 0) (stays-closed 0) told parent 17) (for_process-closed 1 (Stays 1) (Stays 1) (stays-closed 1) told parent 17)
    go false = told-fits

-- ---- every event
pub fits-stay : (e : Event) (p : ℕ) (h : Here) → NodeFits h.node → NodeFits (after_here e p h).node
unfolding run after_trap after_deliver take_reply take_fault take_ack begin_round post_answer post_interrupt reap miss copy act_file park_here unpark_here finish_here ack_clear waited called_back
fits-stay (Events.Run core t n) p h f = run-fits n t.0 (record { node = h.node; memory = memory_here h }) f
fits-stay (Events.Deliver t) p h f = fits-same t.0 h.node _ f (deliver-closed t.0 (Stays t.0) (Stays t.0) (stays-closed t.0) (view_here h)) (deliver-same t.0 (view_here h))
fits-stay (Events.Answer q w) p h f = f
fits-stay (Events.Wait t) p h f = go (wait_of (thread_of h.node t.0).does)
  where
    go : (o : Option (ℤ × ℕ)) → NodeFits (waited_for t.0 (view_here h) o).node
    go None = f
    go (Some w) = fits-rests t.0 h.node _ f (wait_over-closed t.0 (Stays t.0) (Stays t.0) (stays-closed t.0) w.0 w.1 (view_here h)) (wait_over-rests t.0 w.0 w.1 (view_here h))
fits-stay (Events.Reap q) p h f = ended-fits p h.node f
fits-stay (Events.Script i) p h f = fits-all h.node _ f (script-closed 0 (Stays 0) (Stays 0) (stays-closed 0) i h.node (λ a unsent. record { heaps = λ low. low; others = λ u n c e. e })) (script-closed 1 (Stays 1) (Stays 1) (stays-closed 1) i h.node (λ a unsent. record { heaps = λ low. low; others = λ u n c e. e }))
fits-stay (Events.Assign q w) p h f = f
fits-stay (Events.Miss q w) p h f = f
fits-stay (Events.Pin q w) p h f = f
fits-stay (Events.Copy q w) p h f = f
fits-stay (Events.Unpin q w) p h f = f
fits-stay (Events.Act q w) p h f = f
fits-stay (Events.Park q w) p h f = f
fits-stay (Events.Unpark q n) p h f = f
fits-stay (Events.Finish q w) p h f = f
fits-stay (Events.AckClear q) p h f = f
fits-stay (Events.Fetch q r) p h f = go (ring r h.side.to_linux)
  where
    go : (ms : List Msg) → NodeFits (fetch_from r ms h).node
    go [] = f
    go (m ∷ ms) = f
fits-stay (Events.BeginVm t) p h f = go (change_in (thread_of h.node t.0).does)
  where
    go : (o : Option Change) → NodeFits (begin_vm_of p t.0 o h).node
    go None = f
    go (Some c) = f
fits-stay (Events.Interrupt t) p h f = go (is_calling h.side t.0)
  where
    go : (o : Bool) → NodeFits (interrupt_as o t.0 h).node
    go true = fits-all h.node _ f (moved-closed 0 (Stays 0) (Stays 0) (stays-closed 0) h.node t.0) (moved-closed 1 (Stays 1) (Stays 1) (stays-closed 1) h.node t.0)
    go false = fits-does (without_sleeper t.0 h.node) t.0 _ (λ x. refl) f
fits-stay (Events.Intake q) p h f = go h.side.to_lwk
  where
    t : ℕ
    t = changing_thread h.side

    reply : (code : ℤ) (ms : List Msg) (o : Option ℕ) → NodeFits (take_reply_of o code ms h).node
    reply code ms None = f
    reply code ms (Some u) = fits-rests u h.node (returns u code h.node) f (returns-closed u (Stays u) (Stays u) (stays-closed u) h.node code) (returns-rests u h.node code)

    made : (ms : List Msg) (c : Change) (o : Option ℤ) → NodeFits (changed p t c o (with_side h (round_over ms h.side))).node
    made ms c None = fits-finished t (answer_of_change c) (set_break p (effect_of (process_of h.node p) c).program_break h.node) (fits-process h.node p _ (λ x. refl) f)
    made ms c (Some answer) = fits-finished t answer h.node f

    ack : (ms : List Msg) (o : Option Change) → NodeFits (change_made_of p t o (with_side h (round_over ms h.side))).node
    ack ms None = f
    ack ms (Some c) = made ms c (refusal_at_end (process_of h.node p) (memory_here (with_side h (round_over ms h.side))) (length h.free) c)

    go : (ms : List Msg) → NodeFits (intake p ms h).node
    go [] = f
    go (Request c ∷ ms) = f
    go (Clear range ∷ ms) = f
    go (Answer w page number row ∷ ms) = f
    go (Interrupt n place ∷ ms) = f
    go (Reply n code ∷ ms) = reply code ms (caller_of h.side.lwk.callers n.0)
    go (Ack ∷ ms) = ack ms (change_in (thread_of h.node t).does)
    go (Fault w page a ∷ ms) = f
fits-stay (Events.Trap t) p h f = go (trap t.0 (length h.free) (view_here h)) (trap-fits t.0 (length h.free) (view_here h) f)
  where
    go : (y : Trapped) → TrapFits y → NodeFits (trapped p t.0 y h).node
    go (Done v) s = s
    go (Begins node progress) s = fits-does node t.0 (λ x. record x { does = Called }) (λ x. refl) s
    go (Changes node change) s = fits-finished t.0 (answer_of_change change) (set_break p (effect_of (process_of node p) change).program_break node) (fits-process node p _ (λ x. refl) s)
    go (Forks v child stores) s = s
