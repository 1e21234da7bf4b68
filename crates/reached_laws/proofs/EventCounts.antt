-- How many instructions each event executes: a Run as many as it runs, no other one any.
use Rattle.file_model.specs.Files.{close_all}
use Rattle.hybrid_laws.proofs.calls.Closed.{deliver-closed, finishes-closed, for_process-closed, moved-closed, returns-closed, script-closed, wait_over-closed}
use Rattle.hybrid_laws.proofs.node.Threads.{counted-living, counted-more, counted-thread}
use Rattle.hybrid_laws.proofs.run.Run.{may-run}
use Rattle.hybrid_model.specs.AckClear.{ack_clear}
use Rattle.hybrid_model.specs.Act.{act_file}
use Rattle.hybrid_model.specs.Answer.{post_answer}
use Rattle.hybrid_model.specs.BeginVm.{begin_round, begin_vm_of}
use Rattle.hybrid_model.specs.Copy.{copy}
use Rattle.hybrid_model.specs.Deliver.{after_deliver}
use Rattle.hybrid_model.specs.Events.{after_here, may_here}
use Rattle.hybrid_model.specs.Fetch.{fetch_from}
use Rattle.hybrid_model.specs.Finish.{finish_here}
use Rattle.hybrid_model.specs.Intake.{caller_of, change_made_of, changed, changing_thread, intake, round_over, take_ack, take_fault, take_reply, take_reply_of}
use Rattle.hybrid_model.specs.Interrupt.{interrupt_as, is_calling, post_interrupt}
use Rattle.hybrid_model.specs.Miss.{miss}
use Rattle.hybrid_model.specs.OneProcess.{memory_here, set_break, view_here}
use Rattle.hybrid_model.specs.Pairs.{Here, with_side}
use Rattle.hybrid_model.specs.Park.{park_here}
use Rattle.hybrid_model.specs.Reap.{reap}
use Rattle.hybrid_model.specs.Rings.{ring}
use Rattle.hybrid_model.specs.Run.{run, run_for, length_of_run}
use Rattle.hybrid_model.specs.Trap.{after_trap, trapped}
use Rattle.hybrid_model.specs.Unpark.{unpark_here}
use Rattle.hybrid_model.specs.declared.events.Event.TheVariants as Events
use Rattle.hybrid_model.specs.declared.events.Event.{Event}
use Rattle.ikc_ring.specs.declared.Msg.TheVariants.{Ack, Answer, Clear, Fault, Interrupt, Reply, Request}
use Rattle.ikc_ring.specs.declared.Msg.{Msg}
use Rattle.isa_model.specs.Instr.{instr, Outcome}
use Rattle.kernel_model.specs.MemoryCalls.{answer_of_change, effect_of, refusal_at_end}
use Rattle.kernel_model.specs.Nodes.{Node, Process, Sleeper, Thread, change_in, change_process, is_living, process_of, thread_of, ready_to_run, instructions_in_all}
use Rattle.kernel_model.specs.Signals.{generate_for_process}
use Rattle.kernel_model.specs.Traps.{Begins, Changes, Done, Forks, Ran, Trapped, called_back, executed, finishes, life_ended, process_ended, trap, wait_of, waited, waited_for, does_after}
use Rattle.kernel_model.specs.declared.Change.{Change}
use Rattle.mck_word.specs.Maps.{collect, at, change}
use Rattle.reached_laws.proofs.TrapCounts.{SameCount, TrapCounts, change-count, same-count, trap-counts}
use Rattle.reached_laws.specs.Executed.{executed_here}
use Rattle.std.proofs.Common.{arith, refl, ◌∙◌}
use Rattle.std.specs.Prelude.{zero, suc, Bool, List, None, Option, Some, [], cond, false, filter, length, not, true, ℕ, ℤ, ◌==◌, ◌∷◌, ◌≡◌, ◌+◌}

-- ---- answers and ends
finished-count : (t : ℕ) (a : ℤ) (node : Node) → SameCount node (finishes t a node)
finished-count t a node = finishes-closed t SameCount SameCount (same-count t) node a

broken : (p a : ℕ) (node : Node) → SameCount node (set_break p a node)
broken p a node = change-count node.processes p (λ (x : Process). record x { program_break = a }) (λ x. refl)

-- the end of a process
ended-count : (q : ℕ) (node : Node) → SameCount node (process_ended q node)
unfolding process_ended
ended-count q node = go (is_living told parent)
  where
    told : Node
    told = change_process q (λ (x : Process). record x { life = life_ended x.life }) (record node {
      threads = collect (λ t (x : Thread). cond (x.process == q) None (Some x)) node.threads;
      sleepers = filter (λ (x : Sleeper). not (x.process == q)) node.sleepers;
      files = close_all q node.files;
    })

    parent : ℕ
    parent = (process_of node q).parent

    same : SameCount node told
    same = change-count node.processes q (λ (x : Process). record x { life = life_ended x.life }) (λ x. refl)

    go : (b : Bool) → instructions_in_all (cond b (generate_for_process parent 17 told) told) ≡ instructions_in_all node
    go true = for_process-closed 0 SameCount SameCount (same-count 0) told parent 17 ∙ same
    go false = same

-- of all but a Run
abbrev Stays : Event → Here → Node → Type 0
Stays (Events.Run core t n) h node = Unit {0}
Stays _ h node = SameCount h.node node

stays : (e : Event) (p : ℕ) (h : Here) → at h.node.processes h.node.next_number ≡ None → Stays e h (after_here e p h).node
unfolding run after_trap after_deliver take_reply take_fault take_ack begin_round post_answer post_interrupt reap miss copy act_file park_here unpark_here finish_here ack_clear waited called_back
stays (Events.Run core t n) p h fresh = tt
stays (Events.Deliver t) p h fresh = deliver-closed t.0 SameCount SameCount (same-count t.0) (view_here h)
stays (Events.Answer q w) p h fresh = refl
stays (Events.Wait t) p h fresh = go (wait_of (thread_of h.node t.0).does)
  where
    go : (o : Option (ℤ × ℕ)) → instructions_in_all (waited_for t.0 (view_here h) o).node ≡ instructions_in_all h.node
    go None = refl
    go (Some w) = wait_over-closed t.0 SameCount SameCount (same-count t.0) w.0 w.1 (view_here h)
stays (Events.Reap q) p h fresh = ended-count p h.node
stays (Events.Script i) p h fresh = script-closed 0 SameCount SameCount (same-count 0) i h.node (λ a unsent. refl)
stays (Events.Assign q w) p h fresh = refl
stays (Events.Miss q w) p h fresh = refl
stays (Events.Pin q w) p h fresh = refl
stays (Events.Copy q w) p h fresh = refl
stays (Events.Unpin q w) p h fresh = refl
stays (Events.Act q w) p h fresh = refl
stays (Events.Park q w) p h fresh = refl
stays (Events.Unpark q n) p h fresh = refl
stays (Events.Finish q w) p h fresh = refl
stays (Events.AckClear q) p h fresh = refl
stays (Events.Fetch q r) p h fresh = go (ring r h.side.to_linux)
  where
    go : (ms : List Msg) → instructions_in_all (fetch_from r ms h).node ≡ instructions_in_all h.node
    go [] = refl
    go (m ∷ ms) = refl
stays (Events.BeginVm t) p h fresh = go (change_in (thread_of h.node t.0).does)
  where
    go : (o : Option Change) → instructions_in_all (begin_vm_of p t.0 o h).node ≡ instructions_in_all h.node
    go None = refl
    go (Some c) = refl
stays (Events.Interrupt t) p h fresh = go (is_calling h.side t.0)
  where
    go : (o : Bool) → instructions_in_all (interrupt_as o t.0 h).node ≡ instructions_in_all h.node
    go true = moved-closed 0 SameCount SameCount (same-count 0) h.node t.0
    go false = refl
stays (Events.Intake q) p h fresh = go h.side.to_lwk
  where
    t : ℕ
    t = changing_thread h.side

    reply : (code : ℤ) (ms : List Msg) (o : Option ℕ) → instructions_in_all (take_reply_of o code ms h).node ≡ instructions_in_all h.node
    reply code ms None = refl
    reply code ms (Some u) = returns-closed u SameCount SameCount (same-count u) h.node code

    made : (ms : List Msg) (c : Change) (o : Option ℤ) → instructions_in_all (changed p t c o (with_side h (round_over ms h.side))).node ≡ instructions_in_all h.node
    made ms c None = finished-count t (answer_of_change c) (set_break p (effect_of (process_of h.node p) c).program_break h.node) ∙ broken p (effect_of (process_of h.node p) c).program_break h.node
    made ms c (Some answer) = finished-count t answer h.node

    ack : (ms : List Msg) (o : Option Change) → instructions_in_all (change_made_of p t o (with_side h (round_over ms h.side))).node ≡ instructions_in_all h.node
    ack ms None = refl
    ack ms (Some c) = made ms c (refusal_at_end (process_of h.node p) (memory_here (with_side h (round_over ms h.side))) (length h.free) c)

    go : (ms : List Msg) → instructions_in_all (intake p ms h).node ≡ instructions_in_all h.node
    go [] = refl
    go (Request c ∷ ms) = refl
    go (Clear range ∷ ms) = refl
    go (Answer w page number row ∷ ms) = refl
    go (Interrupt n place ∷ ms) = refl
    go (Reply n code ∷ ms) = reply code ms (caller_of h.side.lwk.callers n.0)
    go (Ack ∷ ms) = ack ms (change_in (thread_of h.node t).does)
    go (Fault w page a ∷ ms) = refl
stays (Events.Trap t) p h fresh = go (trap t.0 (length h.free) (view_here h)) (trap-counts t.0 (length h.free) (view_here h) fresh)
  where
    go : (y : Trapped) → TrapCounts (view_here h) y → instructions_in_all (trapped p t.0 y h).node ≡ instructions_in_all h.node
    go (Done v) s = s
    go (Begins node progress) s = s
    go (Changes node change) s = finished-count t.0 (answer_of_change change) (set_break p (effect_of (process_of node p) change).program_break node) ∙ broken p (effect_of (process_of node p) change).program_break node ∙ s
    go (Forks v child stores) s = s

-- ---- a Run
run-count : (n t : ℕ) (v : Ran) (x : Thread) → at v.node.threads t ≡ Some x → is_living v.node x.process ≡ true → instructions_in_all (run_for n t v).node ≡ instructions_in_all v.node + length_of_run n t v
run-count zero t v x there living = omega arith
run-count (suc n) t v x there living = go (ready_to_run (thread_of w.node t).does) (run-count n t w (moved x) (counted-thread v.node t o x there) (counted-living v.node t o x there x.process ∙ living))
  where
    o : Outcome
    o = instr (thread_of v.node t).regs v.memory

    moved : Thread → Thread
    moved y = record y { regs = o.regs; does = does_after o.stop; back = false }

    w : Ran
    w = executed t v

    one : instructions_in_all w.node ≡ instructions_in_all v.node + 1
    one = counted-more v.node t o x there living

    go : (b : Bool) → instructions_in_all (run_for n t w).node ≡ instructions_in_all w.node + length_of_run n t w → instructions_in_all (cond b (run_for n t w) w).node ≡ instructions_in_all v.node + suc (cond b (length_of_run n t w) zero)
    go true k = omega (arith, one, k)
    go false k = omega (arith, one)

-- ---- every event
pub counts : (e : Event) (p : ℕ) (h : Here) → at h.node.processes h.node.next_number ≡ None → may_here e h ≡ true → instructions_in_all (after_here e p h).node ≡ instructions_in_all h.node + executed_here e h
unfolding run
counts (Events.Run core t n) p h fresh m = let r = (may-run core t.0 n h m).runs in run-count n t.0 (record { node = h.node; memory = memory_here h }) r.thread r.there r.living
counts e p h fresh m = let a = stays e p h fresh in omega (arith, a)
