-- Every event but a Run, a trap and a line of the script leaves a calmer node.
use Rattle.hybrid_model.specs.declared.events.Event.TheVariants as Events
use Rattle.file_model.specs.Files.{Files}
use Rattle.hybrid_laws.proofs.calls.Closed.{deliver-closed, finishes-closed, for_process-closed, moved-closed, returns-closed, wait_over-closed}
use Rattle.hybrid_laws.proofs.node.Goes.{goes-moves, goes-then}
use Rattle.hybrid_laws.proofs.node.Sound.{Sound}
use Rattle.hybrid_laws.proofs.reap.EndedNode.{closed-instructions, closed-stops, node-closed}
use Rattle.hybrid_laws.proofs.states.Effect.{set-instructions}
use Rattle.hybrid_model.specs.AckClear.{ack_clear}
use Rattle.hybrid_model.specs.Act.{act_file}
use Rattle.hybrid_model.specs.Copy.{copy}
use Rattle.hybrid_model.specs.Finish.{finish_here}
use Rattle.hybrid_model.specs.Miss.{miss}
use Rattle.hybrid_model.specs.Park.{park_here}
use Rattle.hybrid_model.specs.Unpark.{unpark_here}
use Rattle.hybrid_model.specs.Events.{after_here}
use Rattle.hybrid_model.specs.Fetch.{fetch_from}
use Rattle.hybrid_model.specs.Answer.{post_answer}
use Rattle.hybrid_model.specs.BeginVm.{begin_round, begin_vm_of}
use Rattle.hybrid_model.specs.Deliver.{after_deliver}
use Rattle.hybrid_model.specs.Intake.{caller_of, change_made_of, changed, changing_thread, intake, round_over, take_ack, take_fault, take_reply, take_reply_of}
use Rattle.hybrid_model.specs.Interrupt.{interrupt_as, is_calling, post_interrupt}
use Rattle.hybrid_model.specs.OneProcess.{memory_here, set_break, view_here}
use Rattle.hybrid_model.specs.Reap.{reap}
use Rattle.hybrid_model.specs.Pairs.{Here, with_side}
use Rattle.hybrid_model.specs.Rings.{ring}
use Rattle.hybrid_model.specs.declared.events.Event.{Event}
use Rattle.ikc_ring.specs.declared.Msg.TheVariants.{Ack, Answer, Clear, Fault, Interrupt, Reply, Request}
use Rattle.ikc_ring.specs.declared.Msg.{Msg}
use Rattle.kernel_model.specs.MemoryCalls.{answer_of_change, effect_of, refusal_at_end}
use Rattle.kernel_model.specs.Nodes.{Node, Thread, change_in, is_living, process_of, sent_back, set_files, set_pc, thread_of, without_sleeper}
use Rattle.kernel_model.specs.Signals.{generate_for_process}
use Rattle.kernel_model.specs.Traps.{called_back, finishes, process_ended, wait_of, waited, waited_for}
use Rattle.kernel_model.specs.declared.Change.{Change}
use Rattle.kernel_model.specs.declared.Does.TheVariants.{Ready}
use Rattle.std.proofs.Common.{arith, refl}
use Rattle.std.specs.Prelude.{Bool, List, None, Option, Some, [], cond, false, length, true, ℕ, ℤ, ◌+◌, ◌-◌, ◌^◌, ◌∷◌, ◌≡◌}
use Rattle.work_laws.proofs.node.Calmer.{Along, Calmer, along, along-calmer, calmer-then}

-- a node with other files, and one with another break
pub calmer-files : (a : Node) (files : Files) → Calmer a (set_files files a)
calmer-files a files = record { stopped = omega arith; unsent = omega arith; instructions = refl }

pub calmer-same : (a : Node) → Calmer a a
calmer-same a = record { stopped = omega arith; unsent = omega arith; instructions = refl }

calmer-break : (a : Node) (p b : ℕ) → Calmer a (set_break p b a)
calmer-break a p b = record { stopped = omega arith; unsent = omega arith; instructions = set-instructions a p b }

-- a thread back on its ecall
along-back : (a : Node) (t : ℕ) → Along a (called_back t a)
unfolding called_back
along-back a t =
    let b = without_sleeper t a in
    record {
      goes = goes-then a b (sent_back t b)
          (record { rows = λ u y e. (y, e, refl, refl, λ s. s); processes = λ q. refl; next = refl; frames = refl; limit = refl; files = refl })
          (goes-moves b t (λ (x : Thread). record x { regs = set_pc (x.regs.pc + (2 ^ 64 - 4)) x.regs; back = true; does = Ready }) (record { process = λ x. refl; place = λ x. refl; plain = λ x. refl }));
      unsent = refl;
    }

-- the end of a process
calmer-ended : (node : Node) → Sound node → (p : ℕ) → Calmer node (process_ended p node)
unfolding process_ended
calmer-ended node sound p = calmer-then node (node-closed node p sound) _ closed (told (is_living (node-closed node p sound) (process_of node p).parent))
  where
    closed : Calmer node (node-closed node p sound)
    closed = record { stopped = closed-stops node p sound; unsent = omega arith; instructions = closed-instructions node p sound }

    told : (b : Bool) → Calmer (node-closed node p sound) (cond b (generate_for_process (process_of node p).parent 17 (node-closed node p sound)) (node-closed node p sound))
    told true = along-calmer _ _ (for_process-closed 0 Along Along (along 0) (node-closed node p sound) (process_of node p).parent 17)
    told false = calmer-same (node-closed node p sound)

module _ (p : ℕ) (h : Here) (sound : Sound h.node) where
  abbrev Stay : Here → Type 0
  Stay x = Calmer h.node x.node

  waits : (t : ℕ) → Calmer h.node (waited t (view_here h)).node
  unfolding waited
  waits t = go (wait_of (thread_of h.node t).does)
    where
      go : (o : Option (ℤ × ℕ)) → Calmer h.node (waited_for t (view_here h) o).node
      go None = calmer-same h.node
      go (Some w) = along-calmer h.node _ (wait_over-closed t Along Along (along t) w.0 w.1 (view_here h))

  begins : (t : ℕ) (o : Option Change) → Stay (begin_vm_of p t o h)
  begins t None = calmer-same h.node
  begins t (Some c) = calmer-same h.node

  interrupts : (t : ℕ) (o : Bool) → Stay (interrupt_as o t h)
  interrupts t true = along-calmer h.node _ (moved-closed 0 Along Along (along 0) h.node t)
  interrupts t false = along-calmer h.node _ (along-back h.node t)

  fetches : (r : ℕ) (ms : List Msg) → Stay (fetch_from r ms h)
  fetches r [] = calmer-same h.node
  fetches r (m ∷ ms) = calmer-same h.node

  reply : (code : ℤ) (ms : List Msg) (o : Option ℕ) → Stay (take_reply_of o code ms h)
  reply code ms None = calmer-same h.node
  reply code ms (Some t) = along-calmer h.node _ (returns-closed t Along Along (along t) h.node code)

  finished : (t : ℕ) (answer : ℤ) (a : Node) → Calmer h.node a → Calmer h.node (finishes t answer a)
  finished t answer a k = calmer-then h.node a _ k (along-calmer a _ (finishes-closed t Along Along (along t) a answer))

  made : (t : ℕ) (ms : List Msg) (c : Change) (o : Option ℤ) → Stay (changed p t c o (with_side h (round_over ms h.side)))
  made t ms c None = let b = (effect_of (process_of h.node p) c).program_break in finished t (answer_of_change c) (set_break p b h.node) (calmer-break h.node p b)
  made t ms c (Some answer) = finished t answer h.node (calmer-same h.node)

  ack : (ms : List Msg) (o : Option Change) → Stay (change_made_of p (changing_thread h.side) o (with_side h (round_over ms h.side)))
  ack ms None = calmer-same h.node
  ack ms (Some c) = made (changing_thread h.side) ms c (refusal_at_end (process_of h.node p) (memory_here (with_side h (round_over ms h.side))) (length h.free) c)

  intakes : (ms : List Msg) → Stay (intake p ms h)
  unfolding take_reply take_fault take_ack
  intakes [] = calmer-same h.node
  intakes (Request c ∷ ms) = calmer-same h.node
  intakes (Clear range ∷ ms) = calmer-same h.node
  intakes (Answer w page number row ∷ ms) = calmer-same h.node
  intakes (Interrupt n place ∷ ms) = calmer-same h.node
  intakes (Reply n code ∷ ms) = reply code ms (caller_of h.side.lwk.callers n.0)
  intakes (Ack ∷ ms) = ack ms (change_in (thread_of h.node (changing_thread h.side)).does)
  intakes (Fault w page a ∷ ms) = calmer-same h.node

  -- the events that leave the node calmer
  abbrev pub is_calm : Event → Bool
  is_calm (Events.Run core t n) = false
  is_calm (Events.Trap t) = false
  is_calm (Events.Script k) = false
  is_calm _ = true

  pub calmer-event : (e : Event) → is_calm e ≡ true → Stay (after_here e p h)
  unfolding after_deliver begin_round post_answer post_interrupt reap miss copy act_file park_here unpark_here finish_here ack_clear
  calmer-event (Events.Run core t n) f = absurd (grind (arith, f))
  calmer-event (Events.Trap t) f = absurd (grind (arith, f))
  calmer-event (Events.Script k) f = absurd (grind (arith, f))
  calmer-event (Events.Deliver t) f = along-calmer h.node _ (deliver-closed t.0 Along Along (along t.0) (view_here h))
  calmer-event (Events.Intake q) f = intakes h.side.to_lwk
  calmer-event (Events.Answer q w) f = calmer-files h.node _
  calmer-event (Events.BeginVm t) f = begins t.0 (change_in (thread_of h.node t.0).does)
  calmer-event (Events.Interrupt t) f = interrupts t.0 (is_calling h.side t.0)
  calmer-event (Events.Wait t) f = waits t.0
  calmer-event (Events.Reap q) f = calmer-ended h.node sound p
  calmer-event (Events.Fetch q r) f = fetches r (ring r h.side.to_linux)
  calmer-event (Events.Assign q w) f = calmer-same h.node
  calmer-event (Events.Miss q w) f = calmer-same h.node
  calmer-event (Events.Pin q w) f = calmer-same h.node
  calmer-event (Events.Copy q w) f = calmer-files h.node _
  calmer-event (Events.Unpin q w) f = calmer-same h.node
  calmer-event (Events.Act q w) f = calmer-files h.node _
  calmer-event (Events.Park q w) f = calmer-files h.node _
  calmer-event (Events.Unpark q n) f = calmer-same h.node
  calmer-event (Events.Finish q w) f = calmer-same h.node
  calmer-event (Events.AckClear q) f = calmer-same h.node
