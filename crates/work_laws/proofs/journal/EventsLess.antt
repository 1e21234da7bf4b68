-- Every event lessens what is left to do, but a Run, which doesn't raise it, and a Trap and a Script, which raise it by so much at most.
use Rattle.hybrid_model.specs.declared.events.Event.TheVariants as Events
use Rattle.ikc_ring.specs.declared.Msg.TheVariants as Messages
use Rattle.kernel_model.specs.declared.steps.Step.TheVariants as Steps
use Rattle.hybrid_laws.proofs.every.Event.{whole_event}
use Rattle.hybrid_laws.proofs.intake.Intake.{by-message}
use Rattle.hybrid_laws.proofs.maps.Tests.{both, some-is}
use Rattle.hybrid_laws.proofs.park.Park.{MayPark, may-park}
use Rattle.hybrid_laws.proofs.states.Pair.{has-side, there-has}
use Rattle.hybrid_laws.proofs.states.Steps.{SimulatedPair, one-here}
use Rattle.hybrid_model.specs.Coherence.{OfProcess}
use Rattle.hybrid_model.specs.Events.{after, may, may_here, process_of_event}
use Rattle.hybrid_model.specs.Globals.{Coherent, HeapHolds, ring_number}
use Rattle.hybrid_model.specs.Answer.{image_of_answer}
use Rattle.hybrid_model.specs.Images.{image}
use Rattle.hybrid_model.specs.Intake.{caller_number, image_of_intake}
use Rattle.hybrid_model.specs.Interrupt.{image_of_interrupt}
use Rattle.hybrid_model.specs.Park.{image_of_park}
use Rattle.hybrid_model.specs.Unpark.{thread_of_request}
use Rattle.hybrid_model.specs.Answer.{answer_to, thread_served}
use Rattle.hybrid_model.specs.Intake.{caller_of, changing_thread}
use Rattle.hybrid_model.specs.Interrupt.{is_calling}
use Rattle.hybrid_model.specs.Run.{executed_in_run}
use Rattle.hybrid_model.specs.Pairs.{Here, Pair, here, side_of}
use Rattle.hybrid_model.specs.Shown.{one, shown_call}
use Rattle.hybrid_model.specs.Sides.{Caller, Row, Side, served}
use Rattle.hybrid_model.specs.declared.events.Event.{Event}
use Rattle.ikc_ring.specs.declared.Msg.{Msg}
use Rattle.kernel_model.specs.Nodes.{Process, is_there, no_process, process_of}
use Rattle.kernel_model.specs.OneKernel.{OneHere, one_here}
use Rattle.kernel_model.specs.Steps.{has_call, is_active}
use Rattle.kernel_model.specs.declared.steps.Step.{Step}
use Rattle.mck_word.specs.Identifiers.{tid}
use Rattle.mck_word.specs.MapLaws.{at-collect}
use Rattle.mck_word.specs.Maps.{and_then, at, count}
use Rattle.mck_word.specs.declared.Access.{Access}
use Rattle.mck_word.specs.declared.Pid.{Pid}
use Rattle.mck_word.specs.declared.Req.{Req}
use Rattle.mck_word.specs.declared.Tid.{Tid}
use Rattle.std.proofs.Common.{ap, arith, inl, inr, refl, subst, sym, ◌∙◌}
use Rattle.std.proofs.lemmas.Bool.Decides.{nat_tests}
use Rattle.std.specs.Prelude.{Bool, List, None, Option, Some, [], false, is_some, length, true, unwrap_or, ℕ, ℤ, ◌*◌, ◌+◌, ◌∷◌, ◌≡◌, ◌≤◌}
use Rattle.work_laws.proofs.copy.Copy.{here_copy}
use Rattle.work_laws.proofs.copy.Pays.{copy-pays}
use Rattle.work_laws.proofs.events.Act.{here_act, here_park_blocks, here_park_stops}
use Rattle.work_laws.proofs.events.Answer.{here_answer_empty, here_answer_row}
use Rattle.work_laws.proofs.events.Family.{one_side}
use Rattle.work_laws.proofs.events.Intake.{here_intake_ack, here_intake_fault, here_intake_reply}
use Rattle.work_laws.proofs.sides.Lwk.{here_deliver, here_interrupt_call, here_interrupt_rest, here_reap, here_run, here_script, here_wait}
use Rattle.work_laws.proofs.sides.Many.{all-few, few-answers, few-requests}
use Rattle.work_laws.proofs.sides.Shown.{has-call, is-active, sound-shown, thread-own}
use Rattle.work_laws.proofs.sides.Wholes.{HerePays, HereSteps, SidesPay, is_trap, pays-quiet, pays-steps}
use Rattle.work_laws.proofs.steps.ByStep.{EventPays, by-leads, by-none, by-one, by-run, enough, happens, together}
use Rattle.work_laws.proofs.steps.Each.{cost_of, gain_of, interrupted-call, interrupted-rest, is_plain}
use Rattle.work_laws.proofs.steps.OneProcess.{KernelPays}
use Rattle.work_laws.proofs.trap.Pays.{trap_cost}
use Rattle.work_laws.proofs.trap.Sides.{trap-sides, trap_sides}
use Rattle.work_laws.specs.KernelLeft.{Prices}
use Rattle.work_laws.specs.Weights.{any_change, of_change}
use Rattle.work_laws.specs.WholePages.{AllFull}

-- a step of a call pays for what it changes of the sides, as a change of memory and the end of a process do
pub record Pays (k : Prices) (pair : Pair) : Type 0 where
  pub step : any_change * count pair.sides + 1 ≤ k.step
  pub change : of_change pair.workers ≤ k.change
  pub process : any_change * count pair.sides + 2 ≤ k.process

-- by how much an event lessens what is left to do, and by how much it may raise it
abbrev pub gain_of_event : Event → ℕ
gain_of_event (Events.Run core t n) = 0
gain_of_event (Events.Trap t) = 0
gain_of_event (Events.Script line) = 0
gain_of_event _ = 1

abbrev pub cost_of_event : Prices → Pair → Event → ℕ
cost_of_event k pair (Events.Trap t) = trap_cost k + trap_sides pair.workers (count pair.sides)
cost_of_event k pair (Events.Script line) = 1
cost_of_event k pair _ = 0

module _ (k : Prices) (pair : Pair) (c : Coherent pair) (full : AllFull (one pair)) (pays : Pays k pair) where
  abbrev process : Event → ℕ
  process e = process_of_event pair.node e

  abbrev h : Event → Here
  h e = here pair (process e)

  abbrev Less : Event → Type 0
  Less e = EventPays k pair e (gain_of_event e) (cost_of_event k pair e)

  allowed : (e : Event) → may pair e ≡ true → (is_there pair.node (process e) ≡ true) × (may_here e (h e) ≡ true)
  allowed e m = both (is_there pair.node (process e)) (may_here e (h e)) m

  shows : (e : Event) → may pair e ≡ true → SimulatedPair pair e
  shows e m = (whole_event pair c e m).1

  of_process : (e : Event) → OfProcess (process e) (h e).side pair.node pair.workers (ring_number pair)
  of_process e = c.whole (process e)

  quiet : (e : Event) → may pair e ≡ true → is_trap e ≡ false → (gain cost : ℕ) → HerePays (process e) e (h e) gain cost → SidesPay pair e gain cost
  quiet e m n gain cost x = pays-quiet pair c e (allowed e m).0 n gain cost x

  stepped : (e : Event) → may pair e ≡ true → is_trap e ≡ false → (gain : ℕ) → HereSteps (process e) e (h e) gain → SidesPay pair e gain (any_change * count pair.sides)
  stepped e m n gain x = pays-steps pair c e (allowed e m).0 n gain (all-few pair c) x

  few : (p : ℕ) → count (side_of pair p).book.rows ≤ 16
  few p = few-requests p (side_of pair p) pair.node pair.workers (ring_number pair) (c.whole p) c.places

  -- ---- both parts of an event: its sides, and no step, one step, or the instructions of a run
  module _ (e : Event) (m : may pair e ≡ true) (gain cost : ℕ) where
    both-parts : (a b c d : ℕ) → KernelPays k (one pair) (one (after pair e)) a b → SidesPay pair e c d → gain + (b + d) ≤ a + c + cost → EventPays k pair e gain cost
    both-parts a b c d x y l = enough k pair e (shows e m) (a + c) (b + d) gain cost (together k pair e (shows e m) a b c d x y) l

    silent : image pair e ≡ [] → SidesPay pair e 1 0 → gain ≤ 1 + cost → EventPays k pair e gain cost
    silent i y l = both-parts 0 0 1 0 (by-none k pair e (shows e m) i) y (omega (arith, l))

    plain : (x : Step) → image pair e ≡ x ∷ [] → is_plain x ≡ true → (c d : ℕ) → SidesPay pair e c d → gain + (cost_of k x + d) ≤ gain_of k x + c + cost → EventPays k pair e gain cost
    plain x i p c' d y l = both-parts (gain_of k x) (cost_of k x) c' d (by-one k pair e (shows e m) x i c p) y l

  -- ---- the lightweight kernel
  run-less : (core : ℕ) (t : Tid) (n : ℕ) → may pair (Events.Run core t n) ≡ true → Less (Events.Run core t n)
  run-less core t n m =
      let e = Events.Run core t n in
      both-parts e m 0 0 0 0 0 0 (by-run k pair e (shows e m) t (executed_in_run t.0 n (h e)) refl) (quiet e m refl 0 0 (here_run (process e) (h e) core t n)) (omega arith)

  trap-less : (t : Tid) → may pair (Events.Trap t) ≡ true → Less (Events.Trap t)
  trap-less t m =
      let e = Events.Trap t in
      let a = trap-sides pair c t m in
      plain e m 0 (cost_of_event k pair e) (Steps.Trap t) refl refl 0 (trap_sides pair.workers (count pair.sides)) (omega (arith, a)) (omega arith)

  deliver-less : (t : Tid) → may pair (Events.Deliver t) ≡ true → Less (Events.Deliver t)
  deliver-less t m = let e = Events.Deliver t in plain e m 1 0 (Steps.Deliver t) refl refl 0 0 (quiet e m refl 0 0 (here_deliver (process e) (h e) t)) (omega arith)

  wait-less : (t : Tid) → may pair (Events.Wait t) ≡ true → Less (Events.Wait t)
  wait-less t m = let e = Events.Wait t in plain e m 1 0 (Steps.Wait t) refl refl 0 0 (quiet e m refl 0 0 (here_wait (process e) (h e) t)) (omega arith)

  script-less : (line : ℕ) → may pair (Events.Script line) ≡ true → Less (Events.Script line)
  script-less line m = let e = Events.Script line in plain e m 0 1 (Steps.Script line) refl refl 0 0 (quiet e m refl 0 0 (here_script (process e) (h e) line)) (omega arith)

  reap-less : (q : Pid) → may pair (Events.Reap q) ≡ true → Less (Events.Reap q)
  reap-less q m =
      let e = Events.Reap q in
      let y = stepped e m refl 0 (here_reap q.0 (h e) q refl (few q.0) (allowed e m).1) in
      let f = pays.process in
      plain e m 1 0 (Steps.End q) refl refl 0 (any_change * count pair.sides) y (omega (arith, f))

  interrupt-less : (t : Tid) → may pair (Events.Interrupt t) ≡ true → Less (Events.Interrupt t)
  interrupt-less t m = go (is_calling (h e).side t.0) refl
    where
      e : Event
      e = Events.Interrupt t

      by-image : (b : Bool) → is_calling (h e).side t.0 ≡ b → image pair e ≡ image_of_interrupt b t.0
      by-image b f = ap (λ b. image_of_interrupt b t.0) f

      no-call : is_calling (h e).side t.0 ≡ false → has_call (one_here (one pair) (process e)) t.0 ≡ false
      no-call f =
          let a = one-here pair (process e) (has-side pair c.known (process e) (allowed e m).0) in
          let b = at-collect (λ k y. Some (shown_call (h e).side y)) (h e).side.lwk.callers t.0 in
          ap (λ (x : OneHere). has_call x t.0) a ∙ ap is_some b ∙ shown-some (at (h e).side.lwk.callers t.0) ∙ f
        where
          shown-some : (o : Option Caller) → is_some (and_then o (λ y. Some (shown_call (h e).side y))) ≡ is_some o
          shown-some None = refl
          shown-some (Some y) = refl

      go : (b : Bool) → is_calling (h e).side t.0 ≡ b → EventPays k pair e 1 0
      go true f = plain e m 1 0 (Steps.Mark t) (by-image true f) refl 0 15 (quiet e m refl 0 15 (here_interrupt_call (process e) (h e) t f)) (omega arith)
      go false f =
          let s = shows e m in
          let i = by-image false f in
          let x = by-leads k pair e s (Steps.Interrupted t) i 1 0 (interrupted-rest k (one pair) (sound-shown pair c) t (no-call f) (happens k pair e s (Steps.Interrupted t) i)) in
          both-parts e m 1 0 1 0 0 0 x (quiet e m refl 0 0 (here_interrupt_rest (process e) (h e) t f)) (omega arith)

  answer-less : (q : Pid) (w : ℕ) → may pair (Events.Answer q w) ≡ true → Less (Events.Answer q w)
  answer-less q w m = go (answer_to (h e).side w) refl
    where
      e : Event
      e = Events.Answer q w

      t : ℕ
      t = thread_served (h e).side w

      go : (o : Option Row) → answer_to (h e).side w ≡ o → EventPays k pair e 1 0
      go (Some row) f = silent e m 1 0 (ap (λ o. image_of_answer o t) f) (quiet e m refl 1 0 (here_answer_row q.0 (h e) (ring_number pair) (of_process e) q w (allowed e m).1 row f)) (omega arith)
      go None f =
          let y = stepped e m refl 0 (here_answer_empty q.0 (h e) (ring_number pair) (of_process e) q w (allowed e m).1 (few q.0) f) in
          let l = pays.step in
          plain e m 1 0 (Steps.PieceFault (tid t)) (ap (λ o. image_of_answer o t) f) refl 0 (any_change * count pair.sides) y (omega (arith, l))

  -- ---- messages to the lightweight kernel
  intake-less : (q : Pid) → may pair (Events.Intake q) ≡ true → Less (Events.Intake q)
  intake-less q m = by-message side.to_lwk (EventPays k pair e 1 0)
      (λ f. absurd (let a = (allowed e m).1 in let n = ap (λ (ms : List Msg). length ms) f in grind (arith, nat_tests, a, n)))
      reply ack fault (of_process e).directions.to_lwk
    where
      e : Event
      e = Events.Intake q

      side : Side
      side = side_of pair q.0

      heap : HeapHolds (process_of pair.node q.0)
      heap =
          let x = some-is (at pair.node.processes q.0) (there-has pair.node q.0 (allowed e m).0) in
          subst HeapHolds (sym (ap (λ (o : Option Process). unwrap_or o no_process) x.1)) (c.heaps q.0 x.0 x.1)

      reply : (n : Req) (code : ℤ) (rest : List Msg) → side.to_lwk ≡ Messages.Reply n code ∷ rest → EventPays k pair e 1 0
      reply n code rest f =
          let y = quiet e m refl 19 0 (here_intake_reply q.0 (h e) q pair.workers (ring_number pair) (of_process e) n code rest f) in
          plain e m 1 0 (Steps.Return (tid (caller_number (caller_of side.lwk.callers n.0)))) (ap (λ ms. image_of_intake ms side) f) refl 19 0 y (omega arith)

      ack : (rest : List Msg) → side.to_lwk ≡ Messages.Ack ∷ rest → EventPays k pair e 1 0
      ack rest f =
          let answers = few-answers q.0 side pair.node pair.workers (ring_number pair) (of_process e) c.places in
          let y = quiet e m refl 1 (of_change pair.workers) (here_intake_ack q.0 (h e) q (ring_number pair) (of_process e) heap answers rest f) in
          let l = pays.change in
          plain e m 1 0 (Steps.VmFinish (tid (changing_thread side))) (ap (λ ms. image_of_intake ms side) f) refl 1 (of_change pair.workers) y (omega (arith, l))

      fault : (w page : ℕ) (a : Access) (rest : List Msg) → side.to_lwk ≡ Messages.Fault w page a ∷ rest → EventPays k pair e 1 0
      fault w page a rest f = silent e m 1 0 (ap (λ ms. image_of_intake ms side) f) (quiet e m refl 1 0 (here_intake_fault q.0 (h e) q w page a rest f)) (omega arith)

  -- ---- the proxy
  copy-less : (q : Pid) (w : ℕ) → may pair (Events.Copy q w) ≡ true → Less (Events.Copy q w)
  copy-less q w m = elim (copy-pays k pair c full q w m) [
    | inl x ↦
        let e = Events.Copy q w in
        let y = stepped e m refl 0 (here_copy q.0 (h e) q w (few q.0) (allowed e m).1) in
        let l = pays.step in
        both-parts e m 1 0 k.step 0 0 (any_change * count pair.sides) x y (omega (arith, l))
    | inr x ↦ both-parts (Events.Copy q w) m 1 0 0 0 1 0 x.0 x.1 (omega arith)
  ]

  act-less : (q : Pid) (w : ℕ) → may pair (Events.Act q w) ≡ true → Less (Events.Act q w)
  act-less q w m =
      let e = Events.Act q w in
      let y = stepped e m refl 0 (here_act q.0 (h e) q w (few q.0)) in
      let l = pays.step in
      plain e m 1 0 (Steps.FileStep (tid (thread_served (h e).side w))) refl refl 0 (any_change * count pair.sides) y (omega (arith, l))

  park-less : (q : Pid) (w : ℕ) → may pair (Events.Park q w) ≡ true → Less (Events.Park q w)
  park-less q w m = go (served (h e).side.linux w).interrupted refl
    where
      e : Event
      e = Events.Park q w

      t : ℕ
      t = thread_served (h e).side w

      x : MayPark (h e) w
      x = may-park (h e) q w (allowed e m).1

      by-image : (b : Bool) → (served (h e).side.linux w).interrupted ≡ b → image pair e ≡ image_of_park b t
      by-image b f = ap (λ b. image_of_park b t) f

      present : at pair.sides q.0 ≡ Some (side_of pair q.0)
      present = has-side pair c.known q.0 (allowed e m).0

      -- the call is active in what is shown
      stops : image pair e ≡ Steps.Interrupted (tid t) ∷ [] → KernelPays k (one pair) (one (after pair e)) k.step 0
      stops i =
          let r = x.request in
          let own = thread-own pair c q.0 present w r.number r.call r.serving r.is in
          let active = is-active pair c q.0 present w r.number r.call r.serving r.is in
          let has = has-call pair c q.0 present w r.number r.call r.serving r.is in
          by-leads k pair e (shows e m) (Steps.Interrupted (tid t)) i k.step 0
          (interrupted-call k (one pair) (sound-shown pair c) (tid t) (λ y. true)
          (subst (λ (p : ℕ). is_active (one_here (one pair) p) t (λ y. true) ≡ true) (sym own) active)
          (subst (λ (p : ℕ). has_call (one_here (one pair) p) t ≡ true) (sym own) has))

      go : (b : Bool) → (served (h e).side.linux w).interrupted ≡ b → EventPays k pair e 1 0
      go true f =
          let y = stepped e m refl 0 (here_park_stops q.0 (h e) q w (few q.0) f) in
          let l = pays.step in
          both-parts e m 1 0 k.step 0 0 (any_change * count pair.sides) (stops (by-image true f)) y (omega (arith, l))
      go false f = plain e m 1 0 (Steps.Block (tid t)) (by-image false f) refl 1 0 (quiet e m refl 1 0 (here_park_blocks q.0 (h e) q w (allowed e m).1 f)) (omega arith)

  -- ---- whatever the event is
  pub event-less : (e : Event) → may pair e ≡ true → Less e
  event-less (Events.Run core t n) m = run-less core t n m
  event-less (Events.Trap t) m = trap-less t m
  event-less (Events.Deliver t) m = deliver-less t m
  event-less (Events.Intake q) m = intake-less q m
  event-less (Events.Answer q w) m = answer-less q w m
  event-less (Events.BeginVm t) m = silent (Events.BeginVm t) m 1 0 refl (one_side pair c (Events.BeginVm t) refl m) (omega arith)
  event-less (Events.Interrupt t) m = interrupt-less t m
  event-less (Events.Wait t) m = wait-less t m
  event-less (Events.Reap q) m = reap-less q m
  event-less (Events.Script line) m = script-less line m
  event-less (Events.Fetch q r) m = silent (Events.Fetch q r) m 1 0 refl (one_side pair c (Events.Fetch q r) refl m) (omega arith)
  event-less (Events.Assign q w) m = silent (Events.Assign q w) m 1 0 refl (one_side pair c (Events.Assign q w) refl m) (omega arith)
  event-less (Events.Miss q w) m = silent (Events.Miss q w) m 1 0 refl (one_side pair c (Events.Miss q w) refl m) (omega arith)
  event-less (Events.Pin q w) m = silent (Events.Pin q w) m 1 0 refl (one_side pair c (Events.Pin q w) refl m) (omega arith)
  event-less (Events.Copy q w) m = copy-less q w m
  event-less (Events.Unpin q w) m = silent (Events.Unpin q w) m 1 0 refl (one_side pair c (Events.Unpin q w) refl m) (omega arith)
  event-less (Events.Act q w) m = act-less q w m
  event-less (Events.Park q w) m = park-less q w m
  event-less (Events.Unpark q n) m = plain (Events.Unpark q n) m 1 0 (Steps.Wake (tid (thread_of_request (side_of pair q.0) n.0))) refl refl 1 0 (one_side pair c (Events.Unpark q n) refl m) (omega arith)
  event-less (Events.Finish q w) m = silent (Events.Finish q w) m 1 0 refl (one_side pair c (Events.Finish q w) refl m) (omega arith)
  event-less (Events.AckClear q) m = silent (Events.AckClear q) m 1 0 refl (one_side pair c (Events.AckClear q) refl m) (omega arith)
