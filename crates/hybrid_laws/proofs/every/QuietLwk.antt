-- Events of the lightweight kernel that give no page a frame, whole: coherence, simulation, no frame handed out.
use Rattle.hybrid_model.specs.declared.events.Event.TheVariants as Events
use Rattle.hybrid_laws.proofs.answer.WholeEmpty.{coherent_answer_empty, simulated_pair_answer_empty}
use Rattle.hybrid_laws.proofs.answer.WholeRow.{coherent_answer_row, simulated_pair_answer_row}
use Rattle.hybrid_laws.proofs.begin_vm.Whole.{coherent_begin_vm, simulated_pair_begin_vm}
use Rattle.hybrid_laws.proofs.deliver.Whole.{coherent_deliver, simulated_pair_deliver}
use Rattle.hybrid_laws.proofs.every.Linux.{none-handed, tables-stay}
use Rattle.hybrid_laws.proofs.intake.Intake.{by-message}
use Rattle.hybrid_laws.proofs.intake.WholeAck.{coherent_intake_ack, simulated_pair_ack}
use Rattle.hybrid_laws.proofs.intake.WholeFault.{coherent_intake_fault, simulated_pair_fault}
use Rattle.hybrid_laws.proofs.intake.WholeReply.{coherent_intake_reply, simulated_pair_reply}
use Rattle.hybrid_laws.proofs.interrupt.Whole.{coherent_interrupt, simulated_pair_interrupt}
use Rattle.hybrid_laws.proofs.maps.Tests.{both}
use Rattle.hybrid_laws.proofs.reap.Whole.{coherent_reap, simulated_pair_reap}
use Rattle.hybrid_laws.proofs.run.Whole.{coherent_run}
use Rattle.hybrid_laws.proofs.run.WholeSteps.{simulated_pair_run}
use Rattle.hybrid_laws.proofs.script.Whole.{coherent_script, simulated_pair_script}
use Rattle.hybrid_laws.proofs.states.Steps.{SimulatedPair}
use Rattle.hybrid_laws.proofs.wait.Whole.{coherent_wait, simulated_pair_wait}
use Rattle.hybrid_laws.specs.EventKinds.{is_quiet_lwk}
use Rattle.hybrid_model.specs.Claims.{HandsOutFresh, Holds}
use Rattle.hybrid_model.specs.Events.{after, after_here, may, may_here, process_of_event}
use Rattle.hybrid_model.specs.Globals.{Coherent, table_of}
use Rattle.hybrid_model.specs.Answer.{answer_to, post_answer}
use Rattle.hybrid_model.specs.BeginVm.{begin_round, begin_vm_of}
use Rattle.hybrid_model.specs.Deliver.{after_deliver}
use Rattle.hybrid_model.specs.Interrupt.{interrupt_as, is_calling, post_interrupt}
use Rattle.hybrid_model.specs.Reap.{emptied, reap}
use Rattle.hybrid_model.specs.Run.{run}
use Rattle.hybrid_model.specs.Pairs.{Here, Pair, here, side_of}
use Rattle.hybrid_model.specs.Sides.{Row, Side, new_side}
use Rattle.hybrid_model.specs.declared.events.Event.{Event}
use Rattle.ikc_ring.specs.declared.Msg.{Msg}
use Rattle.isa_model.specs.Table.{row}
use Rattle.kernel_model.specs.Nodes.{change_in, is_there, thread_of}
use Rattle.kernel_model.specs.declared.Change.{Change}
use Rattle.mck_word.specs.MapLaws.{at-none, at-put}
use Rattle.mck_word.specs.Maps.{at}
use Rattle.mck_word.specs.declared.Pid.{Pid}
use Rattle.mck_word.specs.declared.Tid.{Tid}
use Rattle.std.proofs.Common.{ap, arith, refl, sym, ◌∙◌}
use Rattle.std.proofs.lemmas.Bool.Decides.{nat_tests}
use Rattle.std.specs.Prelude.{Bool, List, None, Option, Some, [], false, length, true, ℕ, ◌≡◌, cond, unwrap_or, ◌==◌}

begun-table : (p t : ℕ) (o : Option Change) (h : Here) → ((begin_vm_of p t o h).side.lwk.table ≡ h.side.lwk.table) × ((begin_vm_of p t o h).born ≡ h.born)
unfolding begin_round
begun-table p t None h = (refl, refl)
begun-table p t (Some c) h = (refl, refl)

interrupted-table : (b : Bool) (t : ℕ) (h : Here) → ((interrupt_as b t h).side.lwk.table ≡ h.side.lwk.table) × ((interrupt_as b t h).born ≡ h.born)
unfolding post_interrupt
interrupted-table true t h = (refl, refl)
interrupted-table false t h = (refl, refl)

module _ (pair : Pair) (c : Coherent pair) where
  handed : (e : Event) → let p = process_of_event pair.node e in let y = after_here e p (here pair p) in (y.side.lwk.table ≡ (side_of pair p).lwk.table) → (y.born ≡ None) → HandsOutFresh pair e
  handed e a b = let p = process_of_event pair.node e in none-handed pair e (tables-stay pair c p (after_here e p (here pair p)) a b)

  run-handed : (core n : ℕ) (t : Tid) → HandsOutFresh pair (Events.Run core t n)
  unfolding run
  run-handed core n t = handed (Events.Run core t n) refl refl

  deliver-handed : (t : Tid) → HandsOutFresh pair (Events.Deliver t)
  unfolding after_deliver
  deliver-handed t = handed (Events.Deliver t) refl refl

  answer-handed : (q : Pid) (w : ℕ) → HandsOutFresh pair (Events.Answer q w)
  unfolding post_answer
  answer-handed q w = handed (Events.Answer q w) refl refl

  answered : (q : Pid) (w : ℕ) → may pair (Events.Answer q w) ≡ true → (o : Option Row) → answer_to (side_of pair q.0) w ≡ o → Coherent (after pair (Events.Answer q w)) × SimulatedPair pair (Events.Answer q w)
  answered q w m (Some row) f = (coherent_answer_row pair c q w m row f, simulated_pair_answer_row pair c q w m row f)
  answered q w m None f = (coherent_answer_empty pair c q w m f, simulated_pair_answer_empty pair c q w m f)

  -- an event that only takes rows away hands out nothing
  reap-handed : (q : Pid) → HandsOutFresh pair (Events.Reap q)
  unfolding reap
  reap-handed q x i f h = absurd (h.new h.row (go (x == q.0) (sym (ap (λ (o : Option Side). at (unwrap_or o (new_side 0)).lwk.table i) (at-put pair.sides q.0 (emptied (side_of pair q.0)) x)) ∙ h.there)) h.frame)
    where
      go : (b : Bool) → at (unwrap_or (cond b (Some (emptied (side_of pair q.0))) (at pair.sides x)) (new_side 0)).lwk.table i ≡ Some h.row → table_of pair x i ≡ Some h.row
      go false e = e
      go true e = absurd (let a = sym (at-none {V = Row} i) ∙ e in grind (arith, a))

  pub holds_quiet_lwk : (e : Event) → is_quiet_lwk e ≡ true → may pair e ≡ true → Holds pair e
  holds_quiet_lwk (Events.Run core t n) l m = record { coherent = coherent_run pair c core n t m; simulated = simulated_pair_run pair c core n t m; copies = tt; handed_out = run-handed core n t }
  holds_quiet_lwk (Events.Deliver t) l m = record { coherent = coherent_deliver pair c t m; simulated = simulated_pair_deliver pair c t m; copies = tt; handed_out = deliver-handed t }
  holds_quiet_lwk (Events.BeginVm t) l m =
      let b = begun-table (thread_of pair.node t.0).process t.0 (change_in (thread_of pair.node t.0).does) (here pair (thread_of pair.node t.0).process) in
      record { coherent = coherent_begin_vm pair c t m; simulated = simulated_pair_begin_vm pair c t m; copies = tt; handed_out = handed (Events.BeginVm t) b.0 b.1 }
  holds_quiet_lwk (Events.Interrupt t) l m =
      let b = interrupted-table (is_calling (side_of pair (thread_of pair.node t.0).process) t.0) t.0 (here pair (thread_of pair.node t.0).process) in
      record { coherent = coherent_interrupt pair c t m; simulated = simulated_pair_interrupt pair c t m; copies = tt; handed_out = handed (Events.Interrupt t) b.0 b.1 }
  holds_quiet_lwk (Events.Wait t) l m = record { coherent = coherent_wait pair c t m; simulated = simulated_pair_wait pair c t m; copies = tt; handed_out = handed (Events.Wait t) refl refl }
  holds_quiet_lwk (Events.Script i) l m = record { coherent = coherent_script pair c i m; simulated = simulated_pair_script pair c i m; copies = tt; handed_out = handed (Events.Script i) refl refl }
  holds_quiet_lwk (Events.Trap t) l m = absurd (grind (arith, l))
  holds_quiet_lwk (Events.Intake q) l m = absurd (grind (arith, l))
  holds_quiet_lwk (Events.Answer q w) l m = (let b = answered q w m (answer_to (side_of pair q.0) w) refl in record { coherent = b.0; simulated = b.1; copies = tt; handed_out = answer-handed q w })
  holds_quiet_lwk (Events.Reap q) l m = record { coherent = coherent_reap pair c q m; simulated = simulated_pair_reap pair c q m; copies = tt; handed_out = reap-handed q }
  holds_quiet_lwk (Events.Fetch q r) l m = absurd (grind (arith, l))
  holds_quiet_lwk (Events.Assign q w) l m = absurd (grind (arith, l))
  holds_quiet_lwk (Events.Miss q w) l m = absurd (grind (arith, l))
  holds_quiet_lwk (Events.Pin q w) l m = absurd (grind (arith, l))
  holds_quiet_lwk (Events.Copy q w) l m = absurd (grind (arith, l))
  holds_quiet_lwk (Events.Unpin q w) l m = absurd (grind (arith, l))
  holds_quiet_lwk (Events.Act q w) l m = absurd (grind (arith, l))
  holds_quiet_lwk (Events.Park q w) l m = absurd (grind (arith, l))
  holds_quiet_lwk (Events.Unpark q n) l m = absurd (grind (arith, l))
  holds_quiet_lwk (Events.Finish q w) l m = absurd (grind (arith, l))
  holds_quiet_lwk (Events.AckClear q) l m = absurd (grind (arith, l))

  -- ---- Intake, whatever message is taken
  module _ (q : Pid) (m : may pair (Events.Intake q) ≡ true) where
    there : is_there pair.node q.0 ≡ true
    there = (both (is_there pair.node q.0) (may_here (Events.Intake q) (here pair q.0)) m).0

    allowed : may_here (Events.Intake q) (here pair q.0) ≡ true
    allowed = (both (is_there pair.node q.0) (may_here (Events.Intake q) (here pair q.0)) m).1

    not-empty : (side_of pair q.0).to_lwk ≡ [] → ⊥
    not-empty e = let n = ap (λ (ms : List Msg). length ms) e in grind (arith, nat_tests, allowed, n)

    pub coherent_intake : Coherent (after pair (Events.Intake q))
    coherent_intake = by-message (side_of pair q.0).to_lwk (Coherent (after pair (Events.Intake q))) (λ e. absurd (not-empty e))
        (λ n code rest e. coherent_intake_reply pair c q there n code rest e) (λ rest e. coherent_intake_ack pair c q there rest e) (λ w page a rest e. coherent_intake_fault pair c q there w page a rest e) (c.whole q.0).directions.to_lwk

    pub simulated_pair_intake : SimulatedPair pair (Events.Intake q)
    simulated_pair_intake = by-message (side_of pair q.0).to_lwk (SimulatedPair pair (Events.Intake q)) (λ e. absurd (not-empty e))
        (λ n code rest e. simulated_pair_reply pair c q there n code rest e) (λ rest e. simulated_pair_ack pair c q there rest e) (λ w page a rest e. simulated_pair_fault pair c q there w page a rest e) (c.whole q.0).directions.to_lwk
