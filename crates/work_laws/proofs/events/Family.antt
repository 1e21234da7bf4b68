-- The events that change one process's requests, messages, pins and round alone: each lessens the work and leaves the node as it was.
use Rattle.hybrid_model.specs.declared.events.Event.TheVariants as Events
use Rattle.hybrid_laws.proofs.maps.Tests.{both}
use Rattle.hybrid_model.specs.Coherence.{OfProcess}
use Rattle.hybrid_model.specs.Events.{may, may_here, process_of_event}
use Rattle.hybrid_model.specs.Globals.{Coherent, ring_number}
use Rattle.hybrid_model.specs.Pairs.{Pair, here, side_of}
use Rattle.hybrid_model.specs.declared.events.Event.{Event}
use Rattle.kernel_model.specs.Nodes.{is_there}
use Rattle.std.proofs.Common.{arith, refl}
use Rattle.std.specs.Prelude.{Bool, false, true, ◌≡◌, ℕ}
use Rattle.work_laws.proofs.events.AckClear.{here_ack_clear}
use Rattle.work_laws.proofs.events.Assign.{here_assign}
use Rattle.work_laws.proofs.events.BeginVm.{here_begin_vm}
use Rattle.work_laws.proofs.events.Finish.{here_finish}
use Rattle.work_laws.proofs.events.Miss.{here_miss}
use Rattle.work_laws.proofs.events.Pin.{here_pin}
use Rattle.work_laws.proofs.events.Unpark.{here_unpark}
use Rattle.work_laws.proofs.events.Unpin.{here_unpin}
use Rattle.work_laws.proofs.fetch.Fetch.{here_fetch}
use Rattle.work_laws.proofs.sides.Many.{few-answers, few-requests}
use Rattle.work_laws.proofs.sides.Wholes.{HerePays, SidesPay, is_trap, pays-quiet}

abbrev pub changes_one_side : Event → Bool
changes_one_side (Events.Assign q w) = true
changes_one_side (Events.Miss q w) = true
changes_one_side (Events.Pin q w) = true
changes_one_side (Events.Unpin q w) = true
changes_one_side (Events.Unpark q n) = true
changes_one_side (Events.Finish q w) = true
changes_one_side (Events.AckClear q) = true
changes_one_side (Events.BeginVm t) = true
changes_one_side (Events.Fetch q r) = true
changes_one_side _ = false

module _ (pair : Pair) (c : Coherent pair) where
  abbrev process : Event → ℕ
  process e = process_of_event pair.node e

  there : (e : Event) → may pair e ≡ true → is_there pair.node (process e) ≡ true
  there e m = let a = both (is_there pair.node (process e)) (may_here e (here pair (process e))) m in a.0

  allowed : (e : Event) → may pair e ≡ true → may_here e (here pair (process e)) ≡ true
  allowed e m = let a = both (is_there pair.node (process e)) (may_here e (here pair (process e))) m in a.1

  whole : (e : Event) → OfProcess (process e) (here pair (process e)).side pair.node pair.workers (ring_number pair)
  whole e = c.whole (process e)

  in_all : (e : Event) → may pair e ≡ true → is_trap e ≡ false → HerePays (process e) e (here pair (process e)) 1 0 → SidesPay pair e 1 0
  in_all e m n = pays-quiet pair c e (there e m) n 1 0

  pub one_side : (e : Event) → changes_one_side e ≡ true → may pair e ≡ true → SidesPay pair e 1 0
  one_side (Events.Assign q w) f m = let e = Events.Assign q w in in_all e m refl (here_assign q.0 (here pair q.0) (ring_number pair) (whole e) q w (allowed e m))
  one_side (Events.Miss q w) f m = let e = Events.Miss q w in in_all e m refl (here_miss q.0 (here pair q.0) (ring_number pair) (whole e) q w (allowed e m))
  one_side (Events.Pin q w) f m = let e = Events.Pin q w in in_all e m refl (here_pin q.0 (here pair q.0) (ring_number pair) (whole e) q w (allowed e m))
  one_side (Events.Unpin q w) f m = let e = Events.Unpin q w in in_all e m refl (here_unpin q.0 (here pair q.0) (ring_number pair) (whole e) q w (allowed e m))
  one_side (Events.Unpark q n) f m = let e = Events.Unpark q n in in_all e m refl (here_unpark q.0 (here pair q.0) n (allowed e m))
  one_side (Events.Finish q w) f m = let e = Events.Finish q w in in_all e m refl (here_finish q.0 (here pair q.0) q w (allowed e m))
  one_side (Events.AckClear q) f m = let e = Events.AckClear q in in_all e m refl (here_ack_clear q.0 (here pair q.0) q (allowed e m))
  one_side (Events.BeginVm t) f m = let e = Events.BeginVm t in in_all e m refl (here_begin_vm (process e) (here pair (process e)) t (allowed e m))
  one_side (Events.Run core t n) f m = absurd (grind (arith, f))
  one_side (Events.Trap t) f m = absurd (grind (arith, f))
  one_side (Events.Deliver t) f m = absurd (grind (arith, f))
  one_side (Events.Intake q) f m = absurd (grind (arith, f))
  one_side (Events.Answer q w) f m = absurd (grind (arith, f))
  one_side (Events.Interrupt t) f m = absurd (grind (arith, f))
  one_side (Events.Wait t) f m = absurd (grind (arith, f))
  one_side (Events.Reap q) f m = absurd (grind (arith, f))
  one_side (Events.Script i) f m = absurd (grind (arith, f))
  one_side (Events.Fetch q r) f m =
      let e = Events.Fetch q r in
      let s = side_of pair q.0 in
      let few = few-requests q.0 s pair.node pair.workers (ring_number pair) (whole e) c.places in
      let few_answers = few-answers q.0 s pair.node pair.workers (ring_number pair) (whole e) c.places in
      in_all e m refl (here_fetch q.0 (here pair q.0) (ring_number pair) (whole e) few few_answers q r (allowed e m))
  one_side (Events.Copy q w) f m = absurd (grind (arith, f))
  one_side (Events.Act q w) f m = absurd (grind (arith, f))
  one_side (Events.Park q w) f m = absurd (grind (arith, f))
