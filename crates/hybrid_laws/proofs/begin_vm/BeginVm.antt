-- BeginVm keeps what holds of every process, and shows nothing.
use Rattle.hybrid_model.specs.declared.events.Event.TheVariants as Events
use Rattle.clear_rounds.specs.declared.Phase.TheVariants.{Posted as RoundPosted}
use Rattle.hybrid_laws.proofs.maps.Reading.{EachRing-map, EachRing-post, sum-post}
use Rattle.hybrid_laws.proofs.maps.Tests.{both, none-is, some-is}
use Rattle.hybrid_laws.proofs.node.Threads.{IsThread, thread-is}
use Rattle.hybrid_laws.proofs.requests.Showing.{has_empty-post, shown-same}
use Rattle.hybrid_laws.proofs.rings.Placing.{Marked-post, Messages-post}
use Rattle.hybrid_laws.proofs.states.Simulated.{simulated-none}
use Rattle.hybrid_laws.specs.Simulated.{Simulated}
use Rattle.hybrid_model.specs.Coherence.{OfProcess, Covered, Rounded, AnswerCovered, AnswerIsFor, ClearIsOf, IsOutside, NotAhead, answers_to, asks, clears, RequestIs, InterruptIs, goes_to_linux}
use Rattle.hybrid_model.specs.Events.{after_here, may_here}
use Rattle.hybrid_model.specs.BeginVm.{begin_round, begin_vm_of, may_begin_vm}
use Rattle.hybrid_model.specs.Pairs.{Here, ring_of}
use Rattle.hybrid_model.specs.Rings.{post}
use Rattle.hybrid_model.specs.Shown.{status_in, shown_own, reply_code, shown_born, shown_here}
use Rattle.hybrid_model.specs.Sides.{Side, Row, Round, call_in, no_service, state_in}
use Rattle.hybrid_model.specs.Tallies.{Reads}
use Rattle.ikc_ring.specs.declared.Msg.TheVariants.{Request, Clear, Answer, Interrupt, Reply, Ack, Fault}
use Rattle.ikc_ring.specs.declared.Msg.{Msg}
use Rattle.kernel_model.specs.MemoryCalls.{closing_range}
use Rattle.kernel_model.specs.Nodes.{Node, Thread, process_of, change_in, is_living, thread_of}
use Rattle.kernel_model.specs.declared.Change.{Change}
use Rattle.kernel_model.specs.declared.Does.TheVariants.{InVm, Asleep, Called, InWait, Ready, Stopped}
use Rattle.kernel_model.specs.declared.Does.{Does}
use Rattle.mck_word.specs.Maps.{Map, at}
use Rattle.mck_word.specs.declared.PageRange.{PageRange}
use Rattle.mck_word.specs.declared.Tid.{Tid}
use Rattle.page_pins.specs.declared.Pin.{Pin}
use Rattle.std.proofs.Common.{ap, arith, refl, subst, sym, ◌∙◌}
use Rattle.std.specs.Prelude.{List, None, Option, Some, unwrap_or, ℕ, ◌+◌, ◌≡◌, is_none, is_some, length, true, ◌&&◌}

module _ (table mirror : Reads Row) (pins : Reads Pin) (begun cleared r : ℕ) (range : PageRange) (rings : List (List Msg)) (bs : List Msg) where
  ahead : (m : Msg) → NotAhead begun m → NotAhead (begun + 1) m
  ahead (Answer w i n row) h = omega (arith, h)
  ahead (Request c) h = tt
  ahead (Clear x) h = tt
  ahead (Interrupt n place) h = tt
  ahead (Reply n code) h = tt
  ahead Ack h = tt
  ahead (Fault w i a) h = tt

  pub covered-begin : Covered table mirror pins begun cleared rings → Covered table mirror pins (begun + 1) cleared (post r (Clear range) rings)
  covered-begin c = record {
    mirror_rows = c.mirror_rows;
    answers = EachRing-post (AnswerCovered table cleared) r (Clear range) rings c.answers tt;
    not_ahead = EachRing-post (NotAhead (begun + 1)) r (Clear range) rings (EachRing-map (NotAhead begun) (NotAhead (begun + 1)) rings ahead c.not_ahead) tt;
    pin_rows = c.pin_rows;
  }

  abbrev new : Option Round
  new = Some (RoundPosted, range)

  no-clear : (m : Msg) → ClearIsOf None m → ClearIsOf new m
  no-clear (Clear x) h = absurd h
  no-clear (Answer w i n row) h = tt
  no-clear (Request c) h = tt
  no-clear (Interrupt n place) h = tt
  no-clear (Reply n code) h = tt
  no-clear Ack h = tt
  no-clear (Fault w i a) h = tt

  outside : (m : Msg) → NotAhead begun m → IsOutside new (begun + 1) m
  outside (Answer w i n (Some row)) h = λ e. absurd (omega (arith, h, e))
  outside (Answer w i n None) h = tt
  outside (Clear x) h = tt
  outside (Request c) h = tt
  outside (Interrupt n place) h = tt
  outside (Reply n code) h = tt
  outside Ack h = tt
  outside (Fault w i a) h = tt

  pub rounded-begin : Covered table mirror pins begun cleared rings → Rounded None mirror pins begun cleared rings bs → Rounded new mirror pins (begun + 1) cleared (post r (Clear range) rings) bs
  rounded-begin c d = record {
    clears_are = omega (arith, sum-post clears r (Clear range) rings, d.clears_are);
    acks_are = d.acks_are;
    clear_of = EachRing-post (ClearIsOf new) r (Clear range) rings (EachRing-map (ClearIsOf None) (ClearIsOf new) rings no-clear d.clear_of) (refl, refl);
    fetched = omega (arith, d.fetched);
    outside = EachRing-post (IsOutside new (begun + 1)) r (Clear range) rings (EachRing-map (NotAhead begun) (IsOutside new (begun + 1)) rings outside c.not_ahead) tt;
    mirror_outside = λ i k. absurd (grind (arith, k));
    pins_outside = λ w x e. refl;
  }

module _ (p : ℕ) (side : Side) (node : Node) (workers : ℕ) (ring : ℕ → ℕ) (h : OfProcess p side node workers ring) (t : ℕ) (x : Thread) (c : Change) (there : at node.threads t ≡ Some x) (own : x.process ≡ p) (does : x.does ≡ InVm c) (none : side.round ≡ None) where
  abbrev range : PageRange
  range = closing_range (process_of node p) c

  pub keeps_begin_round : OfProcess p (begin_round (ring t) t range side) node workers ring
  unfolding begin_round
  keeps_begin_round =
      let s = h.served in
      record {
        covered = covered-begin (at side.lwk.table) (at side.linux.mirror) (at side.linux.pins) side.lwk.begun side.linux.cleared (ring t) range side.to_linux side.to_lwk h.covered;
        rounded = rounded-begin (at side.lwk.table) (at side.linux.mirror) (at side.linux.pins) side.lwk.begun side.linux.cleared (ring t) range side.to_linux side.to_lwk h.covered (rw none at h.rounded);
        owned = record { thread = x; there = there; own = own; change = c; does = does; range_is = refl };
        served = record {
          worker_below = s.worker_below;
          requests = λ q. omega (arith, sum-post (asks q) (ring t) (Clear range) side.to_linux, s.requests q);
          waits = s.waits;
          known = s.known;
          workers_hold = s.workers_hold;
          held_by = s.held_by;
          faults = λ w. omega (arith, sum-post (answers_to w) (ring t) (Clear range) side.to_linux, s.faults w);
          fault_for = s.fault_for;
          noted_for = s.noted_for;
          answer_for = EachRing-post (AnswerIsFor (at side.linux.workers) (at side.linux.services)) (ring t) (Clear range) side.to_linux s.answer_for tt;
          pins_serve = s.pins_serve;
        };
        answered = h.answered;
        calls = h.calls;
        asked = EachRing-post (RequestIs (at side.book.rows)) (ring t) (Clear range) side.to_linux h.asked tt;
        interrupts = EachRing-post (InterruptIs side.book.next (at side.book.rows) (at node.threads)) (ring t) (Clear range) side.to_linux h.interrupts tt;
        directions = record { to_linux = EachRing-post (λ m. goes_to_linux m ≡ true) (ring t) (Clear range) side.to_linux h.directions.to_linux refl; to_lwk = h.directions.to_lwk };
        messages = Messages-post (at side.book.rows) (at node.threads) ring (at side.lwk.callers) (Clear range) (λ threads k. refl) (λ k. tt) (ring t) side.to_linux h.messages;
        marked = Marked-post (at side.linux.services) (at side.lwk.callers) (ring t) (Clear range) side.to_linux (λ q. refl) h.marked;
      }

pub image_begin_vm : (frames : Map (List ℕ)) (side : Side) (r t : ℕ) (range : PageRange) → shown_own frames (begin_round r t range side) ≡ shown_own frames side
unfolding begin_round
image_begin_vm frames side r t range =
    let side' : Side = record side { lwk = record side.lwk { begun = side.lwk.begun + 1; changing = Some t }; round = Some (RoundPosted, range); to_linux = post r (Clear range) side.to_linux } in
    shown-same frames side side' refl refl (λ u c e. ap (λ b. status_in (state_in (at side.book.rows c.request)) (call_in (at side.book.rows c.request)) (unwrap_or (at side.linux.services c.request) no_service) b (reply_code c.request side.to_lwk)) (has_empty-post (at side.linux.workers) c.request r (Clear range) side.to_linux refl))

-- ---- from the test
pub change-is : (d : Does) (c : Change) → change_in d ≡ Some c → d ≡ InVm c
change-is (InVm x) c e = ap InVm (let f : x ≡ c = cc in f)
change-is (Stopped x) c e = absurd (grind (arith, e))
change-is Ready c e = absurd (grind (arith, e))
change-is Called c e = absurd (grind (arith, e))
change-is (Asleep x) c e = absurd (grind (arith, e))
change-is (InWait x y) c e = absurd (grind (arith, e))

pub record MayBegin (t : ℕ) (h : Here) : Type 0 where
  pub thread : Thread
  pub there : IsThread h.node t thread
  pub change : Change
  pub does : thread.does ≡ InVm change
  pub none : h.side.round ≡ None

pub may-begin : (t : ℕ) (h : Here) → may_begin_vm t h ≡ true → MayBegin t h
may-begin t h e =
    let x = thread_of h.node t in
    let a = both (is_some (at h.node.threads t) && is_some (change_in x.does) && is_living h.node x.process) (is_none h.side.round) e in
    let b = both (is_some (at h.node.threads t) && is_some (change_in x.does)) (is_living h.node x.process) a.0 in
    let c = both (is_some (at h.node.threads t)) (is_some (change_in x.does)) b.0 in
    let y = some-is (at h.node.threads t) c.0 in
    let d = some-is (change_in x.does) c.1 in
    record { thread = y.0; there = y.1; change = d.0; does = change-is y.0.does d.0 (ap (λ (z : Thread). change_in z.does) (sym (thread-is h.node t y.0 y.1)) ∙ d.1); none = none-is h.side.round a.1 }

module _ (p : ℕ) (t : Tid) (h : Here) (m : may_here (Events.BeginVm t) h ≡ true) (mine : (thread_of h.node t.0).process ≡ p) where
  abbrev w : MayBegin t.0 h
  w = may-begin t.0 h m

  change-here : change_in (thread_of h.node t.0).does ≡ Some w.change
  change-here = ap (λ (z : Thread). change_in z.does) (thread-is h.node t.0 w.thread w.there) ∙ ap change_in w.does

  pub keeps_begin_vm : (workers : ℕ) → OfProcess p h.side h.node workers (ring_of h) → OfProcess p (after_here (Events.BeginVm t) p h).side (after_here (Events.BeginVm t) p h).node workers (ring_of h)
  keeps_begin_vm workers k = subst (λ (o : Option Change). OfProcess p (begin_vm_of p t.0 o h).side (begin_vm_of p t.0 o h).node workers (ring_of h)) (sym change-here)
      (keeps_begin_round p h.side h.node workers (ring_of h) k t.0 w.thread w.change w.there (sym (ap (λ (z : Thread). z.process) (thread-is h.node t.0 w.thread w.there)) ∙ mine) w.does w.none)

  pub others_begin_vm : (q : ℕ) (side : Side) (workers : ℕ) (ring : ℕ → ℕ) → OfProcess q side h.node workers ring → OfProcess q side (after_here (Events.BeginVm t) p h).node workers ring
  others_begin_vm q side workers ring k = subst (λ (o : Option Change). OfProcess q side (begin_vm_of p t.0 o h).node workers ring) (sym change-here) k

  pub simulated_begin_vm : Simulated (Events.BeginVm t) p h
  simulated_begin_vm = simulated-none (Events.BeginVm t) p h refl
      (ap (λ (o : Option Change). shown_here (begin_vm_of p t.0 o h)) change-here
      ∙ (let s = image_begin_vm h.frames h.side (ring_of h t.0) t.0 (closing_range (process_of h.node p) w.change) in λ i. record { own = s i; node = h.node; free = length h.free; born = shown_born h.frames h.born }))
