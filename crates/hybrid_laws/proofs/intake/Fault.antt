-- Intake of a Fault keeps what holds of the process, and shows nothing.
use Rattle.hybrid_model.specs.declared.events.Event.TheVariants as Events
use Rattle.hybrid_laws.proofs.maps.Reading.{reads-put}
use Rattle.hybrid_laws.proofs.requests.Showing.{shown-same}
use Rattle.hybrid_laws.proofs.states.Simulated.{simulated-none}
use Rattle.hybrid_laws.specs.Simulated.{Simulated}
use Rattle.hybrid_model.specs.Coherence.{Answered, Directions, IsForNext, OfProcess, Rounded, Served, faulting, is_faulted, replies_to, state_at}
use Rattle.hybrid_model.specs.Events.{after_here}
use Rattle.hybrid_model.specs.Intake.{image_of_intake}
use Rattle.hybrid_model.specs.Intake.{intake, take_fault}
use Rattle.hybrid_model.specs.Pairs.{Here}
use Rattle.hybrid_model.specs.Shown.{shown_born, shown_here}
use Rattle.hybrid_model.specs.Sides.{Caller, Noted, Service, Side}
use Rattle.hybrid_model.specs.Tallies.{Reads, with_at}
use Rattle.ikc_ring.specs.declared.CallRequest.{CallRequest}
use Rattle.ikc_ring.specs.declared.Msg.TheVariants.{Fault}
use Rattle.ikc_ring.specs.declared.Msg.{Msg}
use Rattle.mck_word.specs.Identifiers.{pid}
use Rattle.mck_word.specs.Maps.{at, put}
use Rattle.mck_word.specs.declared.Access.{Access}
use Rattle.page_pins.specs.declared.Pin.{Pin}
use Rattle.request_book.specs.declared.ReqState.TheVariants.{Faulted, Held, Parked, Posted, Replied, Waiting, Ended}
use Rattle.request_book.specs.declared.ReqState.{ReqState}
use Rattle.std.proofs.Common.{ap, arith, refl, subst, sym, ◌∙◌}
use Rattle.std.proofs.lemmas.Bool.Decides.{nat_tests}
use Rattle.std.specs.Prelude.{Bool, List, None, Option, Some, false, if◌then◌else◌, length, true, ℕ, ◌==◌, ◌∷◌, ◌≡◌, ◌≤◌}

-- a message that is no Reply is taken
pub Answered-pop : (rows : Reads (ReqState × CallRequest)) (callers : Reads Caller) (next : ℕ) (m : Msg) (bs : List Msg) → ((q : ℕ) → replies_to q m ≡ 0) → Answered rows callers next (m ∷ bs) → Answered rows callers next bs
Answered-pop rows callers next m bs none a = record {
  awaited = a.awaited.1;
  calls = λ t c e. let k = a.calls t c e in record { given = k.given; named = k.named; replied = λ u. omega (arith, k.replied u, none c.request) };
  alone = a.alone;
  live = a.live;
  replies = λ q. omega (arith, a.replies q);
  fresh = a.fresh;
  not_replied = a.not_replied;
}

-- a worker's request is Faulted or not
pub at-most : (rows : Reads (ReqState × CallRequest)) (o : Option ℕ) → faulting rows o ≤ 1
at-most rows None = omega arith
at-most rows (Some q) = go (state_at rows q)
  where
    go : (x : ReqState) → is_faulted x ≤ 1
    go Posted = omega arith
    go Waiting = omega arith
    go Held = omega arith
    go Parked = omega arith
    go Faulted = omega arith
    go Ended = omega arith
    go Replied = omega arith

module _ (worker_count : ℕ) (workers : Reads ℕ) (rows : Reads (ReqState × CallRequest)) (services : Reads Service) (pins : Reads Pin) (waiting : List ℕ) (noted : Reads Noted) (rings : List (List Msg)) (bs : List Msg) (w page : ℕ) (a : Access) (s : Served worker_count workers rows services pins waiting noted rings (Fault w page a ∷ bs)) where
  pub served_fault : Served worker_count workers rows services pins waiting (with_at noted w (Some (page, a))) rings bs
  served_fault = record {
    worker_below = s.worker_below;
    requests = s.requests;
    waits = s.waits;
    known = s.known;
    workers_hold = s.workers_hold;
    held_by = s.held_by;
    faults = λ v. (let f = s.faults v in let m = at-most rows (workers v) in grind (arith, nat_tests, f, m));
    fault_for = s.fault_for.1;
    noted_for = λ v n e. note (v == w) v n refl e;
    answer_for = s.answer_for;
    pins_serve = s.pins_serve;
  }
    where
      note : (b : Bool) (v : ℕ) (n : Noted) → (v == w) ≡ b → (if b then Some (page, a) else noted v) ≡ Some n → IsForNext workers services v n.0 n.1
      note false v n f e = s.noted_for v n e
      note true v n f e =
          let g : (page, a) ≡ n = cc in
          let v' : w ≡ v = grind (arith, nat_tests, f) in
          subst (λ (x : Noted). IsForNext workers services v x.0 x.1) g (subst (λ (x : ℕ). IsForNext workers services x page a) v' s.fault_for.0)

module _ (p : ℕ) (h : Here) (w page : ℕ) (a : Access) (rest : List Msg) (first : h.side.to_lwk ≡ Fault w page a ∷ rest) where
  pub keeps_fault : (workers : ℕ) (ring : ℕ → ℕ) → OfProcess p h.side h.node workers ring → OfProcess p (take_fault w page a rest h).side (take_fault w page a rest h).node workers ring
  unfolding take_fault
  keeps_fault workers ring k =
      let b = reads-put h.side.lwk.noted w (page, a) in
      let r : Rounded h.side.round (at h.side.linux.mirror) (at h.side.linux.pins) h.side.lwk.begun h.side.linux.cleared h.side.to_linux (Fault w page a ∷ rest) = rw first at k.rounded in
      let s : Served workers (at h.side.linux.workers) (at h.side.book.rows) (at h.side.linux.services) (at h.side.linux.pins) h.side.book.waiting (at h.side.lwk.noted) h.side.to_linux (Fault w page a ∷ rest) = rw first at k.served in
      let d : Directions h.side.to_linux (Fault w page a ∷ rest) = rw first at k.directions in
      record {
        covered = k.covered;
        rounded = record { clears_are = r.clears_are; acks_are = omega (arith, r.acks_are); clear_of = r.clear_of; fetched = r.fetched; outside = r.outside; mirror_outside = r.mirror_outside; pins_outside = r.pins_outside };
        owned = k.owned;
        served = rw b (served_fault workers (at h.side.linux.workers) (at h.side.book.rows) (at h.side.linux.services) (at h.side.linux.pins) h.side.book.waiting (at h.side.lwk.noted) h.side.to_linux rest w page a s);
        answered = Answered-pop (at h.side.book.rows) (at h.side.lwk.callers) h.side.book.next (Fault w page a) rest (λ q. refl) (rw first at k.answered);
        calls = k.calls;
        asked = k.asked;
        interrupts = k.interrupts;
        directions = record { to_linux = d.to_linux; to_lwk = d.to_lwk.1 };
        messages = k.messages;
        marked = k.marked;
      }

  pub keeps_intake_fault : (workers : ℕ) (ring : ℕ → ℕ) → OfProcess p h.side h.node workers ring → OfProcess p (after_here (Events.Intake (pid p)) p h).side (after_here (Events.Intake (pid p)) p h).node workers ring
  keeps_intake_fault workers ring k = subst (λ (ms : List Msg). OfProcess p (intake p ms h).side (intake p ms h).node workers ring) (sym first) (keeps_fault workers ring k)

  pub others_intake_fault : (q : ℕ) (side : Side) (workers : ℕ) (ring : ℕ → ℕ) → OfProcess q side h.node workers ring → OfProcess q side (after_here (Events.Intake (pid p)) p h).node workers ring
  unfolding take_fault
  others_intake_fault q side workers ring k = subst (λ (ms : List Msg). OfProcess q side (intake p ms h).node workers ring) (sym first) k

  pub shows_fault : shown_here (take_fault w page a rest h) ≡ shown_here h
  unfolding take_fault
  shows_fault =
      let side' : Side = record h.side { lwk = record h.side.lwk { noted = put h.side.lwk.noted w (page, a) }; to_lwk = rest } in
      let s = shown-same h.frames h.side side' refl refl (λ t c e. rw first refl) in
      λ i. record { own = s i; node = h.node; free = length h.free; born = shown_born h.frames h.born }

  pub simulated_fault : Simulated (Events.Intake (pid p)) p h
  simulated_fault = simulated-none (Events.Intake (pid p)) p h (ap (λ (ms : List Msg). image_of_intake ms h.side) first) (ap (λ (ms : List Msg). shown_here (intake p ms h)) first ∙ shows_fault)
