-- Answer keeps what holds of every process, with a row or without.
use Rattle.hybrid_model.specs.declared.events.Event.TheVariants as Events
use Rattle.hybrid_laws.proofs.maps.Reading.{EachRing-post, reads-cut, sum-post}
use Rattle.hybrid_laws.proofs.maps.Tests.{both, not-true}
use Rattle.hybrid_laws.proofs.rings.Placing.{Marked-post, Messages-post}
use Rattle.hybrid_model.specs.Coherence.{AnswerCovered, AnswerIsFor, ClearIsOf, Covered, InterruptIs, IsForNext, IsOutside, NotAhead, OfProcess, RequestIs, Rounded, Served, answers_to, asks, clears, goes_to_linux}
use Rattle.hybrid_model.specs.Events.{after_here, may_here}
use Rattle.hybrid_model.specs.Answer.{may_answer, noted_may_be_answered, post_answer, thread_served}
use Rattle.hybrid_model.specs.Pairs.{Here, ring_of}
use Rattle.hybrid_model.specs.Rings.{post}
use Rattle.hybrid_model.specs.Sides.{Noted, Round, Row, Service, Side, closes, looked_up}
use Rattle.hybrid_model.specs.Tallies.{Reads, with_at}
use Rattle.ikc_ring.specs.declared.CallRequest.{CallRequest}
use Rattle.ikc_ring.specs.declared.Msg.TheVariants.{Answer}
use Rattle.ikc_ring.specs.declared.Msg.{Msg}
use Rattle.isa_model.specs.Memory.{allows}
use Rattle.kernel_model.specs.Nodes.{Node}
use Rattle.mck_word.specs.Maps.{at}
use Rattle.mck_word.specs.declared.Access.{Access}
use Rattle.mck_word.specs.declared.Pid.{Pid}
use Rattle.page_pins.specs.declared.Pin.{Pin}
use Rattle.request_book.specs.declared.ReqState.{ReqState}
use Rattle.std.proofs.Common.{ap, arith, refl, sym, ◌∙◌}
use Rattle.std.proofs.lemmas.Bool.Decides.{nat_tests}
use Rattle.std.specs.Prelude.{Bool, List, None, Option, Some, false, if◌then◌else◌, nat_lt, true, ℕ, ◌==◌, ◌≡◌}

pub looked-is : (o : Option Row) (a : Access) (r : Row) → looked_up o a ≡ Some r → (o ≡ Some r) × (allows a r.1 ≡ true)
looked-is None a r e = absurd (grind (arith, e))
looked-is (Some x) a r e = go (allows a x.1) refl e
  where
    go : (b : Bool) → allows a x.1 ≡ b → (if b then Some x else None) ≡ Some r → (Some x ≡ Some r) × (allows a r.1 ≡ true)
    go true f k = let g : x ≡ r = cc in (ap Some g, ap (λ (z : Row). allows a z.1) (sym g) ∙ f)
    go false f k = absurd (grind (arith, k))

answer-clear : (round : Option Round) (w page number : ℕ) (o : Option Row) → ClearIsOf round (Answer w page number o)
answer-clear None w page number o = tt
answer-clear (Some r) w page number o = tt

module _ (table mirror : Reads Row) (pins : Reads Pin) (begun cleared : ℕ) (round : Option Round) (rings : List (List Msg)) (bs : List Msg) (r w page : ℕ) (a : Access) where
  answer-covered : (o : Option Row) → looked_up (table page) a ≡ o → AnswerCovered table cleared (Answer w page begun o)
  answer-covered None e = tt
  answer-covered (Some row) e = λ l. record { row = row; there = (looked-is (table page) a row e).0; frame = refl; rights = λ x y. y }

  answer-outside : (o : Option Row) → closes round page ≡ false → IsOutside round begun (Answer w page begun o)
  answer-outside None c = tt
  answer-outside (Some row) c = λ e. c

  pub covered_answer : Covered table mirror pins begun cleared rings → Covered table mirror pins begun cleared (post r (Answer w page begun (looked_up (table page) a)) rings)
  covered_answer c = record {
    mirror_rows = c.mirror_rows;
    answers = EachRing-post (AnswerCovered table cleared) r (Answer w page begun (looked_up (table page) a)) rings c.answers (answer-covered (looked_up (table page) a) refl);
    not_ahead = EachRing-post (NotAhead begun) r (Answer w page begun (looked_up (table page) a)) rings c.not_ahead (omega arith);
    pin_rows = c.pin_rows;
  }

  pub rounded_answer : (o : Option Row) → closes round page ≡ false → Rounded round mirror pins begun cleared rings bs → Rounded round mirror pins begun cleared (post r (Answer w page begun o) rings) bs
  rounded_answer o c d = record {
    clears_are = omega (arith, sum-post clears r (Answer w page begun o) rings, d.clears_are);
    acks_are = d.acks_are;
    clear_of = EachRing-post (ClearIsOf round) r (Answer w page begun o) rings d.clear_of (answer-clear round w page begun o);
    fetched = d.fetched;
    outside = EachRing-post (IsOutside round begun) r (Answer w page begun o) rings d.outside (answer-outside o c);
    mirror_outside = d.mirror_outside;
    pins_outside = d.pins_outside;
  }

module _ (worker_count : ℕ) (workers : Reads ℕ) (rows : Reads (ReqState × CallRequest)) (services : Reads Service) (pins : Reads Pin) (waiting : List ℕ) (noted : Reads Noted) (rings : List (List Msg)) (bs : List Msg) (s : Served worker_count workers rows services pins waiting noted rings bs) (w : ℕ) (n : Noted) (there : noted w ≡ Some n)
    (r number : ℕ) (o : Option Row) (right : (x : Row) → o ≡ Some x → allows n.1 x.1 ≡ true) where
  pub served_answer : Served worker_count workers rows services pins waiting (with_at noted w None) (post r (Answer w n.0 number o) rings) bs
  served_answer = record {
    worker_below = s.worker_below;
    requests = λ q. omega (arith, sum-post (asks q) r (Answer w n.0 number o) rings, s.requests q);
    waits = s.waits;
    known = s.known;
    workers_hold = s.workers_hold;
    held_by = s.held_by;
    faults = λ v. (let t = sum-post (answers_to v) r (Answer w n.0 number o) rings in grind (arith, nat_tests, t, there, s.faults v));
    fault_for = s.fault_for;
    noted_for = λ v m e. note (v == w) v m e;
    answer_for = EachRing-post (AnswerIsFor workers services) r (Answer w n.0 number o) rings s.answer_for (record { access = n.1; next = s.noted_for w n there; right = right });
    pins_serve = s.pins_serve;
  }
    where
      note : (b : Bool) (v : ℕ) (m : Noted) → (if b then None else noted v) ≡ Some m → IsForNext workers services v m.0 m.1
      note false v m e = s.noted_for v m e
      note true v m e = absurd (grind (arith, e))

-- a noted fault that may be answered
pub record MayAnswer (s : Side) (w : ℕ) : Type 0 where
  pub noted : Noted
  pub there : at s.lwk.noted w ≡ Some noted
  pub outside : closes s.round noted.0 ≡ false

pub may-answer : (s : Side) (w : ℕ) → may_answer s w ≡ true → MayAnswer s w
may-answer s w e = go (at s.lwk.noted w) refl e
  where
    go : (o : Option Noted) → at s.lwk.noted w ≡ o → noted_may_be_answered s.round o ≡ true → MayAnswer s w
    go None f k = absurd (grind (arith, k))
    go (Some n) f k = record { noted = n; there = f; outside = not-true (closes s.round n.0) k }

module _ (p : ℕ) (side : Side) (node : Node) (workers : ℕ) (ring : ℕ → ℕ) (k : OfProcess p side node workers ring) (w r : ℕ) (m : MayAnswer side w) where
  pub keeps_post_answer : OfProcess p (post_answer r w side) node workers ring
  unfolding post_answer
  keeps_post_answer =
      let n = m.noted in
      let there = m.there in
      let o = looked_up (at side.lwk.table n.0) n.1 in
      let c = reads-cut side.lwk.noted w in
      rw there (record {
        covered = covered_answer (at side.lwk.table) (at side.linux.mirror) (at side.linux.pins) side.lwk.begun side.linux.cleared side.round side.to_linux side.to_lwk r w n.0 n.1 k.covered;
        rounded = rounded_answer (at side.lwk.table) (at side.linux.mirror) (at side.linux.pins) side.lwk.begun side.linux.cleared side.round side.to_linux side.to_lwk r w n.0 n.1 o m.outside k.rounded;
        owned = k.owned;
        served = rw c (served_answer workers (at side.linux.workers) (at side.book.rows) (at side.linux.services) (at side.linux.pins) side.book.waiting (at side.lwk.noted) side.to_linux side.to_lwk k.served w n there r side.lwk.begun o (λ x e. (looked-is (at side.lwk.table n.0) n.1 x e).1));
        answered = k.answered;
        calls = k.calls;
        asked = EachRing-post (RequestIs (at side.book.rows)) r (Answer w n.0 side.lwk.begun o) side.to_linux k.asked tt;
        interrupts = EachRing-post (InterruptIs side.book.next (at side.book.rows) (at node.threads)) r (Answer w n.0 side.lwk.begun o) side.to_linux k.interrupts tt;
        directions = record { to_linux = EachRing-post (λ x. goes_to_linux x ≡ true) r (Answer w n.0 side.lwk.begun o) side.to_linux k.directions.to_linux refl; to_lwk = k.directions.to_lwk };
        messages = Messages-post (at side.book.rows) (at node.threads) ring (at side.lwk.callers) (Answer w n.0 side.lwk.begun o) (λ threads j. refl) (λ j. tt) r side.to_linux k.messages;
        marked = Marked-post (at side.linux.services) (at side.lwk.callers) r (Answer w n.0 side.lwk.begun o) side.to_linux (λ q. refl) k.marked;
      })

module _ (p : ℕ) (q : Pid) (w : ℕ) (h : Here) (m : may_here (Events.Answer q w) h ≡ true) where
  pub may_be_answered : MayAnswer h.side w
  may_be_answered = may-answer h.side w (both (nat_lt w h.workers) (may_answer h.side w) m).1

  pub keeps_answer : (workers : ℕ) (ring : ℕ → ℕ) → OfProcess p h.side h.node workers ring → OfProcess p (after_here (Events.Answer q w) p h).side (after_here (Events.Answer q w) p h).node workers ring
  keeps_answer workers ring k =
      let x = keeps_post_answer p h.side h.node workers ring k w (ring_of h (thread_served h.side w)) may_be_answered in
      record { covered = x.covered; rounded = x.rounded; owned = x.owned; served = x.served; answered = x.answered; calls = x.calls; asked = x.asked; interrupts = x.interrupts; directions = x.directions; messages = x.messages; marked = x.marked }

  pub others_answer : (other : ℕ) (side : Side) (workers : ℕ) (ring : ℕ → ℕ) → OfProcess other side h.node workers ring → OfProcess other side (after_here (Events.Answer q w) p h).node workers ring
  others_answer other side workers ring x =
      record { covered = x.covered; rounded = x.rounded; owned = x.owned; served = x.served; answered = x.answered; calls = x.calls; asked = x.asked; interrupts = x.interrupts; directions = x.directions; messages = x.messages; marked = x.marked }
