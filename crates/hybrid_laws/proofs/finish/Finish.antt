-- Finish keeps what holds of the process, and shows nothing: the request leaves the book, and its one Reply goes back.
use Rattle.hybrid_model.specs.declared.events.Event.TheVariants as Events
use Rattle.hybrid_laws.proofs.maps.Reading.{Each-map, Each-push, Each-where, EachRing-where, reads-cut, tally-push}
use Rattle.hybrid_laws.proofs.maps.Tests.{both, no-none}
use Rattle.hybrid_laws.proofs.requests.Leaving.{Messages-fewer, no-reply}
use Rattle.hybrid_laws.proofs.requests.Requests.{IsForNext-keeps, PinServes-keeps, asked-state, directions-back, interrupts-state}
use Rattle.hybrid_laws.proofs.requests.Serving.{Serves, ended-it}
use Rattle.hybrid_laws.proofs.requests.Showing.{has_empty-same}
use Rattle.hybrid_laws.proofs.requests.Silent.{code-other, code-own, serves-other, shown-silent, status-one}
use Rattle.hybrid_laws.proofs.rings.Back.{Rounded-back, other-request}
use Rattle.hybrid_laws.proofs.states.Simulated.{simulated-none}
use Rattle.hybrid_laws.specs.Simulated.{Simulated}
use Rattle.hybrid_model.specs.Coherence.{AnswerIsFor, Answered, FaultIsFor, IsAwaited, IsForNext, OfProcess, ReplyIsAwaited, Served, answers_to, calls_it, faults_of, is_live, is_posted, replies_to, service_at, state_at, tid_in}
use Rattle.hybrid_model.specs.Events.{after_here, may_here}
use Rattle.hybrid_model.specs.Finish.{finish_here}
use Rattle.hybrid_model.specs.Finish.{finish, may_finish}
use Rattle.hybrid_model.specs.Workers.{has_pin, is_ended_request}
use Rattle.hybrid_model.specs.Pairs.{Here}
use Rattle.hybrid_model.specs.Shown.{status_of}
use Rattle.hybrid_model.specs.Sides.{Caller, Noted, Service, Side, no_service, serves, service_of, state_of}
use Rattle.hybrid_model.specs.Tallies.{Reads, counted, if_same, sum_rings, tally, with_at}
use Rattle.ikc_ring.specs.declared.CallRequest.{CallRequest}
use Rattle.ikc_ring.specs.declared.Msg.TheVariants.{Ack, Answer, Clear, Fault, Interrupt, Reply, Request}
use Rattle.ikc_ring.specs.declared.Msg.{Msg}
use Rattle.kernel_model.specs.OneKernel.{Over}
use Rattle.mck_word.specs.Maps.{at, cut}
use Rattle.mck_word.specs.declared.Access.{Access}
use Rattle.mck_word.specs.declared.Pid.{Pid}
use Rattle.page_pins.specs.declared.Pin.{Pin}
use Rattle.request_book.specs.declared.ReqState.TheVariants.{Ended}
use Rattle.request_book.specs.declared.ReqState.{ReqState}
use Rattle.std.proofs.Common.{ap, arith, refl}
use Rattle.std.proofs.lemmas.Bool.Decides.{nat_tests}
use Rattle.std.specs.Prelude.{Bool, List, None, Option, Some, [], false, if◌then◌else◌, is_some, nat_lt, not, true, unwrap_or, ℕ, ℤ, ◌&&◌, ◌++◌, ◌+◌, ◌<◌, ◌==◌, ◌∷◌, ◌≡◌, ◌≢◌}

pub record MayFinish (h : Here) (w : ℕ) : Type 0 where
  pub below : w < h.workers
  pub request : Serves h.side.linux h.side.book w Ended
  pub no_pin : at h.side.linux.pins w ≡ None

pub may-finish : (h : Here) (q : Pid) (w : ℕ) → may_here (Events.Finish q w) h ≡ true → MayFinish h w
may-finish h q w e =
    let a = both (nat_lt w h.workers) (may_finish h.side.linux h.side.book w) e in
    let b = both (is_some (at h.side.linux.workers w) && is_ended_request (state_of h.side.book (serves h.side.linux w))) (not (has_pin h.side.linux w)) a.1 in
    let c = both (is_some (at h.side.linux.workers w)) (is_ended_request (state_of h.side.book (serves h.side.linux w))) b.0 in
    record { below = grind (arith, nat_tests, a.0); request = ended-it h.side.linux h.side.book w c.0 c.1; no_pin = no-none (at h.side.linux.pins w) b.1 }

-- ---- requests
module _ (worker_count : ℕ) (workers : Reads ℕ) (rows : Reads (ReqState × CallRequest)) (services : Reads Service) (pins : Reads Pin) (waiting : List ℕ) (noted : Reads Noted) (rings : List (List Msg)) (bs : List Msg) (c : Served worker_count workers rows services pins waiting noted rings bs) (w q : ℕ) (call : CallRequest) (serving : workers w ≡ Some q) (is : rows q ≡ Some (Ended, call)) (no_pin : pins w ≡ None) (answer : ℤ) where
  abbrev rows' : Reads (ReqState × CallRequest)
  rows' = with_at rows q None

  abbrev workers' : Reads ℕ
  workers' = with_at workers w None

  abbrev services' : Reads Service
  services' = with_at services q None

  abbrev reply : Msg
  reply = Reply (record { 0 = q }) answer

  none-of-w : tally (faults_of w) bs + counted (noted w) + sum_rings (answers_to w) rings ≡ 0
  none-of-w = grind (arith, nat_tests, c.faults w, serving, is)

  other-number : (v n : ℕ) → workers v ≡ Some n → v ≢ w → (n == q) ≡ false
  other-number = other-request worker_count workers rows services pins waiting noted rings bs c w q serving

  others : (v i : ℕ) (a : Access) → v ≢ w → IsForNext workers services v i a → IsForNext workers' services' v i a
  others v i a ne h = IsForNext-keeps workers workers' services services' v i a h (let f : (v == w) ≡ false = grind (arith, nat_tests, ne) in rw f h.serves) (rw (other-number v h.number h.serves ne) refl)

  fault-other : (m : Msg) → faults_of w m ≡ 0 → FaultIsFor workers services m → FaultIsFor workers' services' m
  fault-other (Fault v i a) e h = others v i a (λ g. grind (arith, nat_tests, e, g)) h
  fault-other (Request y) e h = tt
  fault-other (Clear r) e h = tt
  fault-other (Answer v i n row) e h = tt
  fault-other (Interrupt n place) e h = tt
  fault-other (Reply n code) e h = tt
  fault-other Ack e h = tt

  answer-other : (m : Msg) → answers_to w m ≡ 0 → AnswerIsFor workers services m → AnswerIsFor workers' services' m
  answer-other (Answer v i n row) e h = record { access = h.access; next = others v i h.access (λ g. grind (arith, nat_tests, e, g)) h.next; right = h.right }
  answer-other (Fault v i a) e h = tt
  answer-other (Request y) e h = tt
  answer-other (Clear r) e h = tt
  answer-other (Interrupt n place) e h = tt
  answer-other (Reply n code) e h = tt
  answer-other Ack e h = tt

  pub served_finish : Served worker_count workers' rows' services' pins waiting noted rings (bs ++ reply ∷ [])
  served_finish = record {
    worker_below = λ v p e. grind (arith, nat_tests, e, c.worker_below v p);
    requests = λ p. grind (arith, nat_tests, is, c.requests p);
    waits = λ p. grind (arith, nat_tests, is, c.waits p);
    known = λ p. grind (arith, nat_tests, is, c.known p);
    workers_hold = λ v p e. grind (arith, nat_tests, is, e, serving, c.workers_hold v p, c.workers_hold w q);
    held_by = λ p v e. grind (arith, nat_tests, is, e, serving, c.held_by p v, c.workers_hold w q);
    faults = λ v. let t = tally-push (faults_of v) bs reply in grind (arith, nat_tests, t, is, serving, c.faults v, c.workers_hold v q, c.workers_hold w q);
    fault_for = Each-push (FaultIsFor workers' services') bs reply (Each-where (faults_of w) (FaultIsFor workers services) (FaultIsFor workers' services') bs (omega (arith, none-of-w)) fault-other c.fault_for) tt;
    noted_for = λ v n e. others v n.0 n.1 (λ g. grind (arith, nat_tests, e, g, none-of-w)) (c.noted_for v n e);
    answer_for = EachRing-where (answers_to w) (AnswerIsFor workers services) (AnswerIsFor workers' services') rings (omega (arith, none-of-w)) answer-other c.answer_for;
    pins_serve = λ v x e.
        let k = c.pins_serve v x e in
        let ne : v ≢ w = λ (g : v ≡ w). grind (arith, e, g, no_pin) in
        let n = other-number v k.number k.serves ne in
        let f : (v == w) ≡ false = grind (arith, nat_tests, ne) in
        PinServes-keeps workers workers' rows rows' services services' v x k (rw f k.serves) (rw n k.not_faulted) (λ u. (rw n refl, rw n refl));
  }

-- ---- replies
module _ (rows : Reads (ReqState × CallRequest)) (callers : Reads Caller) (next : ℕ) (bs : List Msg) (c : Answered rows callers next bs) (q : ℕ) (call : CallRequest) (is : rows q ≡ Some (Ended, call)) (answer : ℤ) where
  abbrev book : Reads (ReqState × CallRequest)
  book = with_at rows q None

  abbrev reply_sent : Msg
  reply_sent = Reply (record { 0 = q }) answer

  count : (x : ℕ) → tally (replies_to x) (bs ++ reply_sent ∷ []) ≡ tally (replies_to x) bs + if_same q x
  count x = tally-push (replies_to x) bs reply_sent

  none-before : tally (replies_to q) bs ≡ 0
  none-before = no-reply rows callers q (Ended, call) is bs c.awaited

  still-awaited : (m : Msg) → ReplyIsAwaited rows callers m → ReplyIsAwaited book callers m
  still-awaited (Reply n code) h = record { gone = grind (arith, nat_tests, h.gone); thread = h.thread; caller = h.caller; calls = h.calls; number = h.number }
  still-awaited (Request x) h = tt
  still-awaited (Clear r) h = tt
  still-awaited (Answer v i n row) h = tt
  still-awaited (Interrupt n place) h = tt
  still-awaited (Fault v i a) h = tt
  still-awaited Ack h = tt

  the-call : (o : Option Caller) → callers call.tid.0 ≡ o → calls_it q (callers call.tid.0) ≡ true → IsAwaited book callers q
  the-call None e k = absurd (let k' = rw e at k in grind (arith, k'))
  the-call (Some x) e k = record { gone = grind (arith, nat_tests); thread = call.tid.0; caller = x; calls = e; number = (let k' = rw e at k in grind (arith, nat_tests, k')) }

  pub answered_finish : Answered book callers next (bs ++ reply_sent ∷ [])
  answered_finish = record {
    awaited = Each-push (ReplyIsAwaited book callers) bs reply_sent (Each-map (ReplyIsAwaited rows callers) (ReplyIsAwaited book callers) bs still-awaited c.awaited) (the-call (callers call.tid.0) refl (rw is at (c.live q (rw is refl))));
    calls = λ t x e. let k = c.calls t x e in record {
      given = k.given;
      named = λ u. grind (arith, nat_tests, u, k.named);
      replied = λ u. grind (arith, nat_tests, u, count x.request, none-before, k.replied);
    };
    alone = c.alone;
    live = λ p u. grind (arith, nat_tests, u, c.live p);
    replies = λ p. grind (arith, nat_tests, count p, none-before, c.replies p);
    fresh = λ p u. grind (arith, nat_tests, c.fresh p u);
    not_replied = λ p r e. grind (arith, nat_tests, e, c.not_replied p r);
  }

module _ (p : ℕ) (h : Here) (ring_number : ℕ → ℕ) (k : OfProcess p h.side h.node h.workers ring_number) (q : Pid) (w : ℕ) (e : may_here (Events.Finish q w) h ≡ true) where
  abbrev m : MayFinish h w
  m = may-finish h q w e

  abbrev n : ℕ
  n = m.request.number

  abbrev answer : ℤ
  answer = (service_of h.side.linux.services n).answer

  abbrev rows : Reads (ReqState × CallRequest)
  rows = at h.side.book.rows

  abbrev without : Reads (ReqState × CallRequest)
  without = with_at rows n None

  abbrev side' : Side
  side' = record h.side {
    linux = record h.side.linux { workers = cut h.side.linux.workers w; services = cut h.side.linux.services n };
    book = record h.side.book { rows = cut h.side.book.rows n };
    to_lwk = h.side.to_lwk ++ Reply (record { 0 = n }) answer ∷ [];
  }

  posted-same : (x : ℕ) → is_posted (state_at without x) ≡ is_posted (state_at rows x)
  posted-same x = let is = m.request.is in grind (arith, nat_tests, is)

  live-before : (x : ℕ) → is_live (state_at without x) ≡ true → is_live (state_at rows x) ≡ true
  live-before x u = grind (arith, nat_tests, u)

  tid-same : (x : ℕ) → is_live (state_at without x) ≡ true → tid_in (without x) ≡ tid_in (rows x)
  tid-same x u = grind (arith, nat_tests, u)

  kept : OfProcess p side' h.node h.workers ring_number
  kept =
      let a = reads-cut h.side.linux.workers w in
      let b = reads-cut h.side.book.rows n in
      let d = reads-cut h.side.linux.services n in
      let reply : Msg = Reply (record { 0 = n }) answer in
      record {
        covered = k.covered;
        rounded = Rounded-back h.side.round (at h.side.linux.mirror) (at h.side.linux.pins) h.side.lwk.begun h.side.linux.cleared h.side.to_linux h.side.to_lwk reply refl k.rounded;
        owned = k.owned;
        served = rw (a, b, d) (served_finish h.workers (at h.side.linux.workers) rows (at h.side.linux.services) (at h.side.linux.pins) h.side.book.waiting (at h.side.lwk.noted) h.side.to_linux h.side.to_lwk k.served w n m.request.call m.request.serving m.request.is m.no_pin answer);
        answered = rw b (answered_finish rows (at h.side.lwk.callers) h.side.book.next h.side.to_lwk k.answered n m.request.call m.request.is answer);
        calls = k.calls;
        asked = rw b (asked-state rows n Ended m.request.call m.request.is refl None h.side.to_linux k.asked);
        interrupts = rw b (interrupts-state rows without (at h.node.threads) h.side.book.next live-before tid-same h.side.to_linux k.interrupts);
        directions = directions-back reply h.side.to_linux h.side.to_lwk refl k.directions;
        messages = rw b (Messages-fewer rows without posted-same live-before tid-same (at h.node.threads) ring_number (at h.side.lwk.callers) h.side.to_linux k.messages);
        marked = rw d (record { fetched = λ t x u v. marks (at h.side.linux.services) x.request x.marked v (k.marked.fetched t x u); posted = k.marked.posted });
      }
    where
      marks : (services : Reads Service) (x : ℕ) (c : Bool) → (service_at (with_at services n None) x).interrupted ≡ true → ((service_at services x).interrupted ≡ true → c ≡ true) → c ≡ true
      marks services x c v f = go (x == n) v
        where
          go : (b : Bool) → (unwrap_or (if b then None else services x) no_service).interrupted ≡ true → c ≡ true
          go true v = absurd (grind (arith, v))
          go false v = f v

  pub keeps_finish : OfProcess p (after_here (Events.Finish q w) p h).side (after_here (Events.Finish q w) p h).node h.workers ring_number
  unfolding finish_here finish
  keeps_finish = let s = m.request.serving in rw s kept

  statuses : (x : ℕ) → status_of side' x ≡ status_of h.side x
  statuses x =
      let a = reads-cut h.side.linux.workers w in
      let b = reads-cut h.side.book.rows n in
      let d = reads-cut h.side.linux.services n in
      let is = m.request.is in
      let own = code-own n answer h.side.to_lwk (no-reply rows (at h.side.lwk.callers) n (Ended, m.request.call) is h.side.to_lwk k.answered.awaited) in
      rw (a, b, d) (status-one rows (at h.side.linux.services) (with_at (at h.side.linux.services) n None) (at h.side.linux.workers) (with_at (at h.side.linux.workers) w None) h.side.to_linux h.side.to_linux h.side.to_lwk (h.side.to_lwk ++ Reply (record { 0 = n }) answer ∷ []) n None
      (rw is (ap Over own))
      (λ y f. rw f refl)
      (λ y f. has_empty-same (at h.side.linux.workers) (with_at (at h.side.linux.workers) w None) y (serves-other (at h.side.linux.workers) w n y None m.request.serving (λ z u. absurd (grind (arith, u))) f) h.side.to_linux)
      (λ y f. code-other y h.side.to_lwk (Reply (record { 0 = n }) answer) (λ rest. let g : (n == y) ≡ false = grind (arith, nat_tests, f) in rw g refl)) x)

  pub simulates_finish : Simulated (Events.Finish q w) p h
  unfolding finish_here finish
  simulates_finish = simulated-none (Events.Finish q w) p h refl
      (let s = m.request.serving in rw s (shown-silent h.frames h side' h.turns refl refl statuses))
