-- The Trap of a delegated call: its number, its Request, its caller's row. It keeps what holds of the process.
use Rattle.hybrid_laws.proofs.maps.Reading.{Each-map, EachRing-post, sum-post}
use Rattle.hybrid_laws.proofs.requests.Requests.{PinServes-keeps}
use Rattle.hybrid_model.specs.Coherence.{Covered, Rounded, Served, Answered, CallHolds, AnswerCovered, AnswerIsFor, ClearIsOf, IsOutside, NotAhead, ReplyIsAwaited, answers_to, asks, calls_it, clears, is_live, tid_in}
use Rattle.hybrid_model.specs.Rings.{post}
use Rattle.hybrid_model.specs.Sides.{Row, Round, Noted, Service, Caller, state_in}
use Rattle.hybrid_model.specs.Tallies.{Reads, with_at, if_same}
use Rattle.ikc_ring.specs.declared.CallRequest.{CallRequest}
use Rattle.ikc_ring.specs.declared.Msg.TheVariants.{Request, Clear, Answer, Interrupt, Reply, Ack, Fault}
use Rattle.ikc_ring.specs.declared.Msg.{Msg}
use Rattle.page_pins.specs.declared.Pin.{Pin}
use Rattle.request_book.specs.declared.ReqState.TheVariants.{Posted}
use Rattle.request_book.specs.declared.ReqState.{ReqState}
use Rattle.std.proofs.Common.{ap, arith, refl, subst, sym, ◌∙◌}
use Rattle.std.proofs.lemmas.Bool.Decides.{nat_tests}
use Rattle.std.specs.Prelude.{Bool, List, None, Option, Some, false, if◌then◌else◌, true, ℕ, ◌+◌, ◌<◌, ◌==◌, ◌≡◌}

-- ---- the table and the round: a Request is no Clear and no answer
request-clears : (round : Option Round) (c : CallRequest) → ClearIsOf round (Request c)
request-clears None c = tt
request-clears (Some r) c = tt

request-outside : (round : Option Round) (begun : ℕ) (c : CallRequest) → IsOutside round begun (Request c)
request-outside round begun c = tt

module _ (round : Option Round) (table mirror : Reads Row) (pins : Reads Pin) (begun cleared r : ℕ) (c : CallRequest) (rings : List (List Msg)) (bs : List Msg) where
  pub covered-call : Covered table mirror pins begun cleared rings → Covered table mirror pins begun cleared (post r (Request c) rings)
  covered-call h = record { mirror_rows = h.mirror_rows; answers = EachRing-post (AnswerCovered table cleared) r (Request c) rings h.answers tt; not_ahead = EachRing-post (NotAhead begun) r (Request c) rings h.not_ahead tt; pin_rows = h.pin_rows }

  pub rounded-call : Rounded round mirror pins begun cleared rings bs → Rounded round mirror pins begun cleared (post r (Request c) rings) bs
  rounded-call h = record {
    clears_are = omega (arith, sum-post clears r (Request c) rings, h.clears_are);
    acks_are = h.acks_are;
    clear_of = EachRing-post (ClearIsOf round) r (Request c) rings h.clear_of (request-clears round c);
    fetched = h.fetched;
    outside = EachRing-post (IsOutside round begun) r (Request c) rings h.outside (request-outside round begun c);
    mirror_outside = h.mirror_outside;
    pins_outside = h.pins_outside;
  }

-- ---- requests
module _ (worker_count : ℕ) (workers : Reads ℕ) (rows : Reads (ReqState × CallRequest)) (services : Reads Service) (pins : Reads Pin) (waiting : List ℕ) (noted : Reads Noted) (rings : List (List Msg)) (bs : List Msg) (s : Served worker_count workers rows services pins waiting noted rings bs) (r q : ℕ) (c : CallRequest) (number : c.q.0 ≡ q) (fresh : rows q ≡ None) where
  abbrev rows' : Reads (ReqState × CallRequest)
  rows' = with_at rows q (Some (Posted, c))

  asks-it : (p : ℕ) → if_same c.q.0 p ≡ if_same q p
  asks-it p = ap (λ n. if_same n p) number

  pub served_call : Served worker_count workers rows' services pins waiting noted (post r (Request c) rings) bs
  served_call = record {
    worker_below = s.worker_below;
    requests = λ p. let t = sum-post (asks p) r (Request c) rings in grind (arith, nat_tests, t, asks-it p, fresh, s.requests p);
    waits = λ p. grind (arith, nat_tests, fresh, s.waits p);
    known = λ p. grind (arith, nat_tests, fresh, s.known p);
    workers_hold = λ v p e. grind (arith, nat_tests, fresh, e, s.workers_hold v p);
    held_by = λ p v e. grind (arith, nat_tests, fresh, e, s.held_by p v);
    faults = λ v. let t = sum-post (answers_to v) r (Request c) rings in grind (arith, nat_tests, t, fresh, s.faults v, s.workers_hold v q);
    fault_for = s.fault_for;
    noted_for = s.noted_for;
    answer_for = EachRing-post (AnswerIsFor workers services) r (Request c) rings s.answer_for tt;
    pins_serve = λ v x e. let k = s.pins_serve v x e in PinServes-keeps workers workers rows rows' services services v x k k.serves (grind (arith, nat_tests, fresh, k.not_faulted)) (λ u. (grind (arith, nat_tests, fresh, k.held u), refl));
  }

-- ---- callers
module _ (rows : Reads (ReqState × CallRequest)) (callers : Reads Caller) (q : ℕ) (bs : List Msg) (a : Answered rows callers q bs) (t : ℕ) (idle : callers t ≡ None) (c : CallRequest) (tid : c.tid.0 ≡ t) where
  abbrev more : Reads (ReqState × CallRequest)
  more = with_at rows q (Some (Posted, c))

  abbrev callers' : Reads Caller
  callers' = with_at callers t (Some (record { request = q; marked = false }))

  fresh-here : rows q ≡ None
  fresh-here = a.fresh q (omega arith)

  awaited-call : (m : Msg) → ReplyIsAwaited rows callers m → ReplyIsAwaited more callers' m
  awaited-call (Reply n code) h =
      let g = (a.calls h.thread h.caller h.calls).given in
      record { gone = grind (arith, nat_tests, h.gone, g, h.number); thread = h.thread; caller = h.caller; calls = grind (arith, nat_tests, h.calls, idle); number = h.number }
  awaited-call (Request x) h = tt
  awaited-call (Clear x) h = tt
  awaited-call (Answer v i n row) h = tt
  awaited-call (Interrupt n place) h = tt
  awaited-call (Fault v i x) h = tt
  awaited-call Ack h = tt

  call-holds : (b : Bool) (u : ℕ) (x : Caller) → (u == t) ≡ b → (if b then Some (record { request = q; marked = false }) else callers u) ≡ Some x → CallHolds more (q + 1) u x.request bs
  call-holds true u x e f =
      let g : record { request = q; marked = false } ≡ x = cc in
      let k : u ≡ t = grind (arith, nat_tests, e) in
      subst (λ (y : Caller). CallHolds more (q + 1) u y.request bs) g (record {
        given = omega arith;
        named = λ z. (let same : (q == q) ≡ true = grind (arith, nat_tests) in rw same (tid ∙ sym k));
        replied = λ z. absurd (grind (arith, nat_tests, z));
      })
  call-holds false u x e f =
      let k = a.calls u x f in
      record { given = omega (arith, k.given); named = λ z. grind (arith, nat_tests, k.given, z, k.named); replied = λ z. k.replied (grind (arith, nat_tests, k.given, z)) }

  number-of : (b : Bool) (u : ℕ) (x : Caller) → (if b then Some (record { request = q; marked = false }) else callers u) ≡ Some x → b ≡ false → x.request < q
  number-of false u x f e = (a.calls u x f).given
  number-of true u x f e = absurd (grind (arith, e))

  is-new : (b : Bool) (u : ℕ) (x : Caller) → (if b then Some (record { request = q; marked = false }) else callers u) ≡ Some x → b ≡ true → x.request ≡ q
  is-new true u x f e = let g : record { request = q; marked = false } ≡ x = cc in ap (λ (y : Caller). y.request) (sym g)
  is-new false u x f e = absurd (grind (arith, e))

  alone-call : (b d : Bool) (u v : ℕ) (x y : Caller) → (u == t) ≡ b → (v == t) ≡ d → (if b then Some (record { request = q; marked = false }) else callers u) ≡ Some x → (if d then Some (record { request = q; marked = false }) else callers v) ≡ Some y → x.request ≡ y.request → u ≡ v
  alone-call true true u v x y e f g k z = grind (arith, nat_tests, e, f)
  alone-call false false u v x y e f g k z = a.alone u v x y g k z
  alone-call true false u v x y e f g k z = absurd (let m = is-new true u x g refl in let n = number-of false v y k refl in omega (arith, m, n, z))
  alone-call false true u v x y e f g k z = absurd (let m = is-new true v y k refl in let n = number-of false u x g refl in omega (arith, m, n, z))

  live-call : (b : Bool) (p : ℕ) → (p == q) ≡ b → is_live (state_in (if b then Some (Posted, c) else rows p)) ≡ true → calls_it p (callers' (tid_in (if b then Some (Posted, c) else rows p))) ≡ true
  live-call true p e z = let k : p ≡ q = grind (arith, nat_tests, e) in rw (tid, k) (let same : (t == t) ≡ true = grind (arith, nat_tests) in rw same (let s : (q == q) ≡ true = grind (arith, nat_tests) in s))
  live-call false p e z = let k = a.live p z in go (tid_in (rows p) == t) refl k
    where
      go : (b : Bool) → (tid_in (rows p) == t) ≡ b → calls_it p (callers (tid_in (rows p))) ≡ true → calls_it p (if b then Some (record { request = q; marked = false }) else callers (tid_in (rows p))) ≡ true
      go true f k = absurd (let g : tid_in (rows p) ≡ t = grind (arith, nat_tests, f) in let n = rw (g, idle) at k in grind (arith, n))
      go false f k = k

  not-replied : (b : Bool) (p : ℕ) (r : ReqState × CallRequest) → (if b then Some (Posted, c) else rows p) ≡ Some r → is_live r.0 ≡ true
  not-replied true p r e = let g : (Posted, c) ≡ r = cc in ap (λ (z : ReqState × CallRequest). is_live z.0) (sym g)
  not-replied false p r e = a.not_replied p r e

  pub answered_call : Answered more callers' (q + 1) bs
  answered_call = record {
    awaited = Each-map (ReplyIsAwaited rows callers) (ReplyIsAwaited more callers') bs awaited-call a.awaited;
    calls = λ u x e. call-holds (u == t) u x refl e;
    alone = λ u v x y e f z. alone-call (u == t) (v == t) u v x y refl refl e f z;
    live = λ p z. live-call (p == q) p refl z;
    replies = a.replies;
    fresh = λ p e. let k = a.fresh p (omega (arith, e)) in grind (arith, nat_tests, k, e);
    not_replied = λ p r e. not-replied (p == q) p r e;
  }
