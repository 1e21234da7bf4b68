-- A worker steps its request, which was Held and goes on or ends: the book, the services and the workers agree after it.
use Rattle.hybrid_laws.proofs.maps.Reading.{Each-where, EachRing-where, reads-put}
use Rattle.hybrid_laws.proofs.requests.OneRequest.{goes_on}
use Rattle.hybrid_laws.proofs.requests.Requests.{IsForNext-keeps, PinServes-keeps}
use Rattle.hybrid_model.specs.Coherence.{AnswerIsFor, FaultIsFor, IsForNext, PinServes, Served, answers_to, faults_of, holder, is_faulted, is_fetched, is_live, is_posted, is_waiting, service_at, state_at, OfProcess}
use Rattle.hybrid_model.specs.Workers.{state_if}
use Rattle.hybrid_model.specs.Sides.{Noted, Service, Side, service_of, with_service, with_state}
use Rattle.hybrid_model.specs.Tallies.{Reads, counted, sum_rings, tally, with_at}
use Rattle.ikc_ring.specs.declared.CallRequest.{CallRequest}
use Rattle.ikc_ring.specs.declared.Msg.TheVariants.{Ack, Clear, Fault, Request, Answer, Interrupt, Reply}
use Rattle.ikc_ring.specs.declared.Msg.{Msg}
use Rattle.kernel_model.specs.Nodes.{Node}
use Rattle.mck_word.specs.Maps.{at}
use Rattle.mck_word.specs.declared.Access.{Access}
use Rattle.page_pins.specs.declared.Pin.{Pin}
use Rattle.request_book.specs.declared.ReqState.TheVariants.{Held}
use Rattle.request_book.specs.declared.ReqState.{ReqState}
use Rattle.std.proofs.Common.{ap, arith, refl, subst, sym, ◌∙◌}
use Rattle.std.proofs.lemmas.Bool.Decides.{nat_tests}
use Rattle.std.specs.Prelude.{Bool, List, None, Option, Some, false, true, ℕ, ℤ, ◌+◌, ◌==◌, ◌≡◌, ◌≢◌}

pub held-row : (rows : Reads (ReqState × CallRequest)) (q : ℕ) → state_at rows q ≡ Held → (call : CallRequest) × (rows q ≡ Some (Held, call))
held-row rows q f = go (rows q) refl
  where
    go : (o : Option (ReqState × CallRequest)) → rows q ≡ o → (call : CallRequest) × (rows q ≡ Some (Held, call))
    go None e = absurd (let k = rw e at f in grind (arith, k))
    go (Some r) e = let k : r.0 ≡ Held = rw e at f in (r.1, e ∙ ap (λ s. Some (s, r.1)) k)

-- a request that a worker steps: Held before, and Held or Ended after
module _ (worker_count : ℕ) (workers : Reads ℕ) (rows : Reads (ReqState × CallRequest)) (services : Reads Service) (pins : Reads Pin) (waiting : List ℕ) (noted : Reads Noted) (rings : List (List Msg)) (bs : List Msg) (c : Served worker_count workers rows services pins waiting noted rings bs) (w q : ℕ) (call : CallRequest) (serving : workers w ≡ Some q) (is : rows q ≡ Some (Held, call)) (pins' : Reads Pin) (others_pins : (v : ℕ) → v ≢ w → pins' v ≡ pins v) (now : ReqState) (k : Service)
    (not_posted : is_posted now ≡ 0) (not_waiting : is_waiting now ≡ 0) (not_faulted : is_faulted now ≡ 0) (fetched : is_fetched now ≡ true) (held : holder now w ≡ Some w) (same_worker : k.worker ≡ (service_at services q).worker) where
  abbrev rows' : Reads (ReqState × CallRequest)
  rows' = with_at rows q (Some (now, call))

  abbrev services' : Reads Service
  services' = with_at services q (Some k)

  worker-is : (service_at services q).worker ≡ w
  worker-is = grind (arith, nat_tests, c.workers_hold w q serving, is)

  none-of-w : tally (faults_of w) bs + counted (noted w) + sum_rings (answers_to w) rings ≡ 0
  none-of-w = grind (arith, nat_tests, c.faults w, serving, is)

  other-number : (v n : ℕ) → workers v ≡ Some n → v ≢ w → (n == q) ≡ false
  other-number v n e ne = go (n == q) refl
    where
      go : (b : Bool) → (n == q) ≡ b → b ≡ false
      go false f = refl
      go true f = absurd (let g : n ≡ q = grind (arith, nat_tests, f) in let a = c.workers_hold v n e in grind (arith, nat_tests, a, g, is, worker-is, ne))

  others : (v i : ℕ) (a : Access) → v ≢ w → IsForNext workers services v i a → IsForNext workers services' v i a
  others v i a ne h = IsForNext-keeps workers workers services services' v i a h h.serves (rw (other-number v h.number h.serves ne) refl)

  fault-other : (m : Msg) → faults_of w m ≡ 0 → FaultIsFor workers services m → FaultIsFor workers services' m
  fault-other (Fault v i a) e h = others v i a (λ g. grind (arith, nat_tests, e, g)) h
  fault-other (Request y) e h = tt
  fault-other (Clear r) e h = tt
  fault-other (Answer v i n row) e h = tt
  fault-other (Interrupt n place) e h = tt
  fault-other (Reply n code) e h = tt
  fault-other Ack e h = tt

  answer-other : (m : Msg) → answers_to w m ≡ 0 → AnswerIsFor workers services m → AnswerIsFor workers services' m
  answer-other (Answer v i n row) e h = record { access = h.access; next = others v i h.access (λ g. grind (arith, nat_tests, e, g)) h.next; right = h.right }
  answer-other (Fault v i a) e h = tt
  answer-other (Request y) e h = tt
  answer-other (Clear r) e h = tt
  answer-other (Interrupt n place) e h = tt
  answer-other (Reply n code) e h = tt
  answer-other Ack e h = tt

  not-w : (v : ℕ) (n : Noted) → noted v ≡ Some n → v ≢ w
  not-w v n e g = grind (arith, nat_tests, e, g, none-of-w)

  pin-other : (v : ℕ) (y : Pin) → v ≢ w → pins' v ≡ Some y → PinServes workers rows' services' v y
  pin-other v y ne e =
      let s = c.pins_serve v y (sym (others_pins v ne) ∙ e) in
      let n = other-number v s.number s.serves ne in
      PinServes-keeps workers workers rows rows' services services' v y s s.serves (rw n s.not_faulted) (λ u. (rw n refl, rw n refl))

  pub served_step : ((y : Pin) → pins' w ≡ Some y → PinServes workers rows' services' w y) → Served worker_count workers rows' services' pins' waiting noted rings bs
  served_step own = record {
    worker_below = c.worker_below;
    requests = λ p. grind (arith, nat_tests, is, not_posted, c.requests p);
    waits = λ p. grind (arith, nat_tests, is, not_waiting, c.waits p);
    known = λ p. grind (arith, nat_tests, is, fetched, c.known p);
    workers_hold = λ v p e. grind (arith, nat_tests, is, held, worker-is, same_worker, e, c.workers_hold v p);
    held_by = λ p v e. grind (arith, nat_tests, is, held, worker-is, same_worker, serving, e, c.held_by p v);
    faults = λ v. grind (arith, nat_tests, is, serving, not_faulted, c.faults v, c.workers_hold v q);
    fault_for = Each-where (faults_of w) (FaultIsFor workers services) (FaultIsFor workers services') bs (omega (arith, none-of-w)) fault-other c.fault_for;
    noted_for = λ v n e. others v n.0 n.1 (not-w v n e) (c.noted_for v n e);
    answer_for = EachRing-where (answers_to w) (AnswerIsFor workers services) (AnswerIsFor workers services') rings (omega (arith, none-of-w)) answer-other c.answer_for;
    pins_serve = λ v y e. pin-serves own v y e (v == w) refl;
  }
    where
      pin-serves : ((y : Pin) → pins' w ≡ Some y → PinServes workers rows' services' w y) → (v : ℕ) (y : Pin) → pins' v ≡ Some y → (b : Bool) → (v == w) ≡ b → PinServes workers rows' services' v y
      pin-serves own v y e true f = let g : w ≡ v = grind (arith, nat_tests, f) in subst (λ (z : ℕ). PinServes workers rows' services' z y) g (own y (ap pins' g ∙ e))
      pin-serves own v y e false f = pin-other v y (λ g. grind (arith, nat_tests, f, g)) e

pub state-facts : (o : Option ℤ) (w : ℕ) → (is_posted (state_if o) ≡ 0) × (is_waiting (state_if o) ≡ 0) × (is_faulted (state_if o) ≡ 0) × (is_fetched (state_if o) ≡ true) × (holder (state_if o) w ≡ Some w) × (is_live (state_if o) ≡ true)
state-facts None w = (refl, refl, refl, refl, refl, refl)
state-facts (Some a) w = (refl, refl, refl, refl, refl, refl)

-- ---- a worker without a pin steps its request
module _ (p : ℕ) (side : Side) (node : Node) (worker_count : ℕ) (ring_of : ℕ → ℕ) (h : OfProcess p side node worker_count ring_of) (w q : ℕ) (call : CallRequest) (serving : at side.linux.workers w ≡ Some q) (is : at side.book.rows q ≡ Some (Held, call)) (no_pin : at side.linux.pins w ≡ None) (now : ReqState) (k : Service)
    (not_posted : is_posted now ≡ 0) (not_waiting : is_waiting now ≡ 0) (not_faulted : is_faulted now ≡ 0) (fetched : is_fetched now ≡ true) (held : holder now w ≡ Some w) (live : is_live now ≡ true) (same_worker : k.worker ≡ (service_of side.linux.services q).worker) (same_mark : k.interrupted ≡ (service_of side.linux.services q).interrupted) where
  pub keeps_step : OfProcess p (record side { linux = with_service side.linux q k; book = with_state side.book q now }) node worker_count ring_of
  keeps_step =
      let d = reads-put side.linux.services q k in
      goes_on p side node worker_count ring_of h q Held now call is refl live refl not_posted (with_service side.linux q k) side.book.waiting (λ y. rw d (same-marks (at side.linux.services) q k y same_mark)) h.covered h.rounded
      (rw d (served_step worker_count (at side.linux.workers) (at side.book.rows) (at side.linux.services) (at side.linux.pins) side.book.waiting (at side.lwk.noted) side.to_linux side.to_lwk h.served w q call serving is (at side.linux.pins) (λ v n. refl) now k not_posted not_waiting not_faulted fetched held same_worker (λ y e. absurd (grind (arith, e, no_pin)))))
    where
      same-marks : (services : Reads Service) (q : ℕ) (k : Service) (y : ℕ) → k.interrupted ≡ (service_at services q).interrupted → (service_at (with_at services q (Some k)) y).interrupted ≡ (service_at services y).interrupted
      same-marks services q k y e = grind (arith, nat_tests, e)
