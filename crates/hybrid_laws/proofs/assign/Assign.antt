-- Assign keeps what holds of the process, and shows nothing.
use Rattle.hybrid_model.specs.declared.events.Event.TheVariants as Events
use Rattle.hybrid_laws.proofs.maps.Reading.{reads-put, reads-stated}
use Rattle.hybrid_laws.proofs.maps.Tests.{both, none-is, not-empty}
use Rattle.hybrid_laws.proofs.requests.OneRequest.{goes_on}
use Rattle.hybrid_laws.proofs.requests.Requests.{IsForNext-keeps, PinServes-keeps, answers-keep, faults-keep, noted-keep}
use Rattle.hybrid_laws.proofs.requests.Showing.{has_empty-same, shown-same}
use Rattle.hybrid_laws.proofs.states.Simulated.{simulated-none}
use Rattle.hybrid_laws.specs.Simulated.{Simulated}
use Rattle.hybrid_model.specs.Coherence.{Served, IsForNext, state_at, service_at, is_waiting, OfProcess}
use Rattle.hybrid_model.specs.Events.{after_here, may_here}
use Rattle.hybrid_model.specs.Assign.{assign}
use Rattle.hybrid_model.specs.Pairs.{Here}
use Rattle.hybrid_model.specs.Shown.{has_empty, reply_code, serves_it, shown_own, status_by, status_in, shown_born, shown_here}
use Rattle.hybrid_model.specs.Sides.{Noted, Service, Side, service_of, call_in, no_service, state_in, with_state, LinuxSide}
use Rattle.hybrid_model.specs.Tallies.{Reads, with_at, tally, if_same}
use Rattle.ikc_ring.specs.declared.CallRequest.{CallRequest}
use Rattle.ikc_ring.specs.declared.Msg.{Msg}
use Rattle.kernel_model.specs.Nodes.{Node}
use Rattle.mck_word.specs.Maps.{at, Map, put}
use Rattle.mck_word.specs.declared.Access.{Access}
use Rattle.mck_word.specs.declared.Pid.{Pid}
use Rattle.page_pins.specs.declared.Pin.{Pin}
use Rattle.request_book.specs.declared.ReqState.TheVariants.{Posted, Waiting, Held, Parked, Faulted, Ended, Replied}
use Rattle.request_book.specs.declared.ReqState.{ReqState}
use Rattle.std.proofs.Common.{arith, refl, ap}
use Rattle.std.proofs.lemmas.Bool.Decides.{nat_tests}
use Rattle.std.specs.Prelude.{List, None, Option, Some, ℕ, ◌∷◌, ◌≡◌, length, not, true, ◌==◌, Bool, false, if◌then◌else◌, unwrap_or, ◌<◌, is_none, nat_lt, ◌&&◌}

-- a number that stands first among those that wait is a request that waits
pub waiting-first : (rows : Reads (ReqState × CallRequest)) (q : ℕ) (rest : List ℕ) → ((p : ℕ) → tally (if_same p) (q ∷ rest) ≡ is_waiting (state_at rows p)) → (call : CallRequest) × (rows q ≡ Some (Waiting, call))
waiting-first rows q rest h = go (rows q) refl
  where
    waits : is_waiting (state_at rows q) ≡ 1
    waits = grind (arith, nat_tests, h q)

    by_state : (s : ReqState) (c : CallRequest) → rows q ≡ Some (s, c) → (call : CallRequest) × (rows q ≡ Some (Waiting, call))
    by_state Waiting c e = (c, e)
    by_state Posted c e = absurd (let k = rw e at waits in grind (arith, k))
    by_state Held c e = absurd (let k = rw e at waits in grind (arith, k))
    by_state Parked c e = absurd (let k = rw e at waits in grind (arith, k))
    by_state Faulted c e = absurd (let k = rw e at waits in grind (arith, k))
    by_state Ended c e = absurd (let k = rw e at waits in grind (arith, k))
    by_state Replied c e = absurd (let k = rw e at waits in grind (arith, k))

    go : (o : Option (ReqState × CallRequest)) → rows q ≡ o → (call : CallRequest) × (rows q ≡ Some (Waiting, call))
    go None e = absurd (let k = rw e at waits in grind (arith, k))
    go (Some r) e = by_state r.0 r.1 e

module _ (worker_count : ℕ) (workers : Reads ℕ) (rows : Reads (ReqState × CallRequest)) (services : Reads Service) (pins : Reads Pin) (q w : ℕ) (below : w < worker_count) (rest : List ℕ) (noted : Reads Noted) (rings : List (List Msg)) (bs : List Msg) (c : Served worker_count workers rows services pins (q ∷ rest) noted rings bs) (idle : workers w ≡ None) (call : CallRequest) (is : rows q ≡ Some (Waiting, call)) where
  abbrev rows' : Reads (ReqState × CallRequest)
  rows' = with_at rows q (Some (Held, call))

  abbrev services' : Reads Service
  services' = with_at services q (Some (record (service_at services q) { worker = w }))

  abbrev workers' : Reads ℕ
  workers' = with_at workers w (Some q)

  others : (v i : ℕ) (a : Access) → IsForNext workers services v i a → IsForNext workers' services' v i a
  others v i a k = IsForNext-keeps workers workers' services services' v i a k (grind (arith, nat_tests, k.serves, idle)) (grind (arith, nat_tests))

  pub served_assign : Served worker_count workers' rows' services' pins rest noted rings bs
  served_assign = record {
    worker_below = λ v p e. grind (arith, nat_tests, e, below, c.worker_below v p);
    requests = λ p. grind (arith, nat_tests, is, c.requests p);
    waits = λ p. grind (arith, nat_tests, is, c.waits p);
    known = λ p. grind (arith, nat_tests, is, c.known p);
    workers_hold = λ v p e. grind (arith, nat_tests, is, e, idle, c.workers_hold v p);
    held_by = λ p v e. grind (arith, nat_tests, is, e, idle, c.held_by p v);
    faults = λ v. grind (arith, nat_tests, is, idle, c.faults v, c.workers_hold v q);
    fault_for = faults-keep workers workers' services services' others bs c.fault_for;
    noted_for = noted-keep workers workers' services services' others noted c.noted_for;
    answer_for = answers-keep workers workers' services services' others rings c.answer_for;
    pins_serve = λ v x e.
        let k = c.pins_serve v x e in
        PinServes-keeps workers workers' rows rows' services services' v x k (grind (arith, nat_tests, k.serves, idle)) (grind (arith, nat_tests, is, k.not_faulted)) (λ u. (grind (arith, nat_tests, is, k.held u), grind (arith, nat_tests)));
  }

-- ---- the whole process
module _ (p : ℕ) (side : Side) (node : Node) (worker_count : ℕ) (ring_of : ℕ → ℕ) (h : OfProcess p side node worker_count ring_of) (w : ℕ) (below : w < worker_count) (idle : at side.linux.workers w ≡ None) where
  with_first : (q : ℕ) (rest : List ℕ) → side.book.waiting ≡ q ∷ rest → OfProcess p (record side { linux = (assign side.linux side.book w).0; book = (assign side.linux side.book w).1 }) node worker_count ring_of
  unfolding assign
  with_first q rest e =
      let s = rw e at h.served in
      let f = waiting-first (at side.book.rows) q rest s.waits in
      let k = record (service_of side.linux.services q) { worker = w } in
      let a = reads-put side.linux.workers w q in
      let d = reads-put side.linux.services q k in
      let linux : LinuxSide = record side.linux { workers = put side.linux.workers w q; services = put side.linux.services q k } in
      rw e (goes_on p side node worker_count ring_of h q Waiting Held f.0 f.1 refl refl refl refl linux rest (λ x. rw d (with-interrupted side.linux.services q w x)) h.covered h.rounded
      (rw (a, d) (served_assign worker_count (at side.linux.workers) (at side.book.rows) (at side.linux.services) (at side.linux.pins) q w below rest (at side.lwk.noted) side.to_linux side.to_lwk s idle f.0 f.1)))
    where
      with-interrupted : (services : Map Service) (q w x : ℕ) → (service_at (with_at (at services) q (Some (record (service_of services q) { worker = w }))) x).interrupted ≡ (service_at (at services) x).interrupted
      with-interrupted services q w x = grind (arith, nat_tests)

  pub keeps_assigned : not (length side.book.waiting == 0) ≡ true → OfProcess p (record side { linux = (assign side.linux side.book w).0; book = (assign side.linux side.book w).1 }) node worker_count ring_of
  keeps_assigned e = let f = not-empty side.book.waiting e in with_first f.0 f.1 f.2

-- ---- what is shown
module _ (workers : Reads ℕ) (rows : Reads (ReqState × CallRequest)) (services : Reads Service) (q w : ℕ) (call : CallRequest) (is : rows q ≡ Some (Waiting, call)) (idle : workers w ≡ None) where
  serves-same : (x : ℕ) → (x == q) ≡ false → (v : ℕ) → serves_it x (with_at workers w (Some q) v) ≡ serves_it x (workers v)
  serves-same x n v = grind (arith, nat_tests, n, idle)

  status-assign : (rings : List (List Msg)) (bs : List Msg) (x : ℕ) → status_by (with_at rows q (Some (Held, call))) (with_at services q (Some (record (service_at services q) { worker = w }))) (with_at workers w (Some q)) rings bs x ≡ status_by rows services workers rings bs x
  status-assign rings bs x = go (x == q) refl
    where
      go : (b : Bool) → (x == q) ≡ b
          → status_in (state_in (if b then Some (Held, call) else rows x)) (call_in (if b then Some (Held, call) else rows x)) (unwrap_or (if b then Some (record (service_at services q) { worker = w }) else services x) no_service) (has_empty (with_at workers w (Some q)) x rings) (reply_code x bs)
          ≡ status_by rows services workers rings bs x
      go true e = let g : x ≡ q = grind (arith, nat_tests, e) in rw (g, is) refl
      go false e = ap (λ b. status_in (state_in (rows x)) (call_in (rows x)) (unwrap_or (services x) no_service) b (reply_code x bs)) (has_empty-same workers (with_at workers w (Some q)) x (serves-same x e) rings)

pub image_assign : (h : Here) (w : ℕ) → at h.side.linux.workers w ≡ None → ((p : ℕ) → tally (if_same p) h.side.book.waiting ≡ is_waiting (state_at (at h.side.book.rows) p)) → not (length h.side.book.waiting == 0) ≡ true
    → shown_own h.frames (record h.side { linux = (assign h.side.linux h.side.book w).0; book = (assign h.side.linux h.side.book w).1 }) ≡ shown_own h.frames h.side
unfolding assign
image_assign h w idle waits e =
    let n = not-empty h.side.book.waiting e in
    let q = n.0 in
    let f = waiting-first (at h.side.book.rows) q n.1 (rw n.2 at waits) in
    let a = reads-put h.side.linux.workers w q in
    let b = reads-stated Held q h.side.book.rows f.0 Waiting f.1 in
    let d = reads-put h.side.linux.services q (record (service_of h.side.linux.services q) { worker = w }) in
    let side' : Side = record h.side { linux = record h.side.linux { workers = put h.side.linux.workers w q; services = put h.side.linux.services q (record (service_of h.side.linux.services q) { worker = w }) }; book = record (with_state h.side.book q Held) { waiting = n.1 } } in
    rw n.2 (shown-same h.frames h.side side' refl refl (λ t c u. rw (a, b, d) (status-assign (at h.side.linux.workers) (at h.side.book.rows) (at h.side.linux.services) q w f.0 f.1 idle h.side.to_linux h.side.to_lwk c.request)))

-- ---- on the event itself
pub record MayAssign (h : Here) (w : ℕ) : Type 0 where
  pub below : w < h.workers
  pub idle : at h.side.linux.workers w ≡ None
  pub waits : not (length h.side.book.waiting == 0) ≡ true

pub may-assign : (h : Here) (q : Pid) (w : ℕ) → may_here (Events.Assign q w) h ≡ true → MayAssign h w
may-assign h q w e =
    let a = both (nat_lt w h.workers) (is_none (at h.side.linux.workers w) && not (length h.side.book.waiting == 0)) e in
    let c = both (is_none (at h.side.linux.workers w)) (not (length h.side.book.waiting == 0)) a.1 in
    record { below = grind (arith, nat_tests, a.0); idle = none-is (at h.side.linux.workers w) c.0; waits = c.1 }

module _ (p : ℕ) (h : Here) (ring_number : ℕ → ℕ) (k : OfProcess p h.side h.node h.workers ring_number) (q : Pid) (w : ℕ) (e : may_here (Events.Assign q w) h ≡ true) where
  pub keeps_assign : OfProcess p (after_here (Events.Assign q w) p h).side (after_here (Events.Assign q w) p h).node h.workers ring_number
  keeps_assign = let m = may-assign h q w e in keeps_assigned p h.side h.node h.workers ring_number k w m.below m.idle m.waits

  pub shows_assign : shown_here (after_here (Events.Assign q w) p h) ≡ shown_here h
  shows_assign =
      let m = may-assign h q w e in
      let s = image_assign h w m.idle k.served.waits m.waits in
      λ i. record { own = s i; node = h.node; free = length h.free; born = shown_born h.frames h.born }

  pub simulates_assign : Simulated (Events.Assign q w) p h
  simulates_assign = simulated-none (Events.Assign q w) p h refl shows_assign
