-- Unpark keeps what holds of the process, and is the step Wake of the one-kernel machine.
use Rattle.hybrid_model.specs.declared.events.Event.TheVariants as Events
use Rattle.kernel_model.specs.declared.steps.Step.TheVariants as Steps
use Rattle.kernel_model.specs.Steps as OneSteps
use Rattle.file_model.specs.declared.operations.Readiness.TheVariants.{Ready, NotReady, FileStep}
use Rattle.file_model.specs.declared.operations.Readiness.{Readiness}
use Rattle.hybrid_laws.proofs.maps.Reading.{reads-stated, tally-push}
use Rattle.hybrid_laws.proofs.maps.Tests.{both}
use Rattle.hybrid_laws.proofs.requests.OneRequest.{goes_on}
use Rattle.hybrid_laws.proofs.requests.Requests.{PinServes-keeps}
use Rattle.hybrid_laws.proofs.requests.Serving.{parked-in}
use Rattle.hybrid_laws.proofs.requests.Speaking.{calls-after, shown-call-at, the-caller}
use Rattle.hybrid_laws.proofs.states.Simulated.{simulated-one}
use Rattle.hybrid_laws.specs.Simulated.{Simulated}
use Rattle.hybrid_model.specs.Coherence.{OfProcess, Served}
use Rattle.hybrid_model.specs.Events.{after_here, may_here}
use Rattle.hybrid_model.specs.Unpark.{unpark_here}
use Rattle.hybrid_model.specs.OneProcess.{one_step}
use Rattle.hybrid_model.specs.Turns.{other_has_turn, pipe_end}
use Rattle.hybrid_model.specs.Unpark.{may_take_turn, unpark}
use Rattle.hybrid_model.specs.Workers.{is_parked}
use Rattle.hybrid_model.specs.Pairs.{Here}
use Rattle.hybrid_model.specs.Shown.{shown_born, shown_call, shown_here}
use Rattle.hybrid_model.specs.Sides.{Caller, Noted, Service, Side, call_in, service_of, state_of, with_state}
use Rattle.hybrid_model.specs.Spaces.{shown_memory}
use Rattle.hybrid_model.specs.Tallies.{Reads, if_same, with_at}
use Rattle.ikc_ring.specs.declared.CallRequest.{CallRequest}
use Rattle.ikc_ring.specs.declared.Msg.{Msg}
use Rattle.kernel_model.specs.OneKernel.{Active, Blocked}
use Rattle.kernel_model.specs.Progress.{is_file_step, is_not_ready, is_ready, next_kind}
use Rattle.mck_word.specs.Identifiers.{tid}
use Rattle.mck_word.specs.Maps.{at, each, put}
use Rattle.mck_word.specs.declared.Req.{Req}
use Rattle.page_pins.specs.declared.Pin.{Pin}
use Rattle.request_book.specs.declared.ReqState.TheVariants.{Parked, Waiting}
use Rattle.request_book.specs.declared.ReqState.{ReqState}
use Rattle.std.proofs.Common.{ap, arith, refl, ◌∙◌}
use Rattle.std.proofs.lemmas.Bool.Decides.{nat_tests}
use Rattle.std.specs.Prelude.{Bool, List, Option, Some, [], false, length, not, true, ℕ, ◌&&◌, ◌++◌, ◌==◌, ◌||◌, ◌∷◌, ◌≡◌}

pub record MayUnpark (p : ℕ) (h : Here) (q : ℕ) : Type 0 where
  pub call : CallRequest
  pub is : at h.side.book.rows q ≡ Some (Parked, call)
  pub wakes : ((service_of h.side.linux.services q).interrupted || not (is_not_ready (next_kind h.node.files (service_of h.side.linux.services q).progress))) ≡ true

-- a request that may be taken up again is marked, ready or at a file step
wakes-if : (i turn : Bool) (kind : Readiness) → (i || is_file_step kind || (is_ready kind && turn)) ≡ true → (i || not (is_not_ready kind)) ≡ true
wakes-if true turn kind e = refl
wakes-if false turn Ready e = refl
wakes-if false turn NotReady e = absurd (grind (arith, e))
wakes-if false turn FileStep e = refl

pub may-unpark : (p : ℕ) (h : Here) (n : Req) → may_here (Events.Unpark (record { 0 = p }) n) h ≡ true → MayUnpark p h n.0
may-unpark p h n e =
    let k = service_of h.side.linux.services n.0 in
    let kind = next_kind h.node.files k.progress in
    let a = both (is_parked (state_of h.side.book n.0)) (k.interrupted || is_file_step kind || may_take_turn p h.side.linux h.node.files h.turns n.0) e in
    let c = parked-in h.side.linux h.side.book n.0 a.0 in
    record { call = c.0; is = c.1; wakes = wakes-if k.interrupted (not (other_has_turn h.turns (pipe_end h.node.files k.progress) p n.0)) kind a.1 }

module _ (worker_count : ℕ) (workers : Reads ℕ) (rows : Reads (ReqState × CallRequest)) (services : Reads Service) (pins : Reads Pin) (waiting : List ℕ) (noted : Reads Noted) (rings : List (List Msg)) (bs : List Msg) (c : Served worker_count workers rows services pins waiting noted rings bs) (q : ℕ) (call : CallRequest) (is : rows q ≡ Some (Parked, call)) where
  abbrev rows' : Reads (ReqState × CallRequest)
  rows' = with_at rows q (Some (Waiting, call))

  not-served : (v n : ℕ) → workers v ≡ Some n → (n == q) ≡ false
  not-served v n e = go (n == q) refl
    where
      go : (b : Bool) → (n == q) ≡ b → b ≡ false
      go false f = refl
      go true f = absurd (let g : n ≡ q = grind (arith, nat_tests, f) in let a = c.workers_hold v n e in grind (arith, a, g, is))

  pub served_unpark : Served worker_count workers rows' services pins (waiting ++ q ∷ []) noted rings bs
  served_unpark = record {
    worker_below = c.worker_below;
    requests = λ p. grind (arith, nat_tests, is, c.requests p);
    waits = λ p. let t = tally-push (if_same p) waiting q in grind (arith, nat_tests, t, is, c.waits p);
    known = λ p. grind (arith, nat_tests, is, c.known p);
    workers_hold = λ v p e. let n = not-served v p e in grind (arith, nat_tests, is, e, n, c.workers_hold v p);
    held_by = λ p v e. grind (arith, nat_tests, is, e, c.held_by p v);
    faults = λ v. grind (arith, nat_tests, is, c.faults v, c.workers_hold v q);
    fault_for = c.fault_for;
    noted_for = c.noted_for;
    answer_for = c.answer_for;
    pins_serve = λ v x e.
        let k = c.pins_serve v x e in
        let n = not-served v k.number k.serves in
        PinServes-keeps workers workers rows rows' services services v x k k.serves (rw n k.not_faulted) (λ u. (rw n refl, refl));
  }

module _ (p : ℕ) (h : Here) (ring_number : ℕ → ℕ) (k : OfProcess p h.side h.node h.workers ring_number) (n : Req) (e : may_here (Events.Unpark (record { 0 = p }) n) h ≡ true) where
  abbrev m : MayUnpark p h n.0
  m = may-unpark p h n e

  abbrev q : ℕ
  q = n.0

  abbrev before : Service
  before = service_of h.side.linux.services q

  abbrev side' : Side
  side' = record h.side { book = record (with_state h.side.book q Waiting) { waiting = h.side.book.waiting ++ q ∷ [] } }

  pub keeps_unpark : OfProcess p (after_here (Events.Unpark (record { 0 = p }) n) p h).side (after_here (Events.Unpark (record { 0 = p }) n) p h).node h.workers ring_number
  unfolding unpark_here unpark
  keeps_unpark = goes_on p h.side h.node h.workers ring_number k q Parked Waiting m.call m.is refl refl refl refl h.side.linux (h.side.book.waiting ++ q ∷ []) (λ x. refl) k.covered k.rounded
      (served_unpark h.workers (at h.side.linux.workers) (at h.side.book.rows) (at h.side.linux.services) (at h.side.linux.pins) h.side.book.waiting (at h.side.lwk.noted) h.side.to_linux h.side.to_lwk k.served q m.call m.is)

  abbrev caller : Caller
  caller = (the-caller p h.side h.node h.workers ring_number k q Parked m.call m.is refl).0

  call-is : at (each (shown_call h.side) h.side.lwk.callers) m.call.tid.0 ≡ Some (record { marked = caller.marked; status = Blocked before.progress })
  call-is = let is = m.is in rw is at (shown-call-at p h.side h.node h.workers ring_number k q Parked m.call m.is refl)

  is-marked : before.interrupted ≡ true → caller.marked ≡ true
  is-marked e =
      let c = the-caller p h.side h.node h.workers ring_number k q Parked m.call m.is refl in
      k.marked.fetched m.call.tid.0 c.0 c.1 (ap (λ (x : ℕ). (service_of h.side.linux.services x).interrupted) c.2 ∙ e)

  marked-wakes : (i c r : Bool) → (i ≡ true → c ≡ true) → (i || r) ≡ true → (c || r) ≡ true
  marked-wakes true c r f u = ap (λ b. b || r) (f refl)
  marked-wakes false true r f u = refl
  marked-wakes false false r f u = u

  step-may : OneSteps.may_here (Steps.Wake m.call.tid) (shown_here h) ≡ true
  step-may = let c = call-is in rw c (marked-wakes before.interrupted caller.marked (not (is_not_ready (next_kind h.node.files before.progress))) is-marked m.wakes)

  calls-now : put (each (shown_call h.side) h.side.lwk.callers) m.call.tid.0 (record { marked = caller.marked; status = Active before.progress }) ≡ each (shown_call side') h.side.lwk.callers
  calls-now = calls-after p h.side h.node h.workers ring_number k q Parked m.call m.is refl side' (Active before.progress)
      (let f = reads-stated Waiting q h.side.book.rows m.call Parked m.is in let same : (q == q) ≡ true = grind (arith, nat_tests) in rw (f, same) refl)
      (λ x f. let g = reads-stated Waiting q h.side.book.rows m.call Parked m.is in rw (g, f) refl)

  step-after : OneSteps.after_here (Steps.Wake m.call.tid) p (shown_here h) ≡ shown_here (after_here (Events.Unpark (record { 0 = p }) n) p h)
  unfolding unpark_here unpark
  step-after = let c = call-is in let x = calls-now in
      rw c (λ i. record { own = record { memory = shown_memory h.side.lwk.table h.frames; calls = x i }; node = h.node; free = length h.free; born = shown_born h.frames h.born })

  pub simulates_unpark : Simulated (Events.Unpark (record { 0 = p }) n) p h
  simulates_unpark = simulated-one (Events.Unpark (record { 0 = p }) n) p h (Steps.Wake m.call.tid)
      (ap (λ (o : Option (ReqState × CallRequest)). one_step (Steps.Wake (tid (call_in o).tid.0))) m.is) step-may step-after
