-- Park keeps what holds of the process. It is the step Interrupted of the one-kernel machine where an Interrupt was fetched, and the step Block else.
use Rattle.hybrid_model.specs.declared.events.Event.TheVariants as Events
use Rattle.kernel_model.specs.declared.steps.Step.TheVariants as Steps
use Rattle.kernel_model.specs.Steps as OneSteps
use Rattle.hybrid_laws.proofs.maps.Reading.{Each-where, EachRing-where, reads-cut, reads-stated}
use Rattle.hybrid_laws.proofs.maps.Tests.{both}
use Rattle.hybrid_laws.proofs.requests.HeldStep.{keeps_step}
use Rattle.hybrid_laws.proofs.requests.OneRequest.{files-any, goes_on}
use Rattle.hybrid_laws.proofs.requests.Requests.{IsForNext-keeps, PinServes-keeps}
use Rattle.hybrid_laws.proofs.requests.Serving.{Serves, free-to-act}
use Rattle.hybrid_laws.proofs.requests.Silent.{serves-other}
use Rattle.hybrid_laws.proofs.requests.Speaking.{calls-after, shown-call-at, the-caller, thread-served-is}
use Rattle.hybrid_laws.proofs.requests.Statuses.{put-other, put-own, status-others, status-own}
use Rattle.hybrid_laws.proofs.rings.Back.{other-request}
use Rattle.hybrid_laws.proofs.states.Simulated.{simulated-one}
use Rattle.hybrid_laws.specs.Simulated.{Simulated}
use Rattle.hybrid_model.specs.Coherence.{AnswerIsFor, FaultIsFor, IsForNext, OfProcess, Served, answers_to, faults_of}
use Rattle.hybrid_model.specs.Events.{after_here, may_here}
use Rattle.hybrid_model.specs.Park.{park_here}
use Rattle.hybrid_model.specs.Turns.{give_up_turn}
use Rattle.hybrid_model.specs.Workers.{with_linux}
use Rattle.hybrid_model.specs.Images.{image_here}
use Rattle.hybrid_model.specs.Park.{image_of_park}
use Rattle.hybrid_model.specs.Park.{files_if, may_park, park_blocks, park_stops, parks}
use Rattle.hybrid_model.specs.Turns.{turn_given_up}
use Rattle.hybrid_model.specs.Workers.{is_free_to_act, kind_for}
use Rattle.hybrid_model.specs.Answer.{thread_served}
use Rattle.hybrid_model.specs.Pairs.{Here, with_side, with_node}
use Rattle.hybrid_model.specs.Shown.{shown_born, shown_call, shown_here, status_of}
use Rattle.hybrid_model.specs.Sides.{Noted, Service, Side, service_of, with_service, with_state, Book, LinuxSide, Caller}
use Rattle.hybrid_model.specs.Spaces.{shown_memory}
use Rattle.hybrid_model.specs.Tallies.{Reads, counted, sum_rings, tally, with_at}
use Rattle.ikc_ring.specs.declared.CallRequest.{CallRequest}
use Rattle.ikc_ring.specs.declared.Msg.TheVariants.{Ack, Answer, Clear, Fault, Interrupt, Reply, Request}
use Rattle.ikc_ring.specs.declared.Msg.{Msg}
use Rattle.kernel_model.specs.Nodes.{set_files}
use Rattle.kernel_model.specs.OneKernel.{Active, Blocked, CallStatus, Over}
use Rattle.kernel_model.specs.Progress.{interrupted_answer, is_not_ready, next_kind, Progress, given_back}
use Rattle.kernel_model.specs.Traps.{may_be_called_back}
use Rattle.mck_word.specs.Maps.{at, cut, each, put}
use Rattle.mck_word.specs.declared.Access.{Access}
use Rattle.mck_word.specs.declared.Pid.{Pid}
use Rattle.page_pins.specs.declared.Pin.{Pin}
use Rattle.request_book.specs.declared.ReqState.TheVariants.{Ended, Held, Parked}
use Rattle.request_book.specs.declared.ReqState.{ReqState}
use Rattle.std.proofs.Common.{arith, refl, subst, sym, ap, ◌∙◌}
use Rattle.std.proofs.lemmas.Bool.Decides.{nat_tests}
use Rattle.std.specs.Prelude.{Bool, List, None, Some, false, nat_lt, true, ℕ, ◌+◌, ◌<◌, ◌==◌, ◌≡◌, ◌≢◌, Option, unwrap_or, length, ◌&&◌, ◌||◌}

pub record MayPark (h : Here) (w : ℕ) : Type 0 where
  pub below : w < h.workers
  pub request : Serves h.side.linux h.side.book w Held
  pub no_pin : at h.side.linux.pins w ≡ None
  pub not_ready : is_not_ready (next_kind h.node.files (service_of h.side.linux.services request.number).progress) ≡ true

pub may-park : (h : Here) (q : Pid) (w : ℕ) → may_here (Events.Park q w) h ≡ true → MayPark h w
may-park h q w e =
    let a = both (nat_lt w h.workers) (may_park h.side.linux h.side.book h.node.files w) e in
    let b = both (is_free_to_act h.side.linux h.side.book w) (is_not_ready (kind_for h.side.linux h.node.files w)) a.1 in
    let c = free-to-act h.side.linux h.side.book w b.0 in
    let s = c.0.serving in
    record { below = grind (arith, nat_tests, a.0); request = c.0; no_pin = c.1; not_ready = rw s at b.1 }

-- ---- the worker leaves a request that is Parked
module _ (worker_count : ℕ) (workers : Reads ℕ) (rows : Reads (ReqState × CallRequest)) (services : Reads Service) (pins : Reads Pin) (waiting : List ℕ) (noted : Reads Noted) (rings : List (List Msg)) (bs : List Msg) (c : Served worker_count workers rows services pins waiting noted rings bs) (w q : ℕ) (call : CallRequest) (serving : workers w ≡ Some q) (is : rows q ≡ Some (Held, call)) (no_pin : pins w ≡ None) where
  abbrev rows' : Reads (ReqState × CallRequest)
  rows' = with_at rows q (Some (Parked, call))

  abbrev workers' : Reads ℕ
  workers' = with_at workers w None

  none-of-w : tally (faults_of w) bs + counted (noted w) + sum_rings (answers_to w) rings ≡ 0
  none-of-w = grind (arith, nat_tests, c.faults w, serving, is)

  others : (v i : ℕ) (a : Access) → v ≢ w → IsForNext workers services v i a → IsForNext workers' services v i a
  others v i a ne h = IsForNext-keeps workers workers' services services v i a h (let f : (v == w) ≡ false = grind (arith, nat_tests, ne) in rw f h.serves) refl

  fault-other : (m : Msg) → faults_of w m ≡ 0 → FaultIsFor workers services m → FaultIsFor workers' services m
  fault-other (Fault v i a) e h = others v i a (λ g. grind (arith, nat_tests, e, g)) h
  fault-other (Request y) e h = tt
  fault-other (Clear r) e h = tt
  fault-other (Answer v i n row) e h = tt
  fault-other (Interrupt n place) e h = tt
  fault-other (Reply n code) e h = tt
  fault-other Ack e h = tt

  answer-other : (m : Msg) → answers_to w m ≡ 0 → AnswerIsFor workers services m → AnswerIsFor workers' services m
  answer-other (Answer v i n row) e h = record { access = h.access; next = others v i h.access (λ g. grind (arith, nat_tests, e, g)) h.next; right = h.right }
  answer-other (Fault v i a) e h = tt
  answer-other (Request y) e h = tt
  answer-other (Clear r) e h = tt
  answer-other (Interrupt n place) e h = tt
  answer-other (Reply n code) e h = tt
  answer-other Ack e h = tt

  pub served_block : Served worker_count workers' rows' services pins waiting noted rings bs
  served_block = record {
    worker_below = λ v p e. grind (arith, nat_tests, e, c.worker_below v p);
    requests = λ p. grind (arith, nat_tests, is, c.requests p);
    waits = λ p. grind (arith, nat_tests, is, c.waits p);
    known = λ p. grind (arith, nat_tests, is, c.known p);
    workers_hold = λ v p e. grind (arith, nat_tests, is, e, serving, c.workers_hold v p, c.workers_hold w q);
    held_by = λ p v e. grind (arith, nat_tests, is, e, serving, c.held_by p v, c.workers_hold w q);
    faults = λ v. grind (arith, nat_tests, is, serving, c.faults v, c.workers_hold v q, c.workers_hold w q);
    fault_for = Each-where (faults_of w) (FaultIsFor workers services) (FaultIsFor workers' services) bs (omega (arith, none-of-w)) fault-other c.fault_for;
    noted_for = λ v n e. others v n.0 n.1 (λ g. grind (arith, nat_tests, e, g, none-of-w)) (c.noted_for v n e);
    answer_for = EachRing-where (answers_to w) (AnswerIsFor workers services) (AnswerIsFor workers' services) rings (omega (arith, none-of-w)) answer-other c.answer_for;
    pins_serve = λ v x e.
        let k = c.pins_serve v x e in
        let ne : v ≢ w = λ (g : v ≡ w). grind (arith, e, g, no_pin) in
        let n = other-request worker_count workers rows services pins waiting noted rings bs c w q serving v k.number k.serves ne in
        let f : (v == w) ≡ false = grind (arith, nat_tests, ne) in
        PinServes-keeps workers workers' rows rows' services services v x k (rw f k.serves) (rw n k.not_faulted) (λ u. (rw n refl, refl));
  }

-- the two ways, with the request named
stops-is : (l : LinuxSide) (b : Book) (w q : ℕ) → at l.workers w ≡ Some q → park_stops l b w ≡ (with_service l q (record (service_of l.services q) { answer = interrupted_answer (service_of l.services q).progress }), with_state b q Ended)
unfolding park_stops
stops-is l b w q s = rw s refl

blocks-is : (l : LinuxSide) (b : Book) (w q : ℕ) → at l.workers w ≡ Some q → park_blocks l b w ≡ (record l { workers = cut l.workers w }, with_state b q Parked)
unfolding park_blocks
blocks-is l b w q s = rw s refl

module _ (p : ℕ) (h : Here) (ring_number : ℕ → ℕ) (k : OfProcess p h.side h.node h.workers ring_number) (q : Pid) (w : ℕ) (e : may_here (Events.Park q w) h ≡ true) where
  abbrev pub m : MayPark h w
  m = may-park h q w e

  abbrev pub n : ℕ
  n = m.request.number

  abbrev pub before : Service
  before = service_of h.side.linux.services n

  abbrev pub stopped : Service
  stopped = record before { answer = interrupted_answer before.progress }

  abbrev pub after_park : Bool → Side
  after_park true = record h.side { linux = with_service h.side.linux n stopped; book = with_state h.side.book n Ended }
  after_park false = record h.side { linux = record h.side.linux { workers = cut h.side.linux.workers w }; book = with_state h.side.book n Parked }

  pub kept : (b : Bool) → OfProcess p (after_park b) h.node h.workers ring_number
  kept true = keeps_step p h.side h.node h.workers ring_number k w n m.request.call m.request.serving m.request.is m.no_pin Ended stopped refl refl refl refl refl refl refl refl
  kept false =
      let a = reads-cut h.side.linux.workers w in
      goes_on p h.side h.node h.workers ring_number k n Held Parked m.request.call m.request.is refl refl refl refl (record h.side.linux { workers = cut h.side.linux.workers w }) h.side.book.waiting (λ x. refl) k.covered k.rounded
      (rw a (served_block h.workers (at h.side.linux.workers) (at h.side.book.rows) (at h.side.linux.services) (at h.side.linux.pins) h.side.book.waiting (at h.side.lwk.noted) h.side.to_linux h.side.to_lwk k.served w n m.request.call m.request.serving m.request.is m.no_pin))

  -- the event's function with the request named
  abbrev pub parked : Bool → Here
  parked b = with_node (with_side (record h { turns = turn_given_up p h.side.linux h.node.files w h.turns }) (after_park b)) (set_files (files_if b before.progress h.node.files) h.node)

  abbrev placed : LinuxSide × Book → Bool → Progress → Here
  placed x b k = with_node (with_linux x (give_up_turn p w h)) (set_files (files_if b k h.node.files) h.node)

  by-mark : (b : Bool) → placed (parks b h.side.linux h.side.book w) b before.progress ≡ parked b
  by-mark true = ap (λ (x : LinuxSide × Book). placed x true before.progress) (stops-is h.side.linux h.side.book w n m.request.serving)
  by-mark false = ap (λ (x : LinuxSide × Book). placed x false before.progress) (blocks-is h.side.linux h.side.book w n m.request.serving)

  pub park-is : park_here p w h ≡ parked before.interrupted
  unfolding park_here
  park-is =
      ap (λ (o : Option ℕ). let k = service_of h.side.linux.services (unwrap_or o 0) in placed (parks k.interrupted h.side.linux h.side.book w) k.interrupted k.progress) m.request.serving
      ∙ by-mark before.interrupted

  pub keeps_park : OfProcess p (after_here (Events.Park q w) p h).side (after_here (Events.Park q w) p h).node h.workers ring_number
  keeps_park = subst (λ (x : Here). OfProcess p x.side x.node h.workers ring_number) (sym park-is) (files-any p (after_park before.interrupted) h.node h.workers ring_number (files_if before.interrupted before.progress h.node.files) (kept before.interrupted))

  -- ---- what is shown
  abbrev t : ℕ
  t = m.request.call.tid.0

  abbrev caller : Caller
  caller = (the-caller p h.side h.node h.workers ring_number k n Held m.request.call m.request.is refl).0

  call-is : at (each (shown_call h.side) h.side.lwk.callers) t ≡ Some (record { marked = caller.marked; status = Active before.progress })
  call-is = let is = m.request.is in rw is at (shown-call-at p h.side h.node h.workers ring_number k n Held m.request.call m.request.is refl)

  abbrev pub status_then : Bool → CallStatus
  status_then true = Over stopped.answer
  status_then false = Blocked before.progress

  pub own-then : (b : Bool) → status_of (after_park b) n ≡ status_then b
  own-then true = status-own h.side n Held Ended m.request.call m.request.is h.side.linux.mirror h.side.linux.pins h.side.linux.workers (put h.side.linux.services n stopped) h.side.linux.cleared h.side.book.waiting stopped (put-own h.side.linux.services n stopped)
  own-then false =
      let e = reads-stated Parked n h.side.book.rows m.request.call Held m.request.is in
      let same : (n == n) ≡ true = grind (arith, nat_tests) in
      rw (e, same) refl

  pub others-then : (b : Bool) (x : ℕ) → (x == n) ≡ false → status_of (after_park b) x ≡ status_of h.side x
  others-then true = status-others h.side n Held Ended m.request.call m.request.is h.side.linux.mirror h.side.linux.pins h.side.linux.workers (put h.side.linux.services n stopped) h.side.linux.cleared h.side.book.waiting (put-other h.side.linux.services n stopped) (λ x f v. refl)
  others-then false = status-others h.side n Held Parked m.request.call m.request.is h.side.linux.mirror h.side.linux.pins (cut h.side.linux.workers w) h.side.linux.services h.side.linux.cleared h.side.book.waiting (λ x f. refl)
      (λ x f v. let a = reads-cut h.side.linux.workers w in rw a (serves-other (at h.side.linux.workers) w n x None m.request.serving (λ z u. absurd (grind (arith, u))) f v))

  calls-then : (b : Bool) → put (each (shown_call h.side) h.side.lwk.callers) t (record { marked = caller.marked; status = status_then b }) ≡ each (shown_call (after_park b)) (after_park b).lwk.callers
  calls-then true = calls-after p h.side h.node h.workers ring_number k n Held m.request.call m.request.is refl (after_park true) (status_then true) (own-then true) (others-then true)
  calls-then false = calls-after p h.side h.node h.workers ring_number k n Held m.request.call m.request.is refl (after_park false) (status_then false) (own-then false) (others-then false)

  -- a call whose Interrupt was fetched is marked
  is-marked : before.interrupted ≡ true → caller.marked ≡ true
  is-marked e =
      let c = the-caller p h.side h.node h.workers ring_number k n Held m.request.call m.request.is refl in
      k.marked.fetched t c.0 c.1 (ap (λ (x : ℕ). (service_of h.side.linux.services x).interrupted) c.2 ∙ e)

  interrupted-may : before.interrupted ≡ true → OneSteps.may_here (Steps.Interrupted m.request.call.tid) (shown_here h) ≡ true
  interrupted-may e = let c = call-is in let f = is-marked e in let g = m.not_ready in ap (λ b. b || may_be_called_back h.node t) (active-may f g)
    where
      active-may : caller.marked ≡ true → is_not_ready (next_kind h.node.files before.progress) ≡ true → OneSteps.is_active (shown_here h) t (λ y. (OneSteps.call_at (shown_here h) t).marked && is_not_ready (next_kind h.node.files y)) ≡ true
      active-may f g = let c = call-is in rw (c, f) g

  block-may : OneSteps.may_here (Steps.Block m.request.call.tid) (shown_here h) ≡ true
  block-may = let c = call-is in rw c m.not_ready

  interrupted-after : OneSteps.after_here (Steps.Interrupted m.request.call.tid) p (shown_here h) ≡ shown_here (parked true)
  unfolding OneSteps.call_ended
  interrupted-after = let c = call-is in let x = calls-then true in
      rw (c, c) (λ i. record { own = record { memory = shown_memory h.side.lwk.table h.frames; calls = x i }; node = set_files (given_back before.progress h.node.files) h.node; free = length h.free; born = shown_born h.frames h.born })

  block-after : OneSteps.after_here (Steps.Block m.request.call.tid) p (shown_here h) ≡ shown_here (parked false)
  block-after = let c = call-is in let x = calls-then false in
      rw c (λ i. record { own = record { memory = shown_memory h.side.lwk.table h.frames; calls = x i }; node = h.node; free = length h.free; born = shown_born h.frames h.born })

  image-is : image_here (Events.Park q w) p h ≡ image_of_park before.interrupted t
  image-is = ap (λ (o : Option ℕ). image_of_park (service_of h.side.linux.services (unwrap_or o 0)).interrupted (thread_served h.side w)) m.request.serving
      ∙ ap (image_of_park before.interrupted) (thread-served-is h.side w n Held m.request.call m.request.serving m.request.is)

  by-way : (b : Bool) → before.interrupted ≡ b → Simulated (Events.Park q w) p h
  by-way true e = simulated-one (Events.Park q w) p h (Steps.Interrupted m.request.call.tid) (image-is ∙ ap (λ b. image_of_park b t) e) (interrupted-may e) (interrupted-after ∙ ap (λ b. shown_here (parked b)) (sym e) ∙ ap shown_here (sym park-is))
  by-way false e = simulated-one (Events.Park q w) p h (Steps.Block m.request.call.tid) (image-is ∙ ap (λ b. image_of_park b t) e) block-may (block-after ∙ ap (λ b. shown_here (parked b)) (sym e) ∙ ap shown_here (sym park-is))

  pub simulates_park : Simulated (Events.Park q w) p h
  simulates_park = by-way before.interrupted refl
