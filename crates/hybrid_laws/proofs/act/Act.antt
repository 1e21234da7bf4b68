-- Act keeps what holds of the process, and is the step FileStep of the one-kernel machine.
use Rattle.hybrid_model.specs.declared.events.Event.TheVariants as Events
use Rattle.kernel_model.specs.declared.steps.Step.TheVariants as Steps
use Rattle.kernel_model.specs.Steps as OneSteps
use Rattle.hybrid_laws.proofs.maps.Tests.{both}
use Rattle.hybrid_laws.proofs.requests.HeldStep.{keeps_step, state-facts}
use Rattle.hybrid_laws.proofs.requests.OneRequest.{files-any}
use Rattle.hybrid_laws.proofs.requests.Serving.{Serves, free-to-act}
use Rattle.hybrid_laws.proofs.requests.Speaking.{calls-after, shown-call-at, the-caller, thread-served-is}
use Rattle.hybrid_laws.proofs.requests.Statuses.{put-other, put-own, status-if, status-others, status-own}
use Rattle.hybrid_laws.proofs.states.Simulated.{simulated-one}
use Rattle.hybrid_laws.specs.Simulated.{Simulated}
use Rattle.hybrid_model.specs.Coherence.{OfProcess}
use Rattle.hybrid_model.specs.Act.{act_file}
use Rattle.hybrid_model.specs.Events.{after_here, may_here}
use Rattle.hybrid_model.specs.OneProcess.{one_step}
use Rattle.hybrid_model.specs.Act.{acted, may_act}
use Rattle.hybrid_model.specs.Turns.{turn_given_up}
use Rattle.hybrid_model.specs.Workers.{is_free_to_act, kind_for, state_if, stepped_service}
use Rattle.hybrid_model.specs.Pairs.{Here}
use Rattle.hybrid_model.specs.Shown.{has_empty, reply_code, shown_born, shown_call, status_of, shown_here}
use Rattle.hybrid_model.specs.Sides.{Service, Side, service_of, with_service, with_state, Caller}
use Rattle.hybrid_model.specs.Spaces.{shown_memory}
use Rattle.kernel_model.specs.Nodes.{set_files}
use Rattle.kernel_model.specs.OneKernel.{Active}
use Rattle.kernel_model.specs.Progress.{After, is_file_step, next_kind, take_file_step}
use Rattle.kernel_model.specs.Steps.{status_after}
use Rattle.mck_word.specs.Identifiers.{tid}
use Rattle.mck_word.specs.Maps.{at, each, put}
use Rattle.mck_word.specs.declared.Pid.{Pid}
use Rattle.request_book.specs.declared.ReqState.TheVariants.{Held}
use Rattle.std.proofs.Common.{arith, refl, ap, ◌∙◌}
use Rattle.std.proofs.lemmas.Bool.Decides.{nat_tests}
use Rattle.std.specs.Prelude.{None, nat_lt, true, ℕ, ◌<◌, ◌≡◌, Some, false, length, ◌==◌}

pub record MayAct (h : Here) (w : ℕ) : Type 0 where
  pub below : w < h.workers
  pub request : Serves h.side.linux h.side.book w Held
  pub no_pin : at h.side.linux.pins w ≡ None
  pub file_step : is_file_step (next_kind h.node.files (service_of h.side.linux.services request.number).progress) ≡ true

pub may-act : (h : Here) (q : Pid) (w : ℕ) → may_here (Events.Act q w) h ≡ true → MayAct h w
may-act h q w e =
    let a = both (nat_lt w h.workers) (may_act h.side.linux h.side.book h.node.files w) e in
    let b = both (is_free_to_act h.side.linux h.side.book w) (is_file_step (kind_for h.side.linux h.node.files w)) a.1 in
    let c = free-to-act h.side.linux h.side.book w b.0 in
    let s = c.0.serving in
    record { below = grind (arith, nat_tests, a.0); request = c.0; no_pin = c.1; file_step = rw s at b.1 }

module _ (p : ℕ) (h : Here) (ring_number : ℕ → ℕ) (k : OfProcess p h.side h.node h.workers ring_number) (q : Pid) (w : ℕ) (e : may_here (Events.Act q w) h ≡ true) where
  abbrev pub m : MayAct h w
  m = may-act h q w e

  abbrev pub n : ℕ
  n = m.request.number

  abbrev pub before : Service
  before = service_of h.side.linux.services n

  abbrev pub a : After
  a = take_file_step before.progress h.node.files p

  abbrev pub side' : Side
  side' = record h.side { linux = with_service h.side.linux n (stepped_service before a); book = with_state h.side.book n (state_if a.ended) }

  pub kept : OfProcess p side' h.node h.workers ring_number
  kept =
      let f = state-facts a.ended w in
      keeps_step p h.side h.node h.workers ring_number k w n m.request.call m.request.serving m.request.is m.no_pin (state_if a.ended) (stepped_service before a) f.0 f.1 f.2 f.3 f.4 f.5 refl refl

  pub keeps_act : OfProcess p (after_here (Events.Act q w) p h).side (after_here (Events.Act q w) p h).node h.workers ring_number
  unfolding act_file acted
  keeps_act = let s = m.request.serving in rw s (files-any p side' h.node h.workers ring_number a.files kept)

  abbrev t : ℕ
  t = m.request.call.tid.0

  abbrev caller : Caller
  caller = (the-caller p h.side h.node h.workers ring_number k n Held m.request.call m.request.is refl).0

  call-is : at (each (shown_call h.side) h.side.lwk.callers) t ≡ Some (record { marked = caller.marked; status = Active before.progress })
  call-is = let is = m.request.is in rw is at (shown-call-at p h.side h.node h.workers ring_number k n Held m.request.call m.request.is refl)

  pub others : (x : ℕ) → (x == n) ≡ false → status_of side' x ≡ status_of h.side x
  others = status-others h.side n Held (state_if a.ended) m.request.call m.request.is h.side.linux.mirror h.side.linux.pins h.side.linux.workers (put h.side.linux.services n (stepped_service before a)) h.side.linux.cleared h.side.book.waiting
      (put-other h.side.linux.services n (stepped_service before a)) (λ x f v. refl)

  pub now : status_of side' n ≡ status_after a
  now = status-own h.side n Held (state_if a.ended) m.request.call m.request.is h.side.linux.mirror h.side.linux.pins h.side.linux.workers (put h.side.linux.services n (stepped_service before a)) h.side.linux.cleared h.side.book.waiting
      (stepped_service before a) (put-own h.side.linux.services n (stepped_service before a))
      ∙ status-if a m.request.call before (has_empty (at h.side.linux.workers) n h.side.to_linux) (reply_code n h.side.to_lwk)

  step-may : OneSteps.may_here (Steps.FileStep m.request.call.tid) (shown_here h) ≡ true
  step-may = let c = call-is in let f = m.file_step in rw c f

  step-after : OneSteps.after_here (Steps.FileStep m.request.call.tid) p (shown_here h) ≡ shown_here (after_here (Events.Act q w) p h)
  unfolding act_file acted
  step-after =
      let s = m.request.serving in
      let c = call-is in
      let x = calls-after p h.side h.node h.workers ring_number k n Held m.request.call m.request.is refl side' (status_after a) now others in
      rw (s, c) (λ i. record { own = record { memory = shown_memory h.side.lwk.table h.frames; calls = x i }; node = set_files a.files h.node; free = length h.free; born = shown_born h.frames h.born })

  pub simulates_act : Simulated (Events.Act q w) p h
  simulates_act = simulated-one (Events.Act q w) p h (Steps.FileStep m.request.call.tid)
      (ap (λ x. one_step (Steps.FileStep (tid x))) (thread-served-is h.side w n Held m.request.call m.request.serving m.request.is)) step-may step-after

  -- the event's function with the request named
  pub act-is : act_file p w h ≡ record h { side = side'; node = set_files a.files h.node; turns = turn_given_up p h.side.linux h.node.files w h.turns }
  unfolding act_file acted
  act-is = let s = m.request.serving in rw s refl
