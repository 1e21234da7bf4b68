-- Park in the whole state.
use Rattle.hybrid_model.specs.declared.events.Event.TheVariants as Events
use Rattle.file_model.specs.Files.{Files}
use Rattle.hybrid_laws.proofs.calls.Steps.{gives-back}
use Rattle.hybrid_laws.proofs.files.Descriptions.{carries-same}
use Rattle.hybrid_laws.proofs.maps.Tests.{both}
use Rattle.hybrid_laws.proofs.park.Park.{MayPark, after_park, kept, may-park, others-then, own-then, park-is, parked, simulates_park, status_then}
use Rattle.hybrid_laws.proofs.requests.OneRequest.{files-any}
use Rattle.hybrid_laws.proofs.requests.Speaking.{the-thread, thread-served-is}
use Rattle.hybrid_laws.proofs.requests.Statuses.{put-other}
use Rattle.hybrid_laws.proofs.states.Pair.{has-side}
use Rattle.hybrid_laws.proofs.states.Step.{coherent-step, found-held, under-way}
use Rattle.hybrid_laws.proofs.states.Steps.{AtMostOne, SimulatedPair, simulated-pair}
use Rattle.hybrid_laws.proofs.states.Turns.{stated-other}
use Rattle.hybrid_laws.specs.CallSteps.{Carries}
use Rattle.hybrid_model.specs.Coherence.{OfProcess}
use Rattle.hybrid_model.specs.Events.{after, may, may_here}
use Rattle.hybrid_model.specs.Globals.{Coherent, StatusHolds, description_held, ring_number, waits_or_held}
use Rattle.hybrid_model.specs.Park.{image_of_park}
use Rattle.hybrid_model.specs.Park.{files_if}
use Rattle.hybrid_model.specs.Answer.{thread_served}
use Rattle.hybrid_model.specs.Pairs.{Here, Pair, here, put_here}
use Rattle.hybrid_model.specs.Shown.{shown_own}
use Rattle.hybrid_model.specs.Sides.{Service, Side, no_service, served, service_of, state_in, state_of}
use Rattle.kernel_model.specs.Nodes.{Thread, is_there, no_thread, thread_of}
use Rattle.kernel_model.specs.OneKernel.{CallStatus}
use Rattle.kernel_model.specs.Progress.{interrupted_answer}
use Rattle.mck_word.specs.declared.Pid.{Pid}
use Rattle.request_book.specs.declared.ReqState.TheVariants.{Ended, Held, Parked}
use Rattle.std.proofs.Common.{ap, refl, subst, sym, ◌∙◌}
use Rattle.std.specs.Prelude.{Bool, Option, false, true, unwrap_or, ℕ, ◌==◌, ◌≡◌}

module _ (pair : Pair) (c : Coherent pair) (q : Pid) (w : ℕ) (e : may pair (Events.Park q w) ≡ true) where
  abbrev p : ℕ
  p = q.0

  abbrev h : Here
  h = here pair p

  there : is_there pair.node p ≡ true
  there = let a = both (is_there pair.node p) (may_here (Events.Park q w) h) e in a.0

  allowed : may_here (Events.Park q w) h ≡ true
  allowed = let a = both (is_there pair.node p) (may_here (Events.Park q w) h) e in a.1

  k : OfProcess p h.side h.node h.workers (ring_number pair)
  k = c.whole p

  abbrev park_may : MayPark h w
  park_may = may-park h q w allowed

  abbrev n : ℕ
  n = park_may.request.number

  abbrev before : Service
  before = service_of h.side.linux.services n

  abbrev side_left : Bool → Side
  side_left b = after_park p h (ring_number pair) k q w allowed b

  abbrev files_left : Bool → Files
  files_left b = files_if b before.progress h.node.files

  abbrev status_left : Bool → CallStatus
  status_left b = status_then p h (ring_number pair) k q w allowed b

  carried : (b : Bool) → Carries before.progress.found (description_held (status_left b)) pair.node.files.descriptions (files_left b).descriptions
  carried true = gives-back pair.node.files before.progress.found (found-held pair c p there w n park_may.request.call park_may.request.serving park_may.request.is)
  carried false = carries-same before.progress.found pair.node.files.descriptions

  goes : (b : Bool) → StatusHolds (status_left b)
  goes true = tt
  goes false = under-way pair c p there w n park_may.request.call park_may.request.serving park_may.request.is

  states : (b : Bool) (x : ℕ) → (x == n) ≡ false → waits_or_held (state_of h.side.book x) ≡ true → waits_or_held (state_of (side_left b).book x) ≡ true
  states true x f u = ap (λ o. waits_or_held (state_in o)) (stated-other Ended n h.side.book.rows x f) ∙ u
  states false x f u = ap (λ o. waits_or_held (state_in o)) (stated-other Parked n h.side.book.rows x f) ∙ u

  services : (b : Bool) (x : ℕ) → (x == n) ≡ false → (service_of (side_left b).linux.services x).progress ≡ (service_of h.side.linux.services x).progress
  services true x f = ap (λ (o : Option Service). (unwrap_or o no_service).progress) (put-other h.side.linux.services n (record before { answer = interrupted_answer before.progress }) x f)
  services false x f = refl

  by-way : (b : Bool) → Coherent (put_here pair p (parked p h (ring_number pair) k q w allowed b))
  by-way true = coherent-step pair c p there w n park_may.request.call park_may.request.serving park_may.request.is (side_left true) (files_left true) pair.frames (status_left true) refl
      (own-then p h (ring_number pair) k q w allowed true) (others-then p h (ring_number pair) k q w allowed true) (carried true) (goes true)
      (files-any p (side_left true) h.node h.workers (ring_number pair) (files_left true) (kept p h (ring_number pair) k q w allowed true)) refl refl refl (states true) (services true)
  by-way false = coherent-step pair c p there w n park_may.request.call park_may.request.serving park_may.request.is (side_left false) (files_left false) pair.frames (status_left false) refl
      (own-then p h (ring_number pair) k q w allowed false) (others-then p h (ring_number pair) k q w allowed false) (carried false) (goes false)
      (files-any p (side_left false) h.node h.workers (ring_number pair) (files_left false) (kept p h (ring_number pair) k q w allowed false)) refl refl refl (states false) (services false)

  pub coherent_park : Coherent (after pair (Events.Park q w))
  coherent_park = subst (λ (x : Here). Coherent (put_here pair p x)) (sym (park-is p h (ring_number pair) k q w allowed)) (by-way before.interrupted)

  thread-own : (thread_of pair.node (thread_served h.side w)).process ≡ p
  thread-own =
      let t = the-thread p h.side h.node h.workers (ring_number pair) k n Held park_may.request.call park_may.request.is refl in
      ap (λ (x : ℕ). (thread_of pair.node x).process) (thread-served-is h.side w n Held park_may.request.call park_may.request.serving park_may.request.is) ∙ ap (λ (o : Option Thread). (unwrap_or o no_thread).process) t.1 ∙ t.2

  one-at-most : (b : Bool) → AtMostOne pair.node p (image_of_park b (thread_served h.side w))
  one-at-most true = thread-own
  one-at-most false = thread-own

  pub simulated_park : SimulatedPair pair (Events.Park q w)
  simulated_park = simulated-pair pair p (has-side pair c.known p there) (Events.Park q w) refl (simulates_park p h (ring_number pair) k q w allowed) (one-at-most (served h.side.linux w).interrupted)
      (ap (λ (x : Here). x.born) (park-is p h (ring_number pair) k q w allowed))
      (λ x s j f. ap (λ (y : Here). shown_own y.frames s) (park-is p h (ring_number pair) k q w allowed))
