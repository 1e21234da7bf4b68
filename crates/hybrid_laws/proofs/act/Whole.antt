-- Act in the whole state.
use Rattle.hybrid_model.specs.declared.events.Event.TheVariants as Events
use Rattle.hybrid_laws.proofs.act.Act.{MayAct, act-is, kept, may-act, now, others, simulates_act}
use Rattle.hybrid_laws.proofs.calls.Laws.{carries-file-step}
use Rattle.hybrid_laws.proofs.maps.Tests.{both}
use Rattle.hybrid_laws.proofs.requests.OneRequest.{files-any}
use Rattle.hybrid_laws.proofs.requests.Speaking.{the-thread, thread-served-is}
use Rattle.hybrid_laws.proofs.requests.Statuses.{put-other}
use Rattle.hybrid_laws.proofs.states.Pair.{has-side}
use Rattle.hybrid_laws.proofs.states.Step.{coherent-step, found-held, under-way}
use Rattle.hybrid_laws.proofs.states.Steps.{SimulatedPair, simulated-pair}
use Rattle.hybrid_laws.proofs.states.Turns.{stated-other}
use Rattle.hybrid_laws.specs.CallSteps.{StepCarries}
use Rattle.hybrid_model.specs.Coherence.{OfProcess}
use Rattle.hybrid_model.specs.Act.{act_file}
use Rattle.hybrid_model.specs.Events.{after, may, may_here}
use Rattle.hybrid_model.specs.Globals.{Coherent, ring_number, waits_or_held}
use Rattle.hybrid_model.specs.Workers.{state_if, stepped_service}
use Rattle.hybrid_model.specs.Answer.{thread_served}
use Rattle.hybrid_model.specs.Pairs.{Here, Pair, here, put_here}
use Rattle.hybrid_model.specs.Sides.{Service, Side, no_service, service_of, state_in, with_service, with_state}
use Rattle.kernel_model.specs.Nodes.{Thread, is_there, no_thread, thread_of}
use Rattle.kernel_model.specs.Progress.{After, take_file_step}
use Rattle.kernel_model.specs.Steps.{status_after}
use Rattle.mck_word.specs.declared.Pid.{Pid}
use Rattle.request_book.specs.declared.ReqState.TheVariants.{Held}
use Rattle.std.proofs.Common.{ap, refl, subst, sym, ◌∙◌}
use Rattle.std.specs.Prelude.{Option, true, unwrap_or, ℕ, ◌≡◌}

module _ (pair : Pair) (c : Coherent pair) (q : Pid) (w : ℕ) (e : may pair (Events.Act q w) ≡ true) where
  abbrev p : ℕ
  p = q.0

  abbrev h : Here
  h = here pair p

  there : is_there pair.node p ≡ true
  there = let a = both (is_there pair.node p) (may_here (Events.Act q w) h) e in a.0

  allowed : may_here (Events.Act q w) h ≡ true
  allowed = let a = both (is_there pair.node p) (may_here (Events.Act q w) h) e in a.1

  k : OfProcess p h.side h.node h.workers (ring_number pair)
  k = c.whole p

  abbrev act_may : MayAct h w
  act_may = may-act h q w allowed

  abbrev n : ℕ
  n = act_may.request.number

  abbrev before : Service
  before = service_of h.side.linux.services n

  abbrev left : After
  left = take_file_step before.progress h.node.files p

  abbrev side_left : Side
  side_left = record h.side { linux = with_service h.side.linux n (stepped_service before left); book = with_state h.side.book n (state_if left.ended) }

  carried : StepCarries before.progress pair.node.files left
  carried = carries-file-step before.progress pair.node.files p (under-way pair c p there w n act_may.request.call act_may.request.serving act_may.request.is) (found-held pair c p there w n act_may.request.call act_may.request.serving act_may.request.is)

  pub coherent_act : Coherent (after pair (Events.Act q w))
  coherent_act = subst (λ (x : Here). Coherent (put_here pair p x)) (sym (act-is p h (ring_number pair) k q w allowed))
      (coherent-step pair c p there w n act_may.request.call act_may.request.serving act_may.request.is side_left left.files pair.frames (status_after left) refl
      (now p h (ring_number pair) k q w allowed) (others p h (ring_number pair) k q w allowed) carried.kept carried.goes
      (files-any p side_left h.node h.workers (ring_number pair) left.files (kept p h (ring_number pair) k q w allowed)) refl refl refl
      (λ x f u. ap (λ o. waits_or_held (state_in o)) (stated-other (state_if left.ended) n h.side.book.rows x f) ∙ u)
      (λ x f. ap (λ (o : Option Service). (unwrap_or o no_service).progress) (put-other h.side.linux.services n (stepped_service before left) x f)))

  thread-own : (thread_of pair.node (thread_served h.side w)).process ≡ p
  thread-own =
      let t = the-thread p h.side h.node h.workers (ring_number pair) k n Held act_may.request.call act_may.request.is refl in
      ap (λ (x : ℕ). (thread_of pair.node x).process) (thread-served-is h.side w n Held act_may.request.call act_may.request.serving act_may.request.is) ∙ ap (λ (o : Option Thread). (unwrap_or o no_thread).process) t.1 ∙ t.2

  pub simulated_act : SimulatedPair pair (Events.Act q w)
  unfolding act_file
  simulated_act = simulated-pair pair p (has-side pair c.known p there) (Events.Act q w) refl (simulates_act p h (ring_number pair) k q w allowed) thread-own refl (λ x s n f. refl)
