-- Answer without a row in the whole state: the call ends, and gives its description back.
use Rattle.hybrid_model.specs.declared.events.Event.TheVariants as Events
use Rattle.hybrid_laws.proofs.answer.Shown as shown
use Rattle.hybrid_laws.proofs.states.Calls as calls
use Rattle.file_model.specs.Files.{Files}
use Rattle.hybrid_laws.proofs.answer.Answer.{keeps_post_answer, may_be_answered}
use Rattle.hybrid_laws.proofs.answer.Shown.{simulated_answer_empty}
use Rattle.hybrid_laws.proofs.begin_vm.Whole.{length-post, rings-hold}
use Rattle.hybrid_laws.proofs.calls.Steps.{gives-back}
use Rattle.hybrid_laws.proofs.maps.Tests.{both}
use Rattle.hybrid_laws.proofs.requests.OneRequest.{files-any}
use Rattle.hybrid_laws.proofs.requests.Speaking.{the-thread, thread-served-is}
use Rattle.hybrid_laws.proofs.states.Calls.{calls-now}
use Rattle.hybrid_laws.proofs.states.Pair.{coherent-after, has-side, held-after, pair_after}
use Rattle.hybrid_laws.proofs.states.Steps.{AtMostOne, SimulatedPair, simulated-pair}
use Rattle.hybrid_laws.proofs.states.Turns.{turns-after}
use Rattle.hybrid_laws.proofs.trap.Begins.{ring-there}
use Rattle.hybrid_laws.specs.CallSteps.{Carries}
use Rattle.hybrid_model.specs.Events.{after, may, may_here}
use Rattle.hybrid_model.specs.Globals.{Coherent, TurnsHold, ring_number, waits_or_held}
use Rattle.hybrid_model.specs.Answer.{image_of_answer}
use Rattle.hybrid_model.specs.Images.{image_here}
use Rattle.hybrid_model.specs.Turns.{is_turn_for}
use Rattle.hybrid_model.specs.Answer.{answer_to, files_after_answer, noted_of, post_answer, thread_served}
use Rattle.hybrid_model.specs.Pairs.{Here, Pair, here, ring_of, side_of}
use Rattle.hybrid_model.specs.Shown.{status_of}
use Rattle.hybrid_model.specs.Sides.{Row, Side, Turn, served, service_of, state_in, state_of}
use Rattle.ikc_ring.specs.declared.CallRequest.{CallRequest}
use Rattle.ikc_ring.specs.declared.Msg.TheVariants.{Answer}
use Rattle.kernel_model.specs.Nodes.{Thread, is_there, no_thread, thread_of}
use Rattle.kernel_model.specs.OneKernel.{Active, Over}
use Rattle.kernel_model.specs.Progress.{Progress, fault_answer}
use Rattle.mck_word.specs.Maps.{at}
use Rattle.mck_word.specs.declared.Pid.{Pid}
use Rattle.request_book.specs.declared.ReqState.TheVariants.{Faulted}
use Rattle.request_book.specs.declared.ReqState.{ReqState}
use Rattle.std.proofs.Common.{ap, arith, refl, subst, sym, ◌∙◌}
use Rattle.std.proofs.lemmas.Bool.Decides.{nat_tests}
use Rattle.std.specs.Prelude.{Bool, None, Option, Some, false, true, unwrap_or, ℕ, ◌==◌, ◌≡◌}

module _ (pair : Pair) (c : Coherent pair) (q : Pid) (w : ℕ) (e : may pair (Events.Answer q w) ≡ true) (none : answer_to (side_of pair q.0) w ≡ None) where
  abbrev p : ℕ
  p = q.0

  abbrev h : Here
  h = here pair p

  there : is_there pair.node p ≡ true
  there = (both (is_there pair.node p) (may_here (Events.Answer q w) h) e).0

  allowed : may_here (Events.Answer q w) h ≡ true
  allowed = (both (is_there pair.node p) (may_here (Events.Answer q w) h) e).1

  abbrev side : Side
  side = post_answer (ring_of h (thread_served h.side w)) w h.side

  abbrev n : ℕ
  n = shown.number p q w h allowed pair.workers (ring_number pair) (c.whole p) none

  abbrev call : CallRequest
  call = (shown.faulted p q w h allowed pair.workers (ring_number pair) (c.whole p) none).0

  is : at h.side.book.rows n ≡ Some (Faulted, call)
  is = (shown.faulted p q w h allowed pair.workers (ring_number pair) (c.whole p) none).1

  abbrev progress : Progress
  progress = (service_of h.side.linux.services n).progress

  active : status_of h.side n ≡ Active progress
  active = shown.status-now p q w h allowed pair.workers (ring_number pair) (c.whole p) none

  abbrev files : Files
  files = files_after_answer (answer_to h.side w) (served h.side.linux w).progress h.node.files

  carried : Carries progress.found None pair.node.files.descriptions files.descriptions
  carried = subst (λ (f : Files). Carries progress.found None pair.node.files.descriptions f.descriptions) (shown.files p q w h allowed pair.workers (ring_number pair) (c.whole p) none)
      (gives-back pair.node.files progress.found (calls.found-held pair c p there n Faulted call is refl active))

  now : status_of side n ≡ Over (fault_answer progress)
  unfolding post_answer
  now = shown.status-own p q w h allowed pair.workers (ring_number pair) (c.whole p) none

  others : (x : ℕ) → (x == n) ≡ false → status_of side x ≡ status_of h.side x
  unfolding post_answer
  others x f = shown.status-other p q w h allowed pair.workers (ring_number pair) (c.whole p) none x f

  -- a request that Faulted has no turn
  no-turn : (t : Turn) (x : ℕ) → at pair.turns x ≡ Some t → is_turn_for p n (Some t) ≡ false
  no-turn t x i = go (is_turn_for p n (Some t)) refl
    where
      go : (b : Bool) → is_turn_for p n (Some t) ≡ b → b ≡ false
      go false f = refl
      go true f =
          absurd (let a = both (t.process == p) (t.request == n) f in
          let y : t.process ≡ p = grind (arith, nat_tests, a.0) in
          let z : t.request ≡ n = grind (arith, nat_tests, a.1) in
          let u : waits_or_held (state_of (side_of pair p).book n) ≡ true = ap (λ (j : ℕ). waits_or_held (state_of (side_of pair p).book j)) (sym z) ∙ ap (λ (j : ℕ). waits_or_held (state_of (side_of pair j).book t.request)) (sym y) ∙ (c.turns x t i).waits in
          let v : waits_or_held (state_of (side_of pair p).book n) ≡ false = ap (λ (o : Option (ReqState × CallRequest)). waits_or_held (state_in o)) is in
          grind (arith, u, v))

  turns : TurnsHold (pair_after pair c p there side files pair.frames pair.turns)
  unfolding post_answer
  turns = turns-after pair c p there side files pair.frames pair.turns n (λ x t i f. i)
      (λ x i. absurd (let a = no-turn (record { process = p; request = n }) x i in let b : (p == p) ≡ true = grind (arith, nat_tests) in let d : (n == n) ≡ true = grind (arith, nat_tests) in let z = rw (b, d) at a in grind (arith, z)))
      (λ x f u. u) (λ x f. refl)
      (calls.ends-stay pair c p there n Faulted call is refl active side files (Over (fault_answer progress)) refl now others carried tt)

  pub coherent_answer_empty : Coherent (after pair (Events.Answer q w))
  unfolding post_answer
  coherent_answer_empty = coherent-after pair c p there side files pair.frames pair.turns
      (files-any p side h.node pair.workers (ring_number pair) files
      (keeps_post_answer p (side_of pair p) pair.node pair.workers (ring_number pair) (c.whole p) w (ring_of h (thread_served h.side w)) (may_be_answered p q w h allowed)))
      refl refl (length-post (ring_of h (thread_served h.side w)) (Answer w (noted_of h.side w).0 h.side.lwk.begun (answer_to h.side w)) h.side.to_linux (ring-there h (thread_served h.side w) (rings-hold pair c p there)))
      turns
      (held-after pair c p there side files pair.frames pair.turns (λ d. let a = carried.calls d in let b = calls.holders-now pair c p there n Faulted call is refl active side files (Over (fault_answer progress)) refl now others carried tt d in omega (arith, a, b)))
      (calls.calls-now pair c p there n Faulted call is refl active side files (Over (fault_answer progress)) refl now others carried tt)

  pub simulated_pair_answer_empty : SimulatedPair pair (Events.Answer q w)
  unfolding post_answer
  simulated_pair_answer_empty = simulated-pair pair p (has-side pair c.known p there) (Events.Answer q w) refl
      (simulated_answer_empty p q w h allowed pair.workers (ring_number pair) (c.whole p) none) most refl (λ x s m f. refl)
    where
      thread-own : (thread_of pair.node (thread_served h.side w)).process ≡ p
      thread-own =
          let t = the-thread p h.side h.node h.workers (ring_number pair) (c.whole p) n Faulted call is refl in
          ap (λ (x : ℕ). (thread_of pair.node x).process) (thread-served-is h.side w n Faulted call (shown.next p q w h allowed pair.workers (ring_number pair) (c.whole p) none).serves is) ∙ ap (λ (o : Option Thread). (unwrap_or o no_thread).process) t.1 ∙ t.2

      most : AtMostOne pair.node p (image_here (Events.Answer q w) p h)
      most = subst (λ (o : Option Row). AtMostOne pair.node p (image_of_answer o (thread_served h.side w))) (sym none) thread-own
