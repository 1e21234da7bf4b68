-- Unpark in the whole state.
use Rattle.hybrid_model.specs.declared.events.Event.TheVariants as Events
use Rattle.file_model.specs.Files.{description_of}
use Rattle.hybrid_laws.proofs.maps.Reading.{reads-stated}
use Rattle.hybrid_laws.proofs.maps.Tests.{both}
use Rattle.hybrid_laws.proofs.requests.Speaking.{the-thread}
use Rattle.hybrid_laws.proofs.states.Pair.{coherent-after, has-side, held-after, pair_after}
use Rattle.hybrid_laws.proofs.states.Steps.{SimulatedPair, simulated-pair}
use Rattle.hybrid_laws.proofs.states.Turns.{holders-same, stated-other, turns-after}
use Rattle.hybrid_laws.proofs.unpark.Unpark.{MayUnpark, keeps_unpark, may-unpark, simulates_unpark}
use Rattle.hybrid_model.specs.Coherence.{OfProcess}
use Rattle.hybrid_model.specs.Events.{after, may, may_here}
use Rattle.hybrid_model.specs.Unpark.{unpark_here}
use Rattle.hybrid_model.specs.Globals.{Coherent, TurnsHold, description_held, ring_number, waits_or_held, CallsHold, StatusHolds}
use Rattle.hybrid_model.specs.Turns.{is_turn_for, pipe_end, with_turn}
use Rattle.hybrid_model.specs.Unpark.{may_take_turn, turns_after_unpark, unpark}
use Rattle.hybrid_model.specs.Pairs.{Here, Pair, here}
use Rattle.hybrid_model.specs.Shown.{has_empty, reply_code, status_in, status_of}
use Rattle.hybrid_model.specs.Sides.{Side, Turn, call_in, service_of, state_in, state_of, with_state}
use Rattle.hybrid_model.specs.Tallies.{Reads, with_at}
use Rattle.ikc_ring.specs.declared.CallRequest.{CallRequest}
use Rattle.kernel_model.specs.Nodes.{Thread, is_there, no_thread, thread_of}
use Rattle.kernel_model.specs.OneKernel.{Active, Blocked}
use Rattle.mck_word.specs.MapLaws.{at-put}
use Rattle.mck_word.specs.Maps.{at}
use Rattle.mck_word.specs.declared.Pid.{Pid}
use Rattle.mck_word.specs.declared.Req.{Req}
use Rattle.request_book.specs.declared.ReqState.TheVariants.{Parked, Waiting}
use Rattle.request_book.specs.declared.ReqState.{ReqState}
use Rattle.std.proofs.Common.{ap, arith, refl, sym, ◌∙◌, subst}
use Rattle.std.proofs.lemmas.Bool.Decides.{nat_tests}
use Rattle.std.specs.Prelude.{Bool, None, Option, Some, [], cond, false, if◌then◌else◌, true, unwrap_or, ℕ, ◌++◌, ◌+◌, ◌==◌, ◌∷◌, ◌≡◌}

module _ (pair : Pair) (c : Coherent pair) (q : Pid) (n : Req) (e : may pair (Events.Unpark q n) ≡ true) where
  abbrev p : ℕ
  p = q.0

  abbrev h : Here
  h = here pair p

  there : is_there pair.node p ≡ true
  there = let a = both (is_there pair.node p) (may_here (Events.Unpark q n) h) e in a.0

  allowed : may_here (Events.Unpark q n) h ≡ true
  allowed = let a = both (is_there pair.node p) (may_here (Events.Unpark q n) h) e in a.1

  k : OfProcess p h.side h.node h.workers (ring_number pair)
  k = c.whole p

  m : MayUnpark p h n.0
  m = may-unpark p h n allowed

  abbrev side' : Side
  side' = record h.side { book = record (with_state h.side.book n.0 Waiting) { waiting = h.side.book.waiting ++ n.0 ∷ [] } }

  abbrev end : Option ℕ
  end = pipe_end h.node.files (service_of h.side.linux.services n.0).progress

  rows-now : (x : ℕ) → at side'.book.rows x ≡ with_at (at h.side.book.rows) n.0 (Some (Waiting, m.call)) x
  rows-now x = ap (λ (f : Reads (ReqState × CallRequest)). f x) (reads-stated Waiting n.0 h.side.book.rows m.call Parked m.is)

  waits-now : waits_or_held (state_of side'.book n.0) ≡ true
  waits-now = ap (λ o. waits_or_held (state_in o)) (rows-now n.0) ∙ (let b : (n.0 == n.0) ≡ true = grind (arith, nat_tests) in rw b refl)

  -- a Parked request has no turn
  no-turn : (e : ℕ) → at h.turns e ≡ Some (record { process = p; request = n.0 }) → ⊥
  no-turn e is = let t = c.turns e (record { process = p; request = n.0 }) is in let w = t.waits in let z = ap (λ o. waits_or_held (state_in o)) m.is in grind (arith, w, z)

  with-was : (o : Option ℕ) (e : ℕ) (t : Turn) → at (with_turn p n.0 o h.turns) e ≡ Some t → is_turn_for p n.0 (Some t) ≡ false → at h.turns e ≡ Some t
  with-was None e t is f = is
  with-was (Some d) e t is f = go (e == d) (sym (at-put h.turns d (record { process = p; request = n.0 }) e) ∙ is)
    where
      go : (b : Bool) → cond b (Some (record { process = p; request = n.0 })) (at h.turns e) ≡ Some t → at h.turns e ≡ Some t
      go false j = j
      go true j = absurd (let y : record { process = p; request = n.0 } ≡ t = cc in
          let a : (p == p) ≡ true = grind (arith, nat_tests) in let b : (n.0 == n.0) ≡ true = grind (arith, nat_tests) in
          let z : is_turn_for p n.0 (Some (record { process = p; request = n.0 })) ≡ true = rw (a, b) refl in
          let v = ap (λ (x : Turn). is_turn_for p n.0 (Some x)) y in grind (arith, z, v, f))

  with-own : (o : Option ℕ) (e : ℕ) → at (with_turn p n.0 o h.turns) e ≡ Some (record { process = p; request = n.0 }) → o ≡ Some e
  with-own None e is = absurd (no-turn e is)
  with-own (Some d) e is = go (e == d) refl (sym (at-put h.turns d (record { process = p; request = n.0 }) e) ∙ is)
    where
      go : (b : Bool) → (e == d) ≡ b → cond b (Some (record { process = p; request = n.0 })) (at h.turns e) ≡ Some (record { process = p; request = n.0 }) → Some d ≡ Some e
      go true f j = ap Some (let y : d ≡ e = grind (arith, nat_tests, f) in y)
      go false f j = absurd (no-turn e j)

  turns-of : (b : Bool) → TurnsHold (pair_after pair c p there side' pair.node.files pair.frames (cond b (with_turn p n.0 end h.turns) h.turns))
  turns-of true = turns-after pair c p there side' pair.node.files pair.frames (with_turn p n.0 end h.turns) n.0 (with-was end)
      (λ e is. (waits-now, with-own end e is))
      (λ x f u. ap (λ o. waits_or_held (state_in o)) (stated-other Waiting n.0 h.side.book.rows x f) ∙ u) (λ x f. refl) (λ t e i f y. y)
  turns-of false = turns-after pair c p there side' pair.node.files pair.frames h.turns n.0 (λ e t is f. is) (λ e is. absurd (no-turn e is))
      (λ x f u. ap (λ o. waits_or_held (state_in o)) (stated-other Waiting n.0 h.side.book.rows x f) ∙ u) (λ x f. refl) (λ t e i f y. y)

  held-same : (x : ℕ) → description_held (status_of side' x) ≡ description_held (status_of h.side x)
  held-same x = ap (λ o. description_held (status_in (state_in o) (call_in o) (service_of h.side.linux.services x) (has_empty (at h.side.linux.workers) x h.side.to_linux) (reply_code x h.side.to_lwk))) (rows-now x) ∙ go (x == n.0) refl
    where
      go : (b : Bool) → (x == n.0) ≡ b → description_held (status_in (state_in (if b then Some (Waiting, m.call) else at h.side.book.rows x)) (call_in (if b then Some (Waiting, m.call) else at h.side.book.rows x)) (service_of h.side.linux.services x) (has_empty (at h.side.linux.workers) x h.side.to_linux) (reply_code x h.side.to_lwk)) ≡ description_held (status_of h.side x)
      go false f = refl
      go true f = let y : x ≡ n.0 = grind (arith, nat_tests, f) in let is = m.is in rw (y, is) refl

  calls-now : CallsHold side'
  calls-now t x f = go (x.request == n.0) refl (c.calls p t x f)
    where
      before : status_of h.side n.0 ≡ Blocked (service_of h.side.linux.services n.0).progress
      before = let is = m.is in rw is refl

      now : status_of side' n.0 ≡ Active (service_of h.side.linux.services n.0).progress
      now = ap (λ o. status_in (state_in o) (call_in o) (service_of h.side.linux.services n.0) (has_empty (at h.side.linux.workers) n.0 h.side.to_linux) (reply_code n.0 h.side.to_lwk)) (rows-now n.0) ∙ (let b : (n.0 == n.0) ≡ true = grind (arith, nat_tests) in rw b refl)

      other : (x.request == n.0) ≡ false → status_of side' x.request ≡ status_of h.side x.request
      other g = ap (λ o. status_in (state_in o) (call_in o) (service_of h.side.linux.services x.request) (has_empty (at h.side.linux.workers) x.request h.side.to_linux) (reply_code x.request h.side.to_lwk)) (stated-other Waiting n.0 h.side.book.rows x.request g)

      go : (b : Bool) → (x.request == n.0) ≡ b → StatusHolds (status_of h.side x.request) → StatusHolds (status_of side' x.request)
      go false g u = subst StatusHolds (sym (other g)) u
      go true g u =
          let y : x.request ≡ n.0 = grind (arith, nat_tests, g) in
          subst (λ (j : ℕ). StatusHolds (status_of side' j)) (sym y) (subst StatusHolds (sym now) (subst StatusHolds before (subst (λ (j : ℕ). StatusHolds (status_of h.side j)) y u)))

  pub coherent_unpark : Coherent (after pair (Events.Unpark q n))
  unfolding unpark_here unpark turns_after_unpark
  coherent_unpark = coherent-after pair c p there side' pair.node.files pair.frames (turns_after_unpark p h.side.linux h.node.files h.turns n.0) (keeps_unpark p h (ring_number pair) k n allowed) refl refl refl
      (turns-of (may_take_turn p h.side.linux h.node.files h.turns n.0))
      (held-after pair c p there side' pair.node.files pair.frames (turns_after_unpark p h.side.linux h.node.files h.turns n.0) (λ d. ap (λ j. (description_of pair.node.files d).calls + j) (sym (holders-same side' h.side refl (λ t x f. held-same x.request) d))))
      calls-now

  thread-own : (thread_of pair.node m.call.tid.0).process ≡ p
  thread-own = let t = the-thread p h.side h.node h.workers (ring_number pair) k n.0 Parked m.call m.is refl in ap (λ (o : Option Thread). (unwrap_or o no_thread).process) t.1 ∙ t.2

  pub simulated_unpark : SimulatedPair pair (Events.Unpark q n)
  unfolding unpark_here
  simulated_unpark = simulated-pair pair p (has-side pair c.known p there) (Events.Unpark q n) refl (simulates_unpark p h (ring_number pair) k n allowed)
      (ap (λ (o : Option (ReqState × CallRequest)). (thread_of pair.node (call_in o).tid.0).process) m.is ∙ thread-own) refl (λ x s n f. refl)
