-- Finish in the whole state.
use Rattle.hybrid_model.specs.declared.events.Event.TheVariants as Events
use Rattle.hybrid_laws.proofs.finish.Finish.{keeps_finish, may-finish, simulates_finish}
use Rattle.hybrid_laws.proofs.maps.Tests.{both}
use Rattle.hybrid_laws.proofs.states.Pair.{has-side}
use Rattle.hybrid_laws.proofs.states.Silent.{coherent-silent, turns-stay}
use Rattle.hybrid_laws.proofs.states.Steps.{SimulatedPair, simulated-pair}
use Rattle.hybrid_model.specs.Coherence.{OfProcess}
use Rattle.hybrid_model.specs.Events.{after, after_here, may, may_here}
use Rattle.hybrid_model.specs.Finish.{finish_here}
use Rattle.hybrid_model.specs.Globals.{Coherent, ring_number, waits_or_held}
use Rattle.hybrid_model.specs.Finish.{finish}
use Rattle.hybrid_model.specs.Pairs.{Here, Pair, here}
use Rattle.hybrid_model.specs.Sides.{Service, Side, no_service, service_of, state_in, state_of}
use Rattle.kernel_model.specs.Nodes.{is_there}
use Rattle.kernel_model.specs.OneKernel.{OneHere}
use Rattle.mck_word.specs.MapLaws.{at-cut}
use Rattle.mck_word.specs.Maps.{at}
use Rattle.mck_word.specs.declared.Pid.{Pid}
use Rattle.std.proofs.Common.{ap, arith, refl, sym, ◌∙◌}
use Rattle.std.proofs.lemmas.Bool.Decides.{nat_tests}
use Rattle.std.specs.Prelude.{Bool, None, Option, cond, false, true, unwrap_or, ℕ, ◌==◌, ◌≡◌}

module _ (pair : Pair) (c : Coherent pair) (q : Pid) (w : ℕ) (e : may pair (Events.Finish q w) ≡ true) where
  abbrev p : ℕ
  p = q.0

  abbrev h : Here
  h = here pair p

  there : is_there pair.node p ≡ true
  there = let a = both (is_there pair.node p) (may_here (Events.Finish q w) h) e in a.0

  allowed : may_here (Events.Finish q w) h ≡ true
  allowed = let a = both (is_there pair.node p) (may_here (Events.Finish q w) h) e in a.1

  k : OfProcess p h.side h.node h.workers (ring_number pair)
  k = c.whole p

  abbrev side' : Side
  side' = (after_here (Events.Finish q w) p h).side

  abbrev n : ℕ
  n = (may-finish h q w allowed).request.number

  -- a request that waits or is held isn't the one that leaves
  other : (x : ℕ) → waits_or_held (state_of h.side.book x) ≡ true → (x == n) ≡ false
  other x u = go (x == n) refl
    where
      go : (b : Bool) → (x == n) ≡ b → b ≡ false
      go false f = refl
      go true f = absurd (let y : x ≡ n = grind (arith, nat_tests, f) in let is = (may-finish h q w allowed).request.is in let z = ap (λ o. waits_or_held (state_in o)) is in let v = ap (λ (j : ℕ). waits_or_held (state_of h.side.book j)) (sym y) ∙ u in grind (arith, z, v))

  stay : (x : ℕ) → waits_or_held (state_of h.side.book x) ≡ true → (waits_or_held (state_of side'.book x) ≡ true) × ((service_of side'.linux.services x).progress ≡ (service_of h.side.linux.services x).progress)
  unfolding finish_here finish
  stay x u =
      let s = (may-finish h q w allowed).request.serving in
      let f = other x u in
      rw s (
        ap (λ o. waits_or_held (state_in o)) (at-cut h.side.book.rows n x ∙ ap (λ b. cond b None (at h.side.book.rows x)) f) ∙ u,
        ap (λ (o : Option Service). (unwrap_or o no_service).progress) (at-cut h.side.linux.services n x ∙ ap (λ b. cond b None (at h.side.linux.services x)) f),
      )

  pub coherent_finish : Coherent (after pair (Events.Finish q w))
  unfolding finish_here finish
  coherent_finish = coherent-silent pair c p there side' pair.turns (keeps_finish p h (ring_number pair) k q w allowed) refl refl refl refl
      (ap (λ (o : OneHere). o.own) (sym (simulates_finish p h (ring_number pair) k q w allowed).leads))
      (turns-stay pair c p there side' stay)

  pub simulated_finish : SimulatedPair pair (Events.Finish q w)
  unfolding finish_here finish
  simulated_finish = simulated-pair pair p (has-side pair c.known p there) (Events.Finish q w) refl (simulates_finish p h (ring_number pair) k q w allowed) tt refl (λ x s n f. refl)
