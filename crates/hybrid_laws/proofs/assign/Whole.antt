-- Assign in the whole state.
use Rattle.hybrid_model.specs.declared.events.Event.TheVariants as Events
use Rattle.hybrid_laws.proofs.assign.Assign.{keeps_assign, shows_assign, simulates_assign}
use Rattle.hybrid_laws.proofs.maps.Reading.{reads-put}
use Rattle.hybrid_laws.proofs.maps.Tests.{both}
use Rattle.hybrid_laws.proofs.states.Pair.{has-side}
use Rattle.hybrid_laws.proofs.states.Silent.{coherent-silent, turns-stay}
use Rattle.hybrid_laws.proofs.states.Steps.{SimulatedPair, simulated-pair}
use Rattle.hybrid_model.specs.Coherence.{service_at}
use Rattle.hybrid_model.specs.Events.{after, after_here, may, may_here}
use Rattle.hybrid_model.specs.Globals.{Coherent, ring_number, waits_or_held}
use Rattle.hybrid_model.specs.Assign.{assign}
use Rattle.hybrid_model.specs.Pairs.{Here, Pair, here}
use Rattle.hybrid_model.specs.Sides.{Service, Side, service_of, state_in, state_of, stated}
use Rattle.hybrid_model.specs.Spaces.{first_number}
use Rattle.hybrid_model.specs.Tallies.{Reads, with_at}
use Rattle.ikc_ring.specs.declared.CallRequest.{CallRequest}
use Rattle.kernel_model.specs.Nodes.{is_there}
use Rattle.kernel_model.specs.OneKernel.{OneHere}
use Rattle.mck_word.specs.MapLaws.{at-put}
use Rattle.mck_word.specs.Maps.{at}
use Rattle.mck_word.specs.declared.Pid.{Pid}
use Rattle.request_book.specs.declared.ReqState.TheVariants.{Held}
use Rattle.request_book.specs.declared.ReqState.{ReqState}
use Rattle.std.proofs.Common.{ap, arith, refl, ◌∙◌}
use Rattle.std.proofs.lemmas.Bool.Decides.{nat_tests}
use Rattle.std.specs.Prelude.{Bool, None, Option, Some, cond, false, true, ℕ, ◌==◌, ◌≡◌}

module _ (pair : Pair) (c : Coherent pair) (q : Pid) (w : ℕ) (e : may pair (Events.Assign q w) ≡ true) where
  abbrev p : ℕ
  p = q.0

  abbrev h : Here
  h = here pair p

  there : is_there pair.node p ≡ true
  there = let a = both (is_there pair.node p) (may_here (Events.Assign q w) h) e in a.0

  allowed : may_here (Events.Assign q w) h ≡ true
  allowed = let a = both (is_there pair.node p) (may_here (Events.Assign q w) h) e in a.1

  abbrev side' : Side
  side' = (after_here (Events.Assign q w) p h).side

  stay : (x : ℕ) → waits_or_held (state_of h.side.book x) ≡ true → (waits_or_held (state_of side'.book x) ≡ true) × ((service_of side'.linux.services x).progress ≡ (service_of h.side.linux.services x).progress)
  unfolding assign
  stay x u =
      let n = first_number h.side.book.waiting in
      let d = reads-put h.side.linux.services n (record (service_of h.side.linux.services n) { worker = w }) in
      (waits-after (at h.side.book.rows n) refl, rw d (same-progress (at h.side.linux.services) n))
    where
      same-progress : (services : Reads Service) (n : ℕ) → (service_at (with_at services n (Some (record (service_at services n) { worker = w }))) x).progress ≡ (service_at services x).progress
      same-progress services n = grind (arith, nat_tests)

      waits-after : (o : Option (ReqState × CallRequest)) → at h.side.book.rows (first_number h.side.book.waiting) ≡ o → waits_or_held (state_in (at (stated Held o (first_number h.side.book.waiting) h.side.book.rows) x)) ≡ true
      waits-after None f = u
      waits-after (Some r) f = ap (λ o. waits_or_held (state_in o)) (at-put h.side.book.rows (first_number h.side.book.waiting) (Held, r.1) x) ∙ go (x == first_number h.side.book.waiting)
        where
          go : (b : Bool) → waits_or_held (state_in (cond b (Some (Held, r.1)) (at h.side.book.rows x))) ≡ true
          go true = refl
          go false = u

  pub coherent_assign : Coherent (after pair (Events.Assign q w))
  unfolding assign
  coherent_assign = coherent-silent pair c p there side' pair.turns (keeps_assign p h (ring_number pair) (c.whole p) q w allowed) refl refl refl refl (ap (λ (o : OneHere). o.own) (shows_assign p h (ring_number pair) (c.whole p) q w allowed)) (turns-stay pair c p there side' stay)

  pub simulated_assign : SimulatedPair pair (Events.Assign q w)
  simulated_assign = simulated-pair pair p (has-side pair c.known p there) (Events.Assign q w) refl (simulates_assign p h (ring_number pair) (c.whole p) q w allowed) tt refl (λ x s n f. refl)
