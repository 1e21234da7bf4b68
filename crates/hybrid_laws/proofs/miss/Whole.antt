-- Miss in the whole state.
use Rattle.hybrid_model.specs.declared.events.Event.TheVariants as Events
use Rattle.hybrid_laws.proofs.maps.Tests.{both}
use Rattle.hybrid_laws.proofs.miss.Miss.{keeps_miss, may-miss, simulates_miss}
use Rattle.hybrid_laws.proofs.states.Pair.{has-side}
use Rattle.hybrid_laws.proofs.states.Silent.{coherent-silent}
use Rattle.hybrid_laws.proofs.states.Steps.{SimulatedPair, simulated-pair}
use Rattle.hybrid_laws.proofs.states.Turns.{stated-other, turns-given-up}
use Rattle.hybrid_model.specs.Coherence.{OfProcess}
use Rattle.hybrid_model.specs.Events.{after, after_here, may, may_here}
use Rattle.hybrid_model.specs.Miss.{miss}
use Rattle.hybrid_model.specs.Globals.{Coherent, ring_number, waits_or_held}
use Rattle.hybrid_model.specs.Turns.{turn_given_up}
use Rattle.hybrid_model.specs.Pairs.{Here, Pair, here}
use Rattle.hybrid_model.specs.Sides.{Side, Turn, state_in}
use Rattle.kernel_model.specs.Nodes.{is_there}
use Rattle.kernel_model.specs.OneKernel.{OneHere}
use Rattle.mck_word.specs.Maps.{Map}
use Rattle.mck_word.specs.declared.Pid.{Pid}
use Rattle.request_book.specs.declared.ReqState.TheVariants.{Faulted}
use Rattle.std.proofs.Common.{ap, refl, sym, ◌∙◌}
use Rattle.std.specs.Prelude.{true, ℕ, ◌≡◌}

module _ (pair : Pair) (c : Coherent pair) (q : Pid) (w : ℕ) (e : may pair (Events.Miss q w) ≡ true) where
  abbrev p : ℕ
  p = q.0

  abbrev h : Here
  h = here pair p

  there : is_there pair.node p ≡ true
  there = let a = both (is_there pair.node p) (may_here (Events.Miss q w) h) e in a.0

  allowed : may_here (Events.Miss q w) h ≡ true
  allowed = let a = both (is_there pair.node p) (may_here (Events.Miss q w) h) e in a.1

  k : OfProcess p h.side h.node h.workers (ring_number pair)
  k = c.whole p

  abbrev side' : Side
  side' = (after_here (Events.Miss q w) p h).side

  abbrev n : ℕ
  n = (may-miss h q w allowed).request.number

  abbrev turns' : Map Turn
  turns' = turn_given_up p h.side.linux h.node.files w h.turns

  pub coherent_miss : Coherent (after pair (Events.Miss q w))
  unfolding miss
  coherent_miss = coherent-silent pair c p there side' turns' (keeps_miss p h (ring_number pair) k q w allowed) refl refl refl refl
      (ap (λ (o : OneHere). o.own) (sym (simulates_miss p h (ring_number pair) k q w allowed).leads))
      (turns-given-up pair c p there side' pair.node.files pair.frames w n (may-miss h q w allowed).request.serving
      (λ x f. let s = (may-miss h q w allowed).request.serving in λ u. rw s (ap (λ o. waits_or_held (state_in o)) (stated-other Faulted n h.side.book.rows x f) ∙ u))
      (λ x f. refl) (λ t e i f y. y))

  pub simulated_miss : SimulatedPair pair (Events.Miss q w)
  unfolding miss
  simulated_miss = simulated-pair pair p (has-side pair c.known p there) (Events.Miss q w) refl (simulates_miss p h (ring_number pair) k q w allowed) tt refl (λ x s n f. refl)
