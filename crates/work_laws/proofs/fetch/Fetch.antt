-- Fetch lessens the work, whichever message stands first in the ring.
use Rattle.hybrid_model.specs.declared.events.Event.TheVariants as Events
use Rattle.hybrid_laws.proofs.fetch.Fetch.{goes}
use Rattle.hybrid_laws.proofs.maps.Tests.{not-empty}
use Rattle.hybrid_model.specs.Coherence.{OfProcess, goes_to_linux}
use Rattle.hybrid_model.specs.Events.{may_here}
use Rattle.hybrid_model.specs.Fetch.{fetch_from}
use Rattle.hybrid_model.specs.Pairs.{Here}
use Rattle.hybrid_model.specs.Rings.{ring}
use Rattle.hybrid_model.specs.Tallies.{sum_rings}
use Rattle.ikc_ring.specs.declared.Msg.TheVariants.{Ack, Answer, Clear, Fault, Interrupt, Reply, Request}
use Rattle.ikc_ring.specs.declared.Msg.{Msg}
use Rattle.mck_word.specs.Maps.{count}
use Rattle.mck_word.specs.declared.Pid.{Pid}
use Rattle.std.proofs.Common.{arith, refl, subst, sym}
use Rattle.std.specs.Prelude.{List, None, Some, [], true, ℕ, ◌+◌, ◌∷◌, ◌≡◌, ◌≤◌}
use Rattle.work_laws.proofs.fetch.Answer.{empty-fetched, row-fetched}
use Rattle.work_laws.proofs.fetch.Clear.{answers, clear-fetched}
use Rattle.work_laws.proofs.fetch.Interrupt.{interrupt-fetched}
use Rattle.work_laws.proofs.fetch.Request.{request-fetched}
use Rattle.work_laws.proofs.sides.Wholes.{HerePays}
use Rattle.work_laws.specs.Weights.{of_side}

module _ (p : ℕ) (h : Here) (ring_number : ℕ → ℕ) (k : OfProcess p h.side h.node h.workers ring_number) (few : count h.side.book.rows ≤ 16) (few_answers : sum_rings answers h.side.to_linux ≤ h.workers) (q : Pid) (r : ℕ) where
  abbrev Less : List Msg → Type 0
  Less xs = of_side h.workers h.node.files (fetch_from r xs h).side + 1 ≤ of_side h.workers h.node.files h.side

  first-less : (m : Msg) (ms : List Msg) → ring r h.side.to_linux ≡ m ∷ ms → goes_to_linux m ≡ true → Less (m ∷ ms)
  first-less (Request c) ms first e = request-fetched p h ring_number k r c ms first
  first-less (Clear range) ms first e = clear-fetched p h ring_number k few few_answers r range ms first
  first-less (Answer w i n (Some row)) ms first e = row-fetched p h ring_number k few r w i n ms row first
  first-less (Answer w i n None) ms first e = empty-fetched p h ring_number k few r w i n ms first
  first-less (Interrupt n place) ms first e = interrupt-fetched h r n place ms first
  first-less (Reply n code) ms first e = absurd (grind (arith, e))
  first-less Ack ms first e = absurd (grind (arith, e))
  first-less (Fault w i a) ms first e = absurd (grind (arith, e))

  same-files : (xs : List Msg) → (fetch_from r xs h).node.files ≡ h.node.files
  same-files [] = refl
  same-files (m ∷ ms) = refl

  pub here_fetch : may_here (Events.Fetch q r) h ≡ true → HerePays p (Events.Fetch q r) h 1 0
  here_fetch e =
      let x = not-empty (ring r h.side.to_linux) e in
      let a = first-less x.0 x.1 x.2 (goes p h ring_number k q r x.0 x.1 x.2) in
      let b : Less (ring r h.side.to_linux) = subst Less (sym x.2) a in
      record { files = same-files (ring r h.side.to_linux); own = omega (arith, b) }
