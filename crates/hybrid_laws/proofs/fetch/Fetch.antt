-- Fetch keeps what holds of the process, and shows nothing, whichever message stands first in the ring.
use Rattle.hybrid_model.specs.declared.events.Event.TheVariants as Events
use Rattle.hybrid_laws.proofs.fetch.AnswerKeeps.{keeps_fetch_empty, keeps_fetch_row}
use Rattle.hybrid_laws.proofs.fetch.AnswerShown.{image_fetch_empty, image_fetch_row}
use Rattle.hybrid_laws.proofs.fetch.Clear.{image_fetch_clear, keeps_fetch_clear}
use Rattle.hybrid_laws.proofs.fetch.Interrupt.{image_fetch_interrupt, keeps_fetch_interrupt}
use Rattle.hybrid_laws.proofs.fetch.Request.{keeps_fetch_request}
use Rattle.hybrid_laws.proofs.fetch.RequestShown.{image_fetch_request}
use Rattle.hybrid_laws.proofs.maps.Reading.{first-of}
use Rattle.hybrid_laws.proofs.requests.Silent.{shown-as}
use Rattle.hybrid_laws.proofs.states.Simulated.{simulated-none}
use Rattle.hybrid_laws.specs.Simulated.{Simulated}
use Rattle.hybrid_model.specs.Coherence.{OfProcess, goes_to_linux}
use Rattle.hybrid_model.specs.Events.{after_here}
use Rattle.hybrid_model.specs.Fetch.{fetch_from}
use Rattle.hybrid_model.specs.Pairs.{Here}
use Rattle.hybrid_model.specs.Rings.{ring}
use Rattle.hybrid_model.specs.Shown.{shown_here}
use Rattle.ikc_ring.specs.declared.Msg.TheVariants.{Ack, Answer, Clear, Fault, Interrupt, Reply, Request}
use Rattle.ikc_ring.specs.declared.Msg.{Msg}
use Rattle.kernel_model.specs.Pages.{range}
use Rattle.mck_word.specs.declared.Pid.{Pid}
use Rattle.std.proofs.Common.{arith, refl}
use Rattle.std.specs.Prelude.{List, None, Some, [], true, ℕ, ◌∷◌, ◌≡◌}

module _ (p : ℕ) (h : Here) (ring_number : ℕ → ℕ) (k : OfProcess p h.side h.node h.workers ring_number) (q : Pid) (r : ℕ) where
  abbrev Kept : List Msg → Type 0
  Kept ms = OfProcess p (fetch_from r ms h).side (fetch_from r ms h).node h.workers ring_number

  keeps_first : (m : Msg) (ms : List Msg) → ring r h.side.to_linux ≡ m ∷ ms → goes_to_linux m ≡ true → Kept (m ∷ ms)
  keeps_first (Request c) ms first e = keeps_fetch_request p h.side h.node h.workers ring_number k r c ms first
  keeps_first (Clear range) ms first e = keeps_fetch_clear p h.side h.node h.workers ring_number k r range ms first
  keeps_first (Answer w i n (Some row)) ms first e = keeps_fetch_row p h.side h.node h.workers ring_number k r w i n row ms first
  keeps_first (Answer w i n None) ms first e = keeps_fetch_empty p h.side h.node h.workers ring_number k r w i n None ms first
  keeps_first (Interrupt n place) ms first e = keeps_fetch_interrupt p h.side h.node h.workers ring_number k r n place ms first
  keeps_first (Reply n code) ms first e = absurd (grind (arith, e))
  keeps_first Ack ms first e = absurd (grind (arith, e))
  keeps_first (Fault w i a) ms first e = absurd (grind (arith, e))

  shows_first : (m : Msg) (ms : List Msg) → ring r h.side.to_linux ≡ m ∷ ms → goes_to_linux m ≡ true → shown_here (fetch_from r (m ∷ ms) h) ≡ shown_here h
  shows_first (Request c) ms first e = shown-as h (fetch_from r (Request c ∷ ms) h).side (image_fetch_request h.frames p h.side h.node h.workers ring_number k r c ms first)
  shows_first (Clear range) ms first e = image_fetch_clear h r range ms first
  shows_first (Answer w i n (Some row)) ms first e = shown-as h (fetch_from r (Answer w i n (Some row) ∷ ms) h).side (image_fetch_row p h.side h.node h.workers ring_number k r w i n ms h.frames row first)
  shows_first (Answer w i n None) ms first e = shown-as h (fetch_from r (Answer w i n None ∷ ms) h).side (image_fetch_empty p h.side h.node h.workers ring_number k r w i n ms h.frames first)
  shows_first (Interrupt n place) ms first e = image_fetch_interrupt h r n place ms first
  shows_first (Reply n code) ms first e = absurd (grind (arith, e))
  shows_first Ack ms first e = absurd (grind (arith, e))
  shows_first (Fault w i a) ms first e = absurd (grind (arith, e))

  pub goes : (m : Msg) (ms : List Msg) → ring r h.side.to_linux ≡ m ∷ ms → goes_to_linux m ≡ true
  goes m ms first = first-of (λ x. goes_to_linux x ≡ true) r m ms h.side.to_linux first k.directions.to_linux

  pub keeps_any : (xs : List Msg) → ring r h.side.to_linux ≡ xs → Kept xs
  keeps_any [] e = k
  keeps_any (m ∷ ms) e = keeps_first m ms e (goes m ms e)

  pub shows_any : (xs : List Msg) → ring r h.side.to_linux ≡ xs → shown_here (fetch_from r xs h) ≡ shown_here h
  shows_any [] e = refl
  shows_any (m ∷ ms) e = shows_first m ms e (goes m ms e)

  pub keeps_fetch : OfProcess p (after_here (Events.Fetch q r) p h).side (after_here (Events.Fetch q r) p h).node h.workers ring_number
  keeps_fetch = keeps_any (ring r h.side.to_linux) refl

  pub simulates_fetch : Simulated (Events.Fetch q r) p h
  simulates_fetch = simulated-none (Events.Fetch q r) p h refl (shows_any (ring r h.side.to_linux) refl)
