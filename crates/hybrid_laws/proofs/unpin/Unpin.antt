-- Unpin keeps what holds of the process, and shows nothing.
use Rattle.hybrid_model.specs.declared.events.Event.TheVariants as Events
use Rattle.hybrid_laws.proofs.maps.Reading.{reads-cut}
use Rattle.hybrid_laws.proofs.states.Simulated.{simulated-none}
use Rattle.hybrid_laws.specs.Simulated.{Simulated}
use Rattle.hybrid_model.specs.Coherence.{Covers, OfProcess, PinServes, acked_at}
use Rattle.hybrid_model.specs.Events.{after_here}
use Rattle.hybrid_model.specs.Unpin.{unpin}
use Rattle.hybrid_model.specs.Pairs.{Here}
use Rattle.hybrid_model.specs.Tallies.{Reads, with_at}
use Rattle.mck_word.specs.Maps.{at}
use Rattle.mck_word.specs.declared.Pid.{Pid}
use Rattle.page_pins.specs.declared.Pin.{Pin}
use Rattle.std.proofs.Common.{arith, refl}
use Rattle.std.specs.Prelude.{Bool, None, Some, false, if◌then◌else◌, true, ℕ, ◌==◌, ◌≡◌}

module _ (p : ℕ) (h : Here) (ring_number : ℕ → ℕ) (k : OfProcess p h.side h.node h.workers ring_number) (q : Pid) (w : ℕ) where
  abbrev pins' : Reads Pin
  pins' = with_at (at h.side.linux.pins) w None

  of-old : (P : ℕ → Pin → Type 0) → ((v : ℕ) (x : Pin) → at h.side.linux.pins v ≡ Some x → P v x) → (v : ℕ) (x : Pin) → pins' v ≡ Some x → P v x
  of-old P old v x u = go (v == w) u
    where
      go : (b : Bool) → (if b then None else at h.side.linux.pins v) ≡ Some x → P v x
      go true u = absurd (grind (arith, u))
      go false u = old v x u

  pub keeps_unpin : OfProcess p (after_here (Events.Unpin q w) p h).side (after_here (Events.Unpin q w) p h).node h.workers ring_number
  unfolding unpin
  keeps_unpin =
      let d = reads-cut h.side.linux.pins w in
      record {
        covered = rw d (record { mirror_rows = k.covered.mirror_rows; answers = k.covered.answers; not_ahead = k.covered.not_ahead; pin_rows = of-old (λ v x. Covers (at h.side.lwk.table) x.page (x.frame, x.rights)) k.covered.pin_rows });
        rounded = rw d (record { clears_are = k.rounded.clears_are; acks_are = k.rounded.acks_are; clear_of = k.rounded.clear_of; fetched = k.rounded.fetched; outside = k.rounded.outside; mirror_outside = k.rounded.mirror_outside; pins_outside = of-old (λ v x. acked_at h.side.round x.page ≡ false) k.rounded.pins_outside });
        owned = k.owned;
        served = rw d (record {
          worker_below = k.served.worker_below;
          requests = k.served.requests;
          waits = k.served.waits;
          known = k.served.known;
          workers_hold = k.served.workers_hold;
          held_by = k.served.held_by;
          faults = k.served.faults;
          fault_for = k.served.fault_for;
          noted_for = k.served.noted_for;
          answer_for = k.served.answer_for;
          pins_serve = of-old (PinServes (at h.side.linux.workers) (at h.side.book.rows) (at h.side.linux.services)) k.served.pins_serve;
        });
        answered = k.answered;
        calls = k.calls;
        asked = k.asked;
        interrupts = k.interrupts;
        directions = k.directions;
        messages = k.messages;
        marked = k.marked;
      }

pub simulates_unpin : (p : ℕ) (h : Here) (q : Pid) (w : ℕ) → Simulated (Events.Unpin q w) p h
unfolding unpin
simulates_unpin p h q w = simulated-none (Events.Unpin q w) p h refl refl
