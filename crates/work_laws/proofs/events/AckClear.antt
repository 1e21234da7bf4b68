-- AckClear lessens the work: the round that was Taken is Acked, for one Ack.
use Rattle.hybrid_model.specs.declared.events.Event.TheVariants as Events
use Rattle.clear_rounds.specs.declared.Phase.TheVariants.{Acked}
use Rattle.hybrid_laws.proofs.ack_clear.AckClear.{may-ack-clear}
use Rattle.hybrid_laws.proofs.maps.Reading.{tally-push}
use Rattle.hybrid_model.specs.AckClear.{ack_clear}
use Rattle.hybrid_model.specs.Events.{may_here}
use Rattle.hybrid_model.specs.Pairs.{Here}
use Rattle.hybrid_model.specs.Sides.{with_phase}
use Rattle.ikc_ring.specs.declared.Msg.TheVariants.{Ack}
use Rattle.mck_word.specs.declared.Pid.{Pid}
use Rattle.std.proofs.Common.{ap, arith, refl}
use Rattle.std.specs.Prelude.{true, ℕ, ◌≡◌}
use Rattle.work_laws.proofs.sides.Wholes.{HerePays}
use Rattle.work_laws.specs.Weights.{of_back, of_round}

pub here_ack_clear : (p : ℕ) (h : Here) (q : Pid) → may_here (Events.AckClear q) h ≡ true → HerePays p (Events.AckClear q) h 1 0
unfolding ack_clear
here_ack_clear p h q e =
    let m = may-ack-clear h q e in
    let r = ap (of_round h.workers) m.round in
    let s = ap (λ o. of_round h.workers (with_phase o Acked)) m.round in
    let t = tally-push of_back h.side.to_lwk Ack in
    record { files = refl; own = omega (arith, r, s, t) }
