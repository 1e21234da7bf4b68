-- Finish lessens the work: what stays of an Ended request counts more than its Reply.
use Rattle.hybrid_model.specs.declared.events.Event.TheVariants as Events
use Rattle.hybrid_laws.proofs.finish.Finish.{may-finish}
use Rattle.hybrid_laws.proofs.maps.Reading.{tally-push}
use Rattle.hybrid_model.specs.Events.{may_here}
use Rattle.hybrid_model.specs.Finish.{finish_here}
use Rattle.hybrid_model.specs.Finish.{finish, reply_of}
use Rattle.hybrid_model.specs.Pairs.{Here}
use Rattle.hybrid_model.specs.Sides.{LinuxSide, Service, serves}
use Rattle.mck_word.specs.Maps.{at, cut}
use Rattle.mck_word.specs.declared.Pid.{Pid}
use Rattle.request_book.specs.declared.ReqState.TheVariants.{Ended}
use Rattle.std.proofs.Common.{ap, arith, refl}
use Rattle.std.specs.Prelude.{true, ℕ, ◌≡◌}
use Rattle.work_laws.proofs.sides.Rows.{row-cut}
use Rattle.work_laws.proofs.sides.Services.{row-is, service-left}
use Rattle.work_laws.proofs.sides.Wholes.{HerePays}
use Rattle.work_laws.specs.Weights.{of_back, of_request, of_state}

pub here_finish : (p : ℕ) (h : Here) (q : Pid) (w : ℕ) → may_here (Events.Finish q w) h ≡ true → HerePays p (Events.Finish q w) h 1 0
unfolding finish_here finish
here_finish p h q w e =
    let m = may-finish h q w e in
    let l = h.side.linux in
    let n = serves l w in
    let l' : LinuxSide = record l { workers = cut l.workers w; services = cut l.services n } in
    let a = row-cut (of_request h.node.files l) (of_request h.node.files l') h.side.book.rows n (Ended, m.request.call) (row-is l h.side.book w Ended m.request)
    (λ j u f g. ap (λ (s : Service). of_state h.node.files s (at l.pins) (at l.mirror) u.0) (service-left l.services n j f)) in
    let t = tally-push of_back h.side.to_lwk (reply_of l w) in
    record { files = refl; own = omega (arith, a, t) }
