-- Unpark lessens the work: a request that may leave the state Parked counts more than one that is Waiting.
use Rattle.hybrid_model.specs.declared.events.Event.TheVariants as Events
use Rattle.hybrid_laws.proofs.unpark.Unpark.{may-unpark}
use Rattle.hybrid_model.specs.Events.{may_here}
use Rattle.hybrid_model.specs.Unpark.{unpark_here}
use Rattle.hybrid_model.specs.Unpark.{unpark}
use Rattle.hybrid_model.specs.Pairs.{Here}
use Rattle.mck_word.specs.declared.Req.{Req}
use Rattle.request_book.specs.declared.ReqState.TheVariants.{Parked, Waiting}
use Rattle.std.proofs.Common.{ap, arith, refl}
use Rattle.std.specs.Prelude.{cond, true, ℕ, ◌+◌, ◌≡◌}
use Rattle.work_laws.proofs.sides.Services.{stated-row}
use Rattle.work_laws.proofs.sides.Wholes.{HerePays}
use Rattle.work_laws.specs.Weights.{of_reply, of_request}

pub here_unpark : (p : ℕ) (h : Here) (n : Req) → may_here (Events.Unpark (record { 0 = p }) n) h ≡ true → HerePays p (Events.Unpark (record { 0 = p }) n) h 1 0
unfolding unpark_here unpark
here_unpark p h n e =
    let m = may-unpark p h n e in
    let f = of_request h.node.files h.side.linux in
    let a = stated-row f f h.side.book n.0 Parked Waiting m.call m.is (λ j u x g. refl) in
    let b = ap (λ b. of_reply + cond b 14 0) m.wakes in
    record { files = refl; own = omega (arith, a, b) }
