-- Act: the request goes on or ends, and the files change. Park: the request is Parked, and counts less; or it ends, and its description is given back.
use Rattle.hybrid_model.specs.declared.events.Event.TheVariants as Events
use Rattle.hybrid_laws.proofs.park.Park.{may-park}
use Rattle.hybrid_model.specs.Act.{act_file}
use Rattle.hybrid_model.specs.Events.{may_here}
use Rattle.hybrid_model.specs.Park.{park_here}
use Rattle.hybrid_model.specs.Act.{acted}
use Rattle.hybrid_model.specs.Copy.{is_uncopied}
use Rattle.hybrid_model.specs.Park.{park_blocks, park_stops}
use Rattle.hybrid_model.specs.Workers.{state_if, stepped, stepped_book}
use Rattle.hybrid_model.specs.Pairs.{Here}
use Rattle.hybrid_model.specs.Sides.{LinuxSide, looked_up, served, serves, service_of, with_state}
use Rattle.kernel_model.specs.Progress.{After, given_back, interrupted_answer, is_not_ready, is_ready, needed_access, next_kind, next_piece}
use Rattle.mck_word.specs.Maps.{at, count, cut, put}
use Rattle.mck_word.specs.declared.Pid.{Pid}
use Rattle.request_book.specs.declared.ReqState.TheVariants.{Ended, Held, Parked}
use Rattle.std.proofs.Common.{ap, arith, refl, sym, ◌∙◌}
use Rattle.std.specs.Prelude.{cond, false, is_none, not, true, ℕ, ◌+◌, ◌≡◌, ◌≤◌, ◌||◌}
use Rattle.work_laws.proofs.sides.AnyRank.{rank-some, requests-any}
use Rattle.work_laws.proofs.sides.Services.{count-stated, number-is, row-is, stated-row}
use Rattle.work_laws.proofs.sides.Wholes.{HerePays, HereSteps}
use Rattle.work_laws.specs.Weights.{any_change, of_reply, of_request, of_side}

stepped-side : (h : Here) (w : ℕ) (a : After) → count h.side.book.rows ≤ 16
    → of_side h.workers a.files (record h.side { linux = stepped h.side.linux w a; book = stepped_book h.side.linux h.side.book w a }) ≤ of_side h.workers h.node.files h.side + any_change
stepped-side h w a few =
    let l = h.side.linux in
    let n = count-stated (state_if a.ended) (serves l w) h.side.book.rows in
    let r = requests-any h.node.files a.files l (stepped l w a) h.side.book.rows (stepped_book l h.side.book w a).rows (omega (arith, n)) few in
    omega (arith, r)

pub here_act : (p : ℕ) (h : Here) (q : Pid) (w : ℕ) → count h.side.book.rows ≤ 16 → HereSteps p (Events.Act q w) h 0
unfolding act_file
here_act p h q w few = let a = stepped-side h w (acted p h.side.linux h.node.files w) few in record { own = omega (arith, a) }

-- ---- Park
pub here_park_stops : (p : ℕ) (h : Here) (q : Pid) (w : ℕ) → count h.side.book.rows ≤ 16 → (served h.side.linux w).interrupted ≡ true → HereSteps p (Events.Park q w) h 0
unfolding park_here park_stops
here_park_stops p h q w few told =
    let l = h.side.linux in
    let k = served l w in
    let files = given_back k.progress h.node.files in
    let l' : LinuxSide = record l { services = put l.services (serves l w) (record k { answer = interrupted_answer k.progress }) } in
    let n = count-stated Ended (serves l w) h.side.book.rows in
    let r = requests-any h.node.files files l l' h.side.book.rows (with_state h.side.book (serves l w) Ended).rows (omega (arith, n)) few in
    record { own = rw told (omega (arith, r)) }

pub here_park_blocks : (p : ℕ) (h : Here) (q : Pid) (w : ℕ) → may_here (Events.Park q w) h ≡ true → (served h.side.linux w).interrupted ≡ false → HerePays p (Events.Park q w) h 1 0
unfolding park_here park_blocks
here_park_blocks p h q w e told =
    let m = may-park h q w e in
    let l = h.side.linux in
    let l' : LinuxSide = record l { workers = cut l.workers w } in
    let f = of_request h.node.files l in
    let n = number-is l h.side.book w Held m.request in
    let not_ready = ap (λ (j : ℕ). is_not_ready (next_kind h.node.files (service_of l.services j).progress)) (sym n) ∙ m.not_ready in
    let a = stated-row f f h.side.book (serves l w) Held Parked m.request.call (row-is l h.side.book w Held m.request) (λ j u x g. refl) in
    let b : f (serves l w, (Parked, m.request.call)) ≡ of_reply = (λ i. of_reply + cond (told i || not (not_ready i)) 14 0) in
    let k = served l w in
    let d = rank-some (is_ready (next_kind h.node.files k.progress)) (is_none (looked_up (at l.mirror (next_piece k.progress).page) (needed_access k.progress))) (is_uncopied (at l.pins k.worker)) in
    record { files = rw told refl; own = rw told (omega (arith, a, b, d)) }
