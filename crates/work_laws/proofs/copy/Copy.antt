-- Copy: the request goes on or ends, and the files change; the pin stays.
use Rattle.hybrid_model.specs.declared.events.Event.TheVariants as Events
use Rattle.hybrid_laws.proofs.copy.Copy.{may-copy}
use Rattle.hybrid_laws.proofs.maps.Sums.{counted_in, total-put}
use Rattle.hybrid_model.specs.Copy.{copy}
use Rattle.hybrid_model.specs.Events.{may_here}
use Rattle.hybrid_model.specs.Copy.{copied, moved_by}
use Rattle.hybrid_model.specs.Workers.{state_if, stepped_book, stepped_service}
use Rattle.hybrid_model.specs.Pairs.{Here}
use Rattle.hybrid_model.specs.Sides.{LinuxSide, pin_of, served, serves}
use Rattle.hybrid_model.specs.Spaces.{frame_bytes}
use Rattle.kernel_model.specs.Progress.{After}
use Rattle.mck_word.specs.Maps.{at, count, put}
use Rattle.mck_word.specs.declared.Pid.{Pid}
use Rattle.page_pins.specs.declared.Pin.{Pin}
use Rattle.std.proofs.Common.{ap, arith}
use Rattle.std.specs.Prelude.{Some, true, ℕ, ◌+◌, ◌≡◌, ◌≤◌}
use Rattle.work_laws.proofs.sides.AnyRank.{requests-any}
use Rattle.work_laws.proofs.sides.Services.{count-stated}
use Rattle.work_laws.proofs.sides.Wholes.{HereSteps}
use Rattle.work_laws.specs.Weights.{any_change, of_pin, of_side}

abbrev linux_after : LinuxSide → ℕ → After → LinuxSide
linux_after l w a = record l { services = put l.services (serves l w) (stepped_service (served l w) a); pins = put l.pins w (record (pin_of l w) { copied = true }) }

stepped-side : (h : Here) (w : ℕ) (a : After) (x : Pin) → count h.side.book.rows ≤ 16 → at h.side.linux.pins w ≡ Some x
    → of_side h.workers a.files (record h.side { linux = linux_after h.side.linux w a; book = stepped_book h.side.linux h.side.book w a }) ≤ of_side h.workers h.node.files h.side + any_change
stepped-side h w a x few there =
    let l = h.side.linux in
    let n = count-stated (state_if a.ended) (serves l w) h.side.book.rows in
    let r = requests-any h.node.files a.files l (linux_after l w a) h.side.book.rows (stepped_book l h.side.book w a).rows (omega (arith, n)) few in
    let t = total-put of_pin l.pins w (record (pin_of l w) { copied = true }) in
    let u = ap (counted_in of_pin) there in
    omega (arith, r, t, u)

pub here_copy : (p : ℕ) (h : Here) (q : Pid) (w : ℕ) → count h.side.book.rows ≤ 16 → may_here (Events.Copy q w) h ≡ true → HereSteps p (Events.Copy q w) h 0
unfolding copy copied
here_copy p h q w few e =
    let m = may-copy h q w e in
    let a = stepped-side h w (moved_by p h.side.linux h.node.files w (frame_bytes h.frames (pin_of h.side.linux w).frame.0)).after m.pin few m.there in
    record { own = omega (arith, a) }
