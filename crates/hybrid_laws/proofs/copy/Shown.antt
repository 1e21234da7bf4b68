-- Copy is the step Piece of the one-kernel machine.
use Rattle.hybrid_model.specs.declared.events.Event.TheVariants as Events
use Rattle.kernel_model.specs.declared.steps.Step.TheVariants as Steps
use Rattle.kernel_model.specs.Steps as OneSteps
use Rattle.hybrid_laws.proofs.copy.Copy.{MayCopy, may-copy}
use Rattle.hybrid_laws.proofs.requests.HeldStep.{held-row}
use Rattle.hybrid_laws.proofs.requests.Showing.{rows-put}
use Rattle.hybrid_laws.proofs.requests.Speaking.{calls-after, shown-call-at, the-caller, thread-served-is}
use Rattle.hybrid_laws.proofs.requests.Statuses.{put-other, put-own, status-if, status-others, status-own}
use Rattle.hybrid_laws.proofs.states.Simulated.{simulated-one}
use Rattle.hybrid_laws.specs.Simulated.{Simulated}
use Rattle.hybrid_model.specs.Coherence.{Covers, OfProcess, PinServes}
use Rattle.hybrid_model.specs.Copy.{copy}
use Rattle.hybrid_model.specs.Events.{may_here}
use Rattle.hybrid_model.specs.OneProcess.{one_step}
use Rattle.hybrid_model.specs.Copy.{copied, moved_by}
use Rattle.hybrid_model.specs.Workers.{state_if, stepped_service}
use Rattle.hybrid_model.specs.Pairs.{Here}
use Rattle.hybrid_model.specs.Shown.{has_empty, reply_code, shown_born, shown_call, shown_here}
use Rattle.hybrid_model.specs.Sides.{Caller, Row, Service, Side, service_of, with_state}
use Rattle.hybrid_model.specs.Spaces.{frame_bytes, shown_memory, shown_row}
use Rattle.ikc_ring.specs.declared.CallRequest.{CallRequest}
use Rattle.isa_model.specs.Memory.{allows}
use Rattle.kernel_model.specs.OneKernel.{Active, OneHere}
use Rattle.kernel_model.specs.Progress.{Moved, is_ready, move_piece, needed_access, next_kind, next_piece}
use Rattle.kernel_model.specs.Steps.{one_piece, status_after}
use Rattle.mck_word.specs.Identifiers.{tid}
use Rattle.mck_word.specs.MapLaws.{at-collect}
use Rattle.mck_word.specs.Maps.{Map, and_then, at, each, put}
use Rattle.mck_word.specs.declared.Pid.{Pid}
use Rattle.page_pins.specs.declared.Pin.{Pin}
use Rattle.request_book.specs.declared.ReqState.TheVariants.{Held}
use Rattle.std.proofs.Common.{ap, refl, sym, ◌∙◌}
use Rattle.std.specs.Prelude.{None, Some, length, true, ℕ, ◌≡◌}

-- what is shown after a copy, by the pin, the request and the frame
abbrev pub shown-after : (p : ℕ) (h : Here) (w : ℕ) (y : Pin) (n f : ℕ) → OneHere
shown-after p h w y n f =
    let k = service_of h.side.linux.services n in
    let m = move_piece k.progress h.node.files p (frame_bytes h.frames f) in
    let side : Side = record h.side {
      linux = record h.side.linux { services = put h.side.linux.services n (stepped_service k m.after); pins = put h.side.linux.pins w (record y { copied = true }) };
      book = with_state h.side.book n (state_if m.after.ended);
    } in
    record {
      own = record { memory = shown_memory h.side.lwk.table (put h.frames f m.page); calls = each (shown_call side) h.side.lwk.callers };
      node = record h.node { files = m.after.files };
      free = length h.free;
      born = None;
    }

pub copy-shown : (p : ℕ) (h : Here) (w : ℕ) (y : Pin) (n : ℕ) → at h.side.linux.pins w ≡ Some y → at h.side.linux.workers w ≡ Some n → h.born ≡ None → shown_here (copy p w h) ≡ shown-after p h w y n y.frame.0
unfolding copy moved_by copied
copy-shown p h w y n e f none = rw (e, f, none) refl

module _ (p : ℕ) (h : Here) (ring_number : ℕ → ℕ) (k : OfProcess p h.side h.node h.workers ring_number) (q : Pid) (w : ℕ) (may : may_here (Events.Copy q w) h ≡ true)
    (apart : (i j : ℕ) (r t : Row) → at h.side.lwk.table i ≡ Some r → at h.side.lwk.table j ≡ Some t → r.0.0 ≡ t.0.0 → i ≡ j) where
  abbrev m : MayCopy h w
  m = may-copy h q w may

  s : PinServes (at h.side.linux.workers) (at h.side.book.rows) (at h.side.linux.services) w m.pin
  s = k.served.pins_serve w m.pin m.there

  abbrev n : ℕ
  n = s.number

  row-held : (call : CallRequest) × (at h.side.book.rows n ≡ Some (Held, call))
  row-held = held-row (at h.side.book.rows) n (s.held m.fresh)

  abbrev call : CallRequest
  call = row-held.0

  abbrev before : Service
  before = service_of h.side.linux.services n

  v : Covers (at h.side.lwk.table) m.pin.page (m.pin.frame, m.pin.rights)
  v = k.covered.pin_rows w m.pin m.there

  -- what the piece moves
  abbrev moved : Moved
  moved = move_piece before.progress h.node.files p (frame_bytes h.frames v.row.0.0)

  abbrev services' : Map Service
  services' = put h.side.linux.services n (stepped_service before moved.after)

  abbrev side' : Side
  side' = record h.side {
    linux = record h.side.linux { services = services'; pins = put h.side.linux.pins w (record m.pin { copied = true }) };
    book = with_state h.side.book n (state_if moved.after.ended);
  }

  page-there : at h.side.lwk.table (next_piece before.progress).page ≡ Some v.row
  page-there = ap (at h.side.lwk.table) (s.page_is m.fresh) ∙ v.there

  shown-page-at : at (shown_memory h.side.lwk.table h.frames) (next_piece before.progress).page ≡ Some (shown_row h.frames v.row)
  shown-page-at = at-collect (λ k y. Some (shown_row h.frames y)) h.side.lwk.table (next_piece before.progress).page ∙ ap (λ o. and_then o (λ y. Some (shown_row h.frames y))) page-there

  right : allows (needed_access before.progress) v.row.1 ≡ true
  right = v.rights (needed_access before.progress) (s.right m.fresh)

  ready : is_ready (next_kind h.node.files before.progress) ≡ true
  ready = let n = s.serves in rw n at m.ready

  abbrev caller : Caller
  caller = (the-caller p h.side h.node h.workers ring_number k n Held call row-held.1 refl).0

  call-is : at (each (shown_call h.side) h.side.lwk.callers) call.tid.0 ≡ Some (record { marked = caller.marked; status = Active before.progress })
  call-is = let is = row-held.1 in rw is at (shown-call-at p h.side h.node h.workers ring_number k n Held call row-held.1 refl)

  step-may : OneSteps.may_here (Steps.Piece call.tid) (shown_here h) ≡ true
  step-may = rw (call-is, ready, shown-page-at) right

  rows-after : put (shown_memory h.side.lwk.table h.frames) (next_piece before.progress).page (record { rights = v.row.1; bytes = moved.page }) ≡ shown_memory h.side.lwk.table (put h.frames v.row.0.0 moved.page)
  rows-after = rows-put h.frames h.side.lwk.table (next_piece before.progress).page v.row moved.page page-there (λ j r e f. apart j (next_piece before.progress).page r v.row e page-there f)

  calls-now : put (each (shown_call h.side) h.side.lwk.callers) call.tid.0 (record { marked = caller.marked; status = status_after moved.after }) ≡ each (shown_call side') h.side.lwk.callers
  calls-now = calls-after p h.side h.node h.workers ring_number k n Held call row-held.1 refl side' (status_after moved.after)
      (status-own h.side n Held (state_if moved.after.ended) call row-held.1 h.side.linux.mirror (put h.side.linux.pins w (record m.pin { copied = true })) h.side.linux.workers services' h.side.linux.cleared h.side.book.waiting
      (stepped_service before moved.after) (put-own h.side.linux.services n (stepped_service before moved.after))
      ∙ status-if moved.after call before (has_empty (at h.side.linux.workers) n h.side.to_linux) (reply_code n h.side.to_lwk))
      (status-others h.side n Held (state_if moved.after.ended) call row-held.1 h.side.linux.mirror (put h.side.linux.pins w (record m.pin { copied = true })) h.side.linux.workers services' h.side.linux.cleared h.side.book.waiting
      (put-other h.side.linux.services n (stepped_service before moved.after)) (λ x f y. refl))

  step-after : OneSteps.after_here (Steps.Piece call.tid) p (shown_here h) ≡ record (shown_here h) {
    own = record { memory = shown_memory h.side.lwk.table (put h.frames v.row.0.0 moved.page); calls = each (shown_call side') h.side.lwk.callers };
    node = record h.node { files = moved.after.files };
  }
  unfolding one_piece
  step-after = rw (call-is, shown-page-at) (λ i. record {
    own = record { memory = rows-after i; calls = calls-now i };
    node = record h.node { files = moved.after.files };
    free = length h.free;
    born = shown_born h.frames h.born;
  })

  pub simulates_copy : h.born ≡ None → Simulated (Events.Copy q w) p h
  simulates_copy none = simulated-one (Events.Copy q w) p h (Steps.Piece call.tid)
      (ap (λ x. one_step (Steps.Piece (tid x))) (thread-served-is h.side w n Held call s.serves row-held.1)) step-may
      (step-after ∙ (λ i. record (shown-after p h w m.pin n (v.frame i).0) { born = ap (shown_born h.frames) none i }) ∙ sym (copy-shown p h w m.pin n m.there s.serves none))
