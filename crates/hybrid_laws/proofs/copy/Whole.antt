-- Copy in the whole state.
use Rattle.hybrid_model.specs.declared.events.Event.TheVariants as Events
use Rattle.hybrid_laws.proofs.calls.Laws.{carries-piece}
use Rattle.hybrid_laws.proofs.copy.Copy.{MayCopy, keeps_copy, may-copy, reaches_copy}
use Rattle.hybrid_laws.proofs.copy.Shown.{simulates_copy}
use Rattle.hybrid_laws.proofs.maps.Reading.{each-same}
use Rattle.hybrid_laws.proofs.maps.Tests.{both}
use Rattle.hybrid_laws.proofs.requests.HeldStep.{held-row}
use Rattle.hybrid_laws.proofs.requests.Speaking.{the-thread, thread-served-is}
use Rattle.hybrid_laws.proofs.requests.Statuses.{put-other, put-own, status-if, status-others, status-own}
use Rattle.hybrid_laws.proofs.states.Pair.{has-side}
use Rattle.hybrid_laws.proofs.states.Step.{coherent-step, found-held, under-way}
use Rattle.hybrid_laws.proofs.states.Steps.{SimulatedPair, simulated-pair}
use Rattle.hybrid_laws.proofs.states.Turns.{stated-other}
use Rattle.hybrid_laws.specs.CallSteps.{StepCarries}
use Rattle.hybrid_model.specs.Claims.{CopyReaches}
use Rattle.hybrid_model.specs.Coherence.{Covers, OfProcess, PinServes}
use Rattle.hybrid_model.specs.Copy.{copy}
use Rattle.hybrid_model.specs.Events.{after, may, may_here}
use Rattle.hybrid_model.specs.Globals.{Coherent, ring_number, table_of, waits_or_held}
use Rattle.hybrid_model.specs.Copy.{copied, moved_by}
use Rattle.hybrid_model.specs.Turns.{turn_given_up}
use Rattle.hybrid_model.specs.Workers.{state_if, stepped_service}
use Rattle.hybrid_model.specs.Answer.{thread_served}
use Rattle.hybrid_model.specs.Pairs.{Here, Pair, here, put_here}
use Rattle.hybrid_model.specs.Shown.{has_empty, reply_code, shown_call, shown_own, status_of}
use Rattle.hybrid_model.specs.Sides.{Row, Service, Side, new_side, no_service, service_of, with_state, state_in}
use Rattle.hybrid_model.specs.Spaces.{frame_bytes, shown_row}
use Rattle.ikc_ring.specs.declared.CallRequest.{CallRequest}
use Rattle.kernel_model.specs.Nodes.{Thread, is_there, no_thread, set_files, thread_of}
use Rattle.kernel_model.specs.Pages.{zero_page}
use Rattle.kernel_model.specs.Progress.{Moved, move_piece}
use Rattle.kernel_model.specs.Steps.{status_after}
use Rattle.mck_word.specs.MapLaws.{at-put}
use Rattle.mck_word.specs.Maps.{Map, at, each, put}
use Rattle.mck_word.specs.declared.Pid.{Pid}
use Rattle.page_pins.specs.declared.Pin.{Pin}
use Rattle.request_book.specs.declared.ReqState.TheVariants.{Held}
use Rattle.std.proofs.Common.{ap, arith, refl, subst, sym, ◌∙◌}
use Rattle.std.proofs.lemmas.Bool.Decides.{nat_tests}
use Rattle.std.specs.Prelude.{Bool, Option, Some, cond, false, true, unwrap_or, ℕ, ◌==◌, ◌≡◌}

module _ (pair : Pair) (c : Coherent pair) (q : Pid) (w : ℕ) (e : may pair (Events.Copy q w) ≡ true) where
  abbrev p : ℕ
  p = q.0

  abbrev h : Here
  h = here pair p

  there : is_there pair.node p ≡ true
  there = let a = both (is_there pair.node p) (may_here (Events.Copy q w) h) e in a.0

  allowed : may_here (Events.Copy q w) h ≡ true
  allowed = let a = both (is_there pair.node p) (may_here (Events.Copy q w) h) e in a.1

  k : OfProcess p h.side h.node h.workers (ring_number pair)
  k = c.whole p

  abbrev copy_may : MayCopy h w
  copy_may = may-copy h q w allowed

  served-pin : PinServes (at h.side.linux.workers) (at h.side.book.rows) (at h.side.linux.services) w copy_may.pin
  served-pin = k.served.pins_serve w copy_may.pin copy_may.there

  abbrev n : ℕ
  n = served-pin.number

  row-is : (call : CallRequest) × (at h.side.book.rows n ≡ Some (Held, call))
  row-is = held-row (at h.side.book.rows) n (served-pin.held copy_may.fresh)

  abbrev before : Service
  before = service_of h.side.linux.services n

  abbrev frame : ℕ
  frame = copy_may.pin.frame.0

  abbrev moved : Moved
  moved = move_piece before.progress h.node.files p (frame_bytes h.frames frame)

  abbrev services' : Map Service
  services' = put h.side.linux.services n (stepped_service before moved.after)

  abbrev pins' : Map Pin
  pins' = put h.side.linux.pins w (record copy_may.pin { copied = true })

  abbrev side_left : Side
  side_left = record h.side { linux = record h.side.linux { services = services'; pins = pins' }; book = with_state h.side.book n (state_if moved.after.ended) }

  -- the event's function with the pin and the request named
  copy-is : copy p w h ≡ record h { side = side_left; node = set_files moved.after.files h.node; turns = turn_given_up p h.side.linux h.node.files w h.turns; frames = put h.frames frame moved.page }
  unfolding copy moved_by copied
  copy-is = let x = copy_may.there in let s = served-pin.serves in rw (x, s) refl

  carried : StepCarries before.progress pair.node.files moved.after
  carried = carries-piece before.progress pair.node.files p (under-way pair c p there w n row-is.0 served-pin.serves row-is.1) (found-held pair c p there w n row-is.0 served-pin.serves row-is.1) (frame_bytes h.frames frame)

  kept-side : OfProcess p side_left (set_files moved.after.files h.node) h.workers (ring_number pair)
  kept-side = subst (λ (x : Here). OfProcess p x.side x.node h.workers (ring_number pair)) copy-is (keeps_copy p h (ring_number pair) k q w allowed)

  status-now : status_of side_left n ≡ status_after moved.after
  status-now = status-own h.side n Held (state_if moved.after.ended) row-is.0 row-is.1 h.side.linux.mirror pins' h.side.linux.workers services' h.side.linux.cleared h.side.book.waiting
      (stepped_service before moved.after) (put-own h.side.linux.services n (stepped_service before moved.after))
      ∙ status-if moved.after row-is.0 before (has_empty (at h.side.linux.workers) n h.side.to_linux) (reply_code n h.side.to_lwk)

  status-rest : (x : ℕ) → (x == n) ≡ false → status_of side_left x ≡ status_of h.side x
  status-rest = status-others h.side n Held (state_if moved.after.ended) row-is.0 row-is.1 h.side.linux.mirror pins' h.side.linux.workers services' h.side.linux.cleared h.side.book.waiting
      (put-other h.side.linux.services n (stepped_service before moved.after)) (λ x f v. refl)

  pub coherent_copy : Coherent (after pair (Events.Copy q w))
  coherent_copy = subst (λ (x : Here). Coherent (put_here pair p x)) (sym copy-is)
      (coherent-step pair c p there w n row-is.0 served-pin.serves row-is.1 side_left moved.after.files (put h.frames frame moved.page) (status_after moved.after) refl
      status-now status-rest carried.kept carried.goes kept-side refl refl refl
      (λ x f u. ap (λ o. waits_or_held (state_in o)) (stated-other (state_if moved.after.ended) n h.side.book.rows x f) ∙ u)
      (λ x f. ap (λ (o : Option Service). (unwrap_or o no_service).progress) (put-other h.side.linux.services n (stepped_service before moved.after) x f)))

  -- ---- the pinned frame stands in one row of one table
  covers : Covers (at h.side.lwk.table) copy_may.pin.page (copy_may.pin.frame, copy_may.pin.rights)
  covers = k.covered.pin_rows w copy_may.pin copy_may.there

  rows-apart : (i j : ℕ) (r t : Row) → at h.side.lwk.table i ≡ Some r → at h.side.lwk.table j ≡ Some t → r.0.0 ≡ t.0.0 → i ≡ j
  rows-apart i j r t e f g = let a = c.frames.apart p i r p j t e f (λ l. record { 0 = g l }) in a.1

  -- another process has no row of that frame
  other-frame : (x : ℕ) (s : Side) → (x == p) ≡ false → at pair.sides x ≡ Some s → (i : ℕ) (r : Row) → at s.lwk.table i ≡ Some r → (r.0.0 == frame) ≡ false
  other-frame x s a f i r e = go (r.0.0 == frame) refl
    where
      row-there : table_of pair x i ≡ Some r
      row-there = ap (λ (o : Option Side). at (unwrap_or o (new_side 0)).lwk.table i) f ∙ e

      go : (b : Bool) → (r.0.0 == frame) ≡ b → b ≡ false
      go false g = refl
      go true g = absurd (let y : r.0.0 ≡ frame = grind (arith, nat_tests, g) in
          let z = c.frames.apart x i r p copy_may.pin.page covers.row row-there covers.there ((λ l. record { 0 = y l }) ∙ sym covers.frame) in
          let v = z.0 in grind (arith, nat_tests, v, a))

  frames-rest : (x : ℕ) (s : Side) → (x == p) ≡ false → at pair.sides x ≡ Some s → shown_own (put h.frames frame moved.page) s ≡ shown_own pair.frames s
  frames-rest x s a f =
      let e = each-same (shown_row (put h.frames frame moved.page)) (shown_row pair.frames) s.lwk.table (λ i r g. same-row r (other-frame x s a f i r g)) in
      λ l. record { memory = e l; calls = each (shown_call s) s.lwk.callers }
    where
      same-row : (r : Row) → (r.0.0 == frame) ≡ false → shown_row (put h.frames frame moved.page) r ≡ shown_row pair.frames r
      same-row r n =
          let b = ap (λ o. unwrap_or o zero_page) (at-put h.frames frame moved.page r.0.0 ∙ ap (λ b. cond b (Some moved.page) (at h.frames r.0.0)) n) in
          λ l. record { rights = r.1; bytes = b l }

  thread-own : (thread_of pair.node (thread_served h.side w)).process ≡ p
  thread-own =
      let t = the-thread p h.side h.node h.workers (ring_number pair) k n Held row-is.0 row-is.1 refl in
      ap (λ (x : ℕ). (thread_of pair.node x).process) (thread-served-is h.side w n Held row-is.0 served-pin.serves row-is.1) ∙ ap (λ (o : Option Thread). (unwrap_or o no_thread).process) t.1 ∙ t.2

  pub simulated_copy : SimulatedPair pair (Events.Copy q w)
  simulated_copy = simulated-pair pair p (has-side pair c.known p there) (Events.Copy q w) refl (simulates_copy p h (ring_number pair) k q w allowed rows-apart refl) thread-own
      (ap (λ (x : Here). x.born) copy-is) (λ x s a f. ap (λ (y : Here). shown_own y.frames s) copy-is ∙ frames-rest x s a f)

  -- the copy reaches the frame that the table gives
  pub copy_reaches : CopyReaches pair (Events.Copy q w)
  copy_reaches = reaches_copy p h (ring_number pair) k q w allowed
