-- A copy that moves nothing and ends nothing lessens the work on its own side: its piece is ready no more, and no other request counts more.
use Rattle.hybrid_model.specs.declared.events.Event.TheVariants as Events
use Rattle.request_book.specs.declared.ReqState.TheVariants as States
use Rattle.file_model.specs.Files.{Files}
use Rattle.hybrid_laws.proofs.copy.Copy.{MayCopy, may-copy}
use Rattle.hybrid_laws.proofs.maps.Sums.{counted_at, counted_in, total-cut, total-cut-by, total-put}
use Rattle.hybrid_laws.proofs.requests.HeldStep.{held-row}
use Rattle.hybrid_model.specs.Coherence.{OfProcess, PinServes, holder}
use Rattle.hybrid_model.specs.Copy.{copy}
use Rattle.hybrid_model.specs.Events.{after_here, may_here}
use Rattle.hybrid_model.specs.Copy.{copied, is_uncopied, moved_by}
use Rattle.hybrid_model.specs.Workers.{state_if, stepped_service}
use Rattle.hybrid_model.specs.Pairs.{Here}
use Rattle.hybrid_model.specs.Sides.{LinuxSide, Service, Side, looked_up, serves, service_of, state_in, with_state}
use Rattle.hybrid_model.specs.Spaces.{frame_bytes}
use Rattle.ikc_ring.specs.declared.CallRequest.{CallRequest}
use Rattle.kernel_model.specs.Progress.{After, is_not_ready, is_ready, move_piece, needed_access, next_kind, next_piece}
use Rattle.mck_word.specs.MapLaws.{at-cut, at-put}
use Rattle.mck_word.specs.Maps.{Map, at, cut, entries, put, total}
use Rattle.mck_word.specs.declared.Pid.{Pid}
use Rattle.page_pins.specs.declared.Pin.{Pin}
use Rattle.request_book.specs.declared.ReqState.{ReqState}
use Rattle.std.proofs.Common.{ap, arith, refl, sym, ◌∙◌}
use Rattle.std.proofs.lemmas.Bool.Decides.{nat_tests}
use Rattle.std.specs.Prelude.{Bool, None, Option, Some, cond, false, is_none, not, sum_by, true, unwrap_or, ℕ, ◌+◌, ◌==◌, ◌≡◌, ◌≤◌, ◌||◌}
use Rattle.work_laws.proofs.files.Quieter.{Quieter, next-ready, next-waits}
use Rattle.work_laws.proofs.files.StreamsLess.{QuietStep}
use Rattle.work_laws.proofs.sides.Rows.{rows-le}
use Rattle.work_laws.proofs.sides.Services.{service-other, service-own, stated-row, worker-is}
use Rattle.work_laws.specs.Weights.{of_pin, of_reply, of_request, of_side, rank_held, rank_of}

-- ---- files in which nothing is readier
rank-less : (r r' without_row uncopied : Bool) → (r' ≡ true → r ≡ true) → rank_held r' without_row uncopied ≤ rank_held r without_row uncopied
rank-less true true a b h = omega arith
rank-less false true a b h = absurd (let e = h refl in grind (arith, e))
rank-less false false a b h = omega arith
rank-less true false a true h = omega arith
rank-less true false true false h = omega arith
rank-less true false false false h = omega arith

module _ (files files' : Files) (q : Quieter files files') where
  -- a request that is as it was, and whose pin is
  request-less : (l l' : LinuxSide) (e : ℕ × (ReqState × CallRequest)) → service_of l'.services e.0 ≡ service_of l.services e.0 → l'.mirror ≡ l.mirror
      → (e.1.0 ≡ States.Held → is_uncopied (at l'.pins (service_of l.services e.0).worker) ≡ is_uncopied (at l.pins (service_of l.services e.0).worker)) → of_request files' l' e ≤ of_request files l e
  request-less l l' e service mirror pin = go e.1.0 pin
    where
      k : Service
      k = service_of l.services e.0

      go : (s : ReqState) → (s ≡ States.Held → is_uncopied (at l'.pins k.worker) ≡ is_uncopied (at l.pins k.worker)) → of_request files' l' (e.0, (s, e.1.1)) ≤ of_request files l (e.0, (s, e.1.1))
      go States.Posted f = omega arith
      go States.Waiting f = omega arith
      go States.Faulted f = omega arith
      go States.Ended f = omega arith
      go States.Replied f = omega arith
      go States.Parked f =
          let a = ap (λ (x : Service). of_reply + cond (x.interrupted || not (is_not_ready (next_kind files' x.progress))) 14 0) service in
          let b = ap (λ w. of_reply + cond (k.interrupted || not w) 14 0) (next-waits files files' q k.progress) in
          omega (arith, a, b)
      go States.Held f =
          let a : of_request files' l' (e.0, (States.Held, e.1.1)) ≡ of_reply + rank_of files' k (at l'.pins) (at l.mirror) = (λ i. of_reply + rank_of files' (service i) (at l'.pins) (at (mirror i))) in
          let missing = is_none (looked_up (at l.mirror (next_piece k.progress).page) (needed_access k.progress)) in
          let b = ap (λ u. of_reply + rank_held (is_ready (next_kind files' k.progress)) missing u) (f refl) in
          let c = rank-less (is_ready (next_kind files k.progress)) (is_ready (next_kind files' k.progress)) missing (is_uncopied (at l.pins k.worker)) (next-ready files files' q k.progress) in
          omega (arith, a, b, c)

  -- a side that is as it was
  pub side-less : (workers : ℕ) (s : Side) → of_side workers files' s ≤ of_side workers files s
  side-less workers s = let a = rows-le (of_request files' s.linux) (of_request files s.linux) s.book.rows (λ j u e. request-less s.linux s.linux (j, u) refl refl (λ x. refl)) in omega (arith, a)

  -- all sides, one of which changes
  pub sides-less : (workers : ℕ) (m : Map Side) (p : ℕ) (old new : Side) (gain : ℕ) → at m p ≡ Some old → of_side workers files' new + gain ≤ of_side workers files old
      → total (of_side workers files') (put m p new) + gain ≤ total (of_side workers files) m
  sides-less workers m p old new gain is own =
      let a = total-put (of_side workers files') m p new in
      let b = total-cut (of_side workers files') m p in
      let c = total-cut (of_side workers files) m p in
      let x = rw is at a in
      let y = rw is at b in
      let z = rw is at c in
      let d = rows-le (λ (e : ℕ × Side). of_side workers files' e.1) (λ (e : ℕ × Side). of_side workers files e.1) (cut m p) (λ k s e. side-less workers s) in
      omega (arith, x, y, z, d, own)

-- ---- the side of the copy
module _ (p : ℕ) (h : Here) (ring_number : ℕ → ℕ) (k : OfProcess p h.side h.node h.workers ring_number) (q : Pid) (w : ℕ) (e : may_here (Events.Copy q w) h ≡ true) where
  abbrev l : LinuxSide
  l = h.side.linux

  abbrev pub m : MayCopy h w
  m = may-copy h q w e

  abbrev pub serving : PinServes (at l.workers) (at h.side.book.rows) (at l.services) w m.pin
  serving = k.served.pins_serve w m.pin m.there

  abbrev pub n : ℕ
  n = serving.number

  abbrev pub request : (call : CallRequest) × (at h.side.book.rows n ≡ Some (States.Held, call))
  request = held-row (at h.side.book.rows) n (serving.held m.fresh)

  serves-is : serves l w ≡ n
  serves-is = ap (λ (o : Option ℕ). unwrap_or o 0) serving.serves

  abbrev before : Service
  before = service_of l.services n

  -- after a step that moved nothing
  module _ (a : After) (quiet : QuietStep before.progress h.node.files a) where
    abbrev now : Pin
    now = record m.pin { copied = true }

    abbrev l' : LinuxSide
    l' = record l { services = put l.services n (stepped_service before a); pins = put l.pins w now }

    abbrev f : ℕ × (ReqState × CallRequest) → ℕ
    f = of_request h.node.files l

    abbrev g : ℕ × (ReqState × CallRequest) → ℕ
    g = of_request a.files l'

    pin-same : (j : ℕ) (c : CallRequest) → (j == n) ≡ false → at h.side.book.rows j ≡ Some (States.Held, c) → is_uncopied (at l'.pins (service_of l.services j).worker) ≡ is_uncopied (at l.pins (service_of l.services j).worker)
    pin-same j c other is = go ((service_of l.services j).worker == w) refl
      where
        held_by : at l.workers (service_of l.services j).worker ≡ Some j
        held_by = k.served.held_by j (service_of l.services j).worker (ap (λ o. holder (state_in o) (service_of l.services j).worker) is)

        go : (b : Bool) → ((service_of l.services j).worker == w) ≡ b → is_uncopied (at l'.pins (service_of l.services j).worker) ≡ is_uncopied (at l.pins (service_of l.services j).worker)
        go false f = ap is_uncopied (at-put l.pins w now (service_of l.services j).worker ∙ ap (λ b. cond b (Some now) (at l.pins (service_of l.services j).worker)) f)
        go true f = absurd (
            let g : (service_of l.services j).worker ≡ w = grind (arith, nat_tests, f) in
            let z = sym (ap (at l.workers) (sym g) ∙ held_by) ∙ serving.serves in
            let y : j ≡ n = ap (λ (o : Option ℕ). unwrap_or o 0) z in
            grind (arith, nat_tests, y, other))

    other-less : (j : ℕ) (u : ReqState × CallRequest) → (j == n) ≡ false → at h.side.book.rows j ≡ Some u → g (j, u) ≤ f (j, u)
    other-less j (s, c) other is = request-less h.node.files a.files quiet.quieter l l' (j, (s, c)) (service-other l.services n (stepped_service before a) j other) refl
        (λ x. pin-same j c other (is ∙ ap (λ (y : ReqState). Some (y, c)) x))

    rows-less : sum_by g (entries (cut h.side.book.rows n)) ≤ sum_by f (entries (cut h.side.book.rows n))
    rows-less = rows-le g f (cut h.side.book.rows n) (λ j u is. left j u (j == n) refl (sym (at-cut h.side.book.rows n j) ∙ is))
      where
        left : (j : ℕ) (u : ReqState × CallRequest) (b : Bool) → (j == n) ≡ b → cond b None (at h.side.book.rows j) ≡ Some u → g (j, u) ≤ f (j, u)
        left j u true x is = absurd (grind (arith, is))
        left j u false x is = other-less j u x is

    -- the pin of the worker, before and after
    was-uncopied : is_uncopied (at l.pins before.worker) ≡ true
    was-uncopied =
        let v = worker-is (at h.side.book.rows) (at l.services) n w request.0 request.1 (k.served.workers_hold w n serving.serves) in
        ap (λ (x : ℕ). is_uncopied (at l.pins x)) v ∙ ap is_uncopied m.there ∙ ap not m.fresh

    was : f (n, (States.Held, request.0)) ≡ of_reply + 2
    was =
        let ready = ap (λ (j : ℕ). is_ready (next_kind h.node.files (service_of l.services j).progress)) (sym serves-is) ∙ m.ready in
        let missing = is_none (looked_up (at l.mirror (next_piece before.progress).page) (needed_access before.progress)) in
        let u = was-uncopied in
        (λ i. of_reply + rank_held (ready i) missing (u i))

    is-now : g (n, (States.Held, request.0)) ≡ of_reply + 1
    is-now =
        let s = service-own l.services n (stepped_service before a) in
        let x = stepped_service before a in
        let b : g (n, (States.Held, request.0)) ≡ of_reply + rank_of a.files x (at l'.pins) (at l.mirror) = ap (λ (y : Service). of_reply + rank_of a.files y (at l'.pins) (at l.mirror)) s in
        b ∙ ap (λ r. of_reply + rank_held r (is_none (looked_up (at l.mirror (next_piece a.progress).page) (needed_access a.progress))) (is_uncopied (at l'.pins before.worker))) quiet.idle

    less-by : of_side h.workers a.files (record h.side { linux = l'; book = with_state h.side.book n (state_if a.ended) }) + 1 ≤ of_side h.workers h.node.files h.side
    less-by =
        let goes = ap (λ (o : Option _). sum_by g (entries (with_state h.side.book n (state_if o)).rows)) quiet.goes in
        let b = stated-row g g h.side.book n States.Held States.Held request.0 request.1 (λ j u x i. refl) in
        let c = total-cut-by g h.side.book.rows n in
        let d = ap (counted_at g n) request.1 in
        let c' = total-cut-by f h.side.book.rows n in
        let d' = ap (counted_at f n) request.1 in
        let r = rows-less in
        let x = was in
        let y = is-now in
        let t = total-put of_pin l.pins w now in
        let u = ap (counted_in of_pin) m.there in
        omega (arith, goes, b, c, d, c', d', r, x, y, t, u)

  -- what the copy moves
  abbrev pub moved : After
  moved = (move_piece before.progress h.node.files p (frame_bytes h.frames m.pin.frame.0)).after

  pub quiet_copy : QuietStep before.progress h.node.files moved → (of_side h.workers moved.files (after_here (Events.Copy q w) p h).side + 1 ≤ of_side h.workers h.node.files h.side) × ((after_here (Events.Copy q w) p h).node.files ≡ moved.files)
  unfolding copy copied moved_by
  quiet_copy quiet =
      let s = serving.serves in
      let t = m.there in
      let x = less-by moved quiet in
      (rw (s, t) x, rw (s, t) refl)
