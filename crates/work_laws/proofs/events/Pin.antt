-- Pin lessens the work: a ready request with a row counts more than its pinned piece and the pin.
use Rattle.hybrid_model.specs.declared.events.Event.TheVariants as Events
use Rattle.request_book.specs.declared.ReqState.TheVariants as States
use Rattle.hybrid_laws.proofs.maps.Sums.{total-put}
use Rattle.hybrid_laws.proofs.maps.Totals.{entries-but}
use Rattle.hybrid_laws.proofs.pin.Pin.{may-pin}
use Rattle.hybrid_model.specs.Coherence.{OfProcess, holder}
use Rattle.hybrid_model.specs.Events.{may_here}
use Rattle.hybrid_model.specs.Copy.{is_uncopied}
use Rattle.hybrid_model.specs.Pin.{pin, pinned}
use Rattle.hybrid_model.specs.Workers.{row_for}
use Rattle.hybrid_model.specs.Pairs.{Here}
use Rattle.hybrid_model.specs.Sides.{LinuxSide, Row, looked_up, served, service_of, state_in}
use Rattle.ikc_ring.specs.declared.CallRequest.{CallRequest}
use Rattle.kernel_model.specs.Progress.{is_ready, needed_access, next_kind, next_piece}
use Rattle.mck_word.specs.MapLaws.{at-put}
use Rattle.mck_word.specs.Maps.{at, put}
use Rattle.mck_word.specs.declared.Pid.{Pid}
use Rattle.page_pins.specs.declared.Pin.{Pin}
use Rattle.request_book.specs.declared.ReqState.{ReqState}
use Rattle.std.proofs.Common.{ap, arith, refl, sym, ◌∙◌}
use Rattle.std.proofs.lemmas.Bool.Decides.{nat_tests}
use Rattle.std.specs.Prelude.{Bool, None, Option, Some, cond, false, is_none, not, true, unwrap_or, ℕ, ◌+◌, ◌==◌, ◌≡◌, ◌≤◌}
use Rattle.work_laws.proofs.sides.Services.{worker-is}
use Rattle.work_laws.proofs.sides.Wholes.{HerePays}
use Rattle.work_laws.specs.Weights.{of_pin, of_reply, of_request, of_side, rank_held, rank_of}

module _ (p : ℕ) (h : Here) (ring_number : ℕ → ℕ) (k : OfProcess p h.side h.node h.workers ring_number) (q : Pid) (w : ℕ) (e : may_here (Events.Pin q w) h ≡ true) where
  abbrev l : LinuxSide
  l = h.side.linux

  abbrev n : ℕ
  n = (may-pin h q w e).request.number

  module _ (new : Pin) (uncopied : new.copied ≡ false) where
    abbrev l' : LinuxSide
    l' = record l { pins = put l.pins w new }

    -- a request that another worker holds
    held-same : (j : ℕ) (c : CallRequest) → (j == n) ≡ false → at h.side.book.rows j ≡ Some (States.Held, c) → rank_of h.node.files (service_of l.services j) (at l'.pins) (at l.mirror) ≡ rank_of h.node.files (service_of l.services j) (at l.pins) (at l.mirror)
    held-same j c other is = go ((service_of l.services j).worker == w) refl
      where
        held_by : at l.workers (service_of l.services j).worker ≡ Some j
        held_by = k.served.held_by j (service_of l.services j).worker (ap (λ o. holder (state_in o) (service_of l.services j).worker) is)

        go : (b : Bool) → ((service_of l.services j).worker == w) ≡ b → rank_of h.node.files (service_of l.services j) (at l'.pins) (at l.mirror) ≡ rank_of h.node.files (service_of l.services j) (at l.pins) (at l.mirror)
        go false f = ap (λ o. rank_held (is_ready (next_kind h.node.files (service_of l.services j).progress)) (is_none (looked_up (at l.mirror (next_piece (service_of l.services j).progress).page) (needed_access (service_of l.services j).progress))) (is_uncopied o))
            (at-put l.pins w new (service_of l.services j).worker ∙ ap (λ b. cond b (Some new) (at l.pins (service_of l.services j).worker)) f)
        go true f = absurd (
            let g : (service_of l.services j).worker ≡ w = grind (arith, nat_tests, f) in
            let z = sym (ap (at l.workers) (sym g) ∙ held_by) ∙ (may-pin h q w e).request.serving in
            let y : j ≡ n = ap (λ (o : Option ℕ). unwrap_or o 0) z in
            grind (arith, nat_tests, y, other))

    same : (j : ℕ) (u : ReqState × CallRequest) → (j == n) ≡ false → at h.side.book.rows j ≡ Some u → of_request h.node.files l' (j, u) ≡ of_request h.node.files l (j, u)
    same j (States.Held, c) f is = ap (λ n. of_reply + n) (held-same j c f is)
    same j (States.Posted, c) f is = refl
    same j (States.Waiting, c) f is = refl
    same j (States.Faulted, c) f is = refl
    same j (States.Parked, c) f is = refl
    same j (States.Ended, c) f is = refl
    same j (States.Replied, c) f is = refl

    less : of_side h.workers h.node.files (record h.side { linux = l' }) + 1 ≤ of_side h.workers h.node.files h.side + 0
    less =
        let m = may-pin h q w e in
        let x = service_of l.services n in
        let a = entries-but (of_request h.node.files l') (of_request h.node.files l) h.side.book.rows n (States.Held, m.request.call) m.request.is same in
        let v = worker-is (at h.side.book.rows) (at l.services) n w m.request.call m.request.is (k.served.workers_hold w n m.request.serving) in
        let now = ap is_uncopied (ap (at l'.pins) v ∙ at-put l.pins w new w ∙ (let s : (w == w) ≡ true = grind (arith, nat_tests) in ap (λ b. cond b (Some new) (at l.pins w)) s)) ∙ ap not uncopied in
        let was = ap is_uncopied (ap (at l.pins) v ∙ m.no_pin) in
        let found : looked_up (Some m.row) (needed_access x.progress) ≡ Some m.row = (rw m.right refl) in
        let row = ap is_none (ap (λ o. looked_up o (needed_access x.progress)) m.there ∙ found) in
        let b : of_request h.node.files l (n, (States.Held, m.request.call)) ≡ of_reply + 4 = (λ i. of_reply + rank_held (m.ready i) (row i) (was i)) in
        let d : of_request h.node.files l' (n, (States.Held, m.request.call)) ≡ of_reply + 2 = (λ i. of_reply + rank_held (m.ready i) (row i) (now i)) in
        let t = total-put of_pin l.pins w new in
        omega (arith, a, b, d, t)

  less-with : (o : Option Row) → o ≡ Some (may-pin h q w e).row → of_side h.workers h.node.files (record h.side { linux = pinned l w o }) + 1 ≤ of_side h.workers h.node.files h.side + 0
  less-with None f = absurd (grind (arith, f))
  less-with (Some r) f = less (record { page = (next_piece (served l w).progress).page; frame = r.0; rights = r.1; copied = false }) refl

  pub here_pin : HerePays p (Events.Pin q w) h 1 0
  unfolding pin
  here_pin = record { files = refl; own = less-with (row_for l w) (may-pin h q w e).found }
