-- Unpin lessens the work by the pin: no request counts otherwise without it.
use Rattle.hybrid_model.specs.declared.events.Event.TheVariants as Events
use Rattle.request_book.specs.declared.ReqState.TheVariants as States
use Rattle.hybrid_laws.proofs.maps.Sums.{total-cut}
use Rattle.hybrid_laws.proofs.maps.Tests.{both, some-is}
use Rattle.hybrid_laws.proofs.maps.Totals.{entries-same}
use Rattle.hybrid_model.specs.Coherence.{OfProcess, holder}
use Rattle.hybrid_model.specs.Events.{may_here}
use Rattle.hybrid_model.specs.Copy.{is_uncopied}
use Rattle.hybrid_model.specs.Unpin.{is_copied, may_unpin, unpin}
use Rattle.hybrid_model.specs.Workers.{has_pin, holds, is_held, kind_for}
use Rattle.hybrid_model.specs.Pairs.{Here}
use Rattle.hybrid_model.specs.Sides.{LinuxSide, Service, looked_up, service_of, state_in}
use Rattle.ikc_ring.specs.declared.CallRequest.{CallRequest}
use Rattle.kernel_model.specs.Progress.{is_ready, needed_access, next_kind, next_piece}
use Rattle.mck_word.specs.MapLaws.{at-cut}
use Rattle.mck_word.specs.Maps.{at, cut}
use Rattle.mck_word.specs.declared.Pid.{Pid}
use Rattle.page_pins.specs.declared.Pin.{Pin}
use Rattle.request_book.specs.declared.ReqState.{ReqState}
use Rattle.std.proofs.Common.{ap, arith, refl, sym, ◌∙◌}
use Rattle.std.proofs.lemmas.Bool.Decides.{nat_tests}
use Rattle.std.specs.Prelude.{Bool, None, Option, Some, cond, false, is_none, nat_lt, not, true, ℕ, ◌&&◌, ◌+◌, ◌==◌, ◌≡◌, ◌||◌}
use Rattle.work_laws.proofs.sides.Wholes.{HerePays}
use Rattle.work_laws.specs.Weights.{of_pin, of_reply, of_request, rank_held, rank_of}

-- a pin that was copied, or whose piece isn't ready, makes no difference
pin-counts-not : (ready without_row : Bool) (o : Option Pin) → (is_copied o || not ready) ≡ true → rank_held ready without_row false ≡ rank_held ready without_row (is_uncopied o)
pin-counts-not ready without_row None e = refl
pin-counts-not false without_row (Some x) e = refl
pin-counts-not true without_row (Some x) e = go x.copied e
  where
    go : (b : Bool) → (b || not true) ≡ true → rank_held true without_row false ≡ rank_held true without_row (not b)
    go true e = refl
    go false e = absurd (grind (arith, e))

module _ (p : ℕ) (h : Here) (ring_number : ℕ → ℕ) (k : OfProcess p h.side h.node h.workers ring_number) (q : Pid) (w : ℕ) (e : may_here (Events.Unpin q w) h ≡ true) where
  abbrev l : LinuxSide
  l = h.side.linux

  abbrev l' : LinuxSide
  l' = record l { pins = cut l.pins w }

  allowed : (has_pin l w ≡ true) × ((is_copied (at l.pins w) || not (holds l h.side.book w && is_ready (kind_for l h.node.files w))) ≡ true)
  allowed =
      let a = both (nat_lt w h.workers) (may_unpin l h.side.book h.node.files w) e in
      both (has_pin l w) (is_copied (at l.pins w) || not (holds l h.side.book w && is_ready (kind_for l h.node.files w))) a.1

  -- of the request that the worker holds
  own : (j : ℕ) (c : CallRequest) → at h.side.book.rows j ≡ Some (States.Held, c) → at l.workers w ≡ Some j → (is_copied (at l.pins w) || not (is_ready (next_kind h.node.files (service_of l.services j).progress))) ≡ true
  own j c is serving =
      let held = ap (λ o. is_held (state_in o)) is in
      let a = rw serving at allowed.1 in
      rw held at a

  held-same : (j : ℕ) (c : CallRequest) → at h.side.book.rows j ≡ Some (States.Held, c) → rank_of h.node.files (service_of l.services j) (at l'.pins) (at l.mirror) ≡ rank_of h.node.files (service_of l.services j) (at l.pins) (at l.mirror)
  held-same j c is = go ((service_of l.services j).worker == w) refl
    where
      x : Service
      x = service_of l.services j

      held_by : at l.workers (service_of l.services j).worker ≡ Some j
      held_by = k.served.held_by j (service_of l.services j).worker (ap (λ o. holder (state_in o) (service_of l.services j).worker) is)

      go : (b : Bool) → ((service_of l.services j).worker == w) ≡ b → rank_of h.node.files (service_of l.services j) (at l'.pins) (at l.mirror) ≡ rank_of h.node.files (service_of l.services j) (at l.pins) (at l.mirror)
      go false f = ap (λ o. rank_held (is_ready (next_kind h.node.files (service_of l.services j).progress)) (is_none (looked_up (at l.mirror (next_piece (service_of l.services j).progress).page) (needed_access (service_of l.services j).progress))) (is_uncopied o))
          (at-cut l.pins w (service_of l.services j).worker ∙ ap (λ b. cond b None (at l.pins (service_of l.services j).worker)) f)
      go true f =
          let g : (service_of l.services j).worker ≡ w = grind (arith, nat_tests, f) in
          let ready = is_ready (next_kind h.node.files (service_of l.services j).progress) in
          let without_row = is_none (looked_up (at l.mirror (next_piece (service_of l.services j).progress).page) (needed_access (service_of l.services j).progress)) in
          let serving = ap (at l.workers) (sym g) ∙ held_by in
          ap (λ o. rank_held ready without_row (is_uncopied o)) (at-cut l.pins w (service_of l.services j).worker ∙ ap (λ b. cond b None (at l.pins (service_of l.services j).worker)) f)
          ∙ pin-counts-not ready without_row (at l.pins w) (own j c is serving)
          ∙ ap (λ (v : ℕ). rank_held ready without_row (is_uncopied (at l.pins v))) (sym g)

  same : (j : ℕ) (u : ReqState × CallRequest) → at h.side.book.rows j ≡ Some u → of_request h.node.files l' (j, u) ≡ of_request h.node.files l (j, u)
  same j (States.Held, c) is = ap (λ n. of_reply + n) (held-same j c is)
  same j (States.Posted, c) is = refl
  same j (States.Waiting, c) is = refl
  same j (States.Faulted, c) is = refl
  same j (States.Parked, c) is = refl
  same j (States.Ended, c) is = refl
  same j (States.Replied, c) is = refl

  pub here_unpin : HerePays p (Events.Unpin q w) h 1 0
  unfolding unpin
  here_unpin =
      let a = entries-same (of_request h.node.files l') (of_request h.node.files l) h.side.book.rows same in
      let x = some-is (at l.pins w) allowed.0 in
      let b = total-cut of_pin l.pins w in
      let d = rw x.1 at b in
      record { files = refl; own = omega (arith, a, d) }
