-- What the two kernels show: its calls are sound, and a call that a worker holds is active there.
use Rattle.hybrid_laws.proofs.memory.NewSide.{no-at}
use Rattle.hybrid_laws.proofs.requests.Speaking.{shown-call-at, the-caller, the-thread, thread-served-is}
use Rattle.hybrid_laws.proofs.states.Steps.{one-here}
use Rattle.hybrid_model.specs.Globals.{Coherent, StatusHolds, ring_number}
use Rattle.hybrid_model.specs.Answer.{thread_served}
use Rattle.hybrid_model.specs.Pairs.{Here, Pair, here, side_of}
use Rattle.hybrid_model.specs.Shown.{one, shown_call, shown_own}
use Rattle.hybrid_model.specs.Sides.{Caller, Service, Side, new_side, service_of}
use Rattle.ikc_ring.specs.declared.CallRequest.{CallRequest}
use Rattle.kernel_model.specs.Nodes.{Thread, no_thread, thread_of}
use Rattle.kernel_model.specs.OneKernel.{Active, Call as OneCall, OneHere, Own, no_own, one_here}
use Rattle.kernel_model.specs.Steps.{active, has_call, holds_of, is_active, no_call, progress_at, progress_in}
use Rattle.mck_word.specs.MapLaws.{at-collect}
use Rattle.mck_word.specs.Maps.{and_then, at, each}
use Rattle.request_book.specs.declared.ReqState.TheVariants.{Held}
use Rattle.std.proofs.Common.{ap, arith, refl, subst, sym, ◌∙◌}
use Rattle.std.specs.Prelude.{Bool, None, Option, Some, is_some, true, unwrap_or, ℕ, ◌&&◌, ◌≡◌}
use Rattle.work_laws.proofs.calls.Steps.{CallsSound}

module _ (pair : Pair) (c : Coherent pair) where
  -- each call that is shown is sound
  pub sound-shown : (p : ℕ) → CallsSound (one_here (one pair) p)
  sound-shown p t x is = go (at pair.sides p) refl
    where
      own-is : at (one pair).own p ≡ and_then (at pair.sides p) (λ s. Some (shown_own pair.frames s))
      own-is = at-collect (λ k s. Some (shown_own pair.frames s)) pair.sides p

      calls : (s : Side) → side_of pair p ≡ s → (o : Option Caller) → at s.lwk.callers t ≡ o → and_then o (λ y. Some (shown_call s y)) ≡ Some x → StatusHolds x.status
      calls s e None f g = absurd (grind (arith, g))
      calls s e (Some y) f g =
          let a = c.calls p t y (ap (λ (z : Side). at z.lwk.callers t) e ∙ f) in
          let b : shown_call s y ≡ x = cc in
          subst (λ (z : OneCall). StatusHolds z.status) b (rw e at a)

      go : (o : Option Side) → at pair.sides p ≡ o → StatusHolds x.status
      go None e = absurd (let a = own-is ∙ ap (λ o. and_then o (λ s. Some (shown_own pair.frames s))) e in no-at t x (sym (ap (λ (o : Option Own). at (unwrap_or o no_own).calls t) a) ∙ is))
      go (Some s) e =
          let a = own-is ∙ ap (λ o. and_then o (λ s. Some (shown_own pair.frames s))) e in
          let b = sym (ap (λ (o : Option Own). at (unwrap_or o no_own).calls t) a) ∙ is in
          let d = sym (at-collect (λ k y. Some (shown_call s y)) s.lwk.callers t) ∙ b in
          calls s (ap (λ (o : Option Side). unwrap_or o (new_side 0)) e) (at s.lwk.callers t) refl d

  -- ---- the call of a request that a worker holds
  module _ (p : ℕ) (present : at pair.sides p ≡ Some (side_of pair p)) (w n : ℕ) (call : CallRequest) (serving : at (side_of pair p).linux.workers w ≡ Some n) (is : at (side_of pair p).book.rows n ≡ Some (Held, call)) where
    abbrev h : Here
    h = here pair p

    abbrev t : ℕ
    t = thread_served h.side w

    abbrev h1 : OneHere
    h1 = one_here (one pair) p

    abbrev before : Service
    before = service_of h.side.linux.services n

    call-is : (m : Bool) × (at h1.own.calls t ≡ Some (record { marked = m; status = Active before.progress }))
    call-is =
        let a = shown-call-at p h.side h.node h.workers (ring_number pair) (c.whole p) n Held call is refl in
        let b = rw is at a in
        let d = thread-served-is h.side w n Held call serving is in
        let e = one-here pair p present in
        ((the-caller p h.side h.node h.workers (ring_number pair) (c.whole p) n Held call is refl).0.marked, ap (λ (x : OneHere). at x.own.calls t) e ∙ ap (λ (x : ℕ). at (each (shown_call h.side) h.side.lwk.callers) x) d ∙ b)

    pub has-call : has_call h1 t ≡ true
    has-call = ap is_some call-is.1

    pub progress-is : progress_at h1 t ≡ before.progress
    progress-is = ap (λ (o : Option OneCall). progress_in (unwrap_or o no_call).status) call-is.1

    pub is-active : is_active h1 t (λ x. true) ≡ true
    is-active = ap (λ (o : Option OneCall). is_some o && holds_of (active (unwrap_or o no_call).status) (λ x. true)) call-is.1

    pub thread-own : (thread_of pair.node t).process ≡ p
    thread-own =
        let x = the-thread p h.side h.node h.workers (ring_number pair) (c.whole p) n Held call is refl in
        ap (λ (x : ℕ). (thread_of pair.node x).process) (thread-served-is h.side w n Held call serving is) ∙ ap (λ (o : Option Thread). (unwrap_or o no_thread).process) x.1 ∙ x.2
