-- Where one live request shows something else, one call of the process does: that of the thread which the book names.
use Rattle.hybrid_laws.proofs.requests.Showing.{calls-put}
use Rattle.hybrid_model.specs.Coherence.{OfProcess, calls_it, is_live}
use Rattle.hybrid_model.specs.Answer.{thread_served}
use Rattle.hybrid_model.specs.Shown.{shown_call, status_of}
use Rattle.hybrid_model.specs.Sides.{Caller, Side, call_in, call_of}
use Rattle.ikc_ring.specs.declared.CallRequest.{CallRequest}
use Rattle.kernel_model.specs.Nodes.{Node, Thread}
use Rattle.kernel_model.specs.OneKernel.{CallStatus}
use Rattle.mck_word.specs.MapLaws.{at-collect}
use Rattle.mck_word.specs.Maps.{and_then, at, each, put}
use Rattle.request_book.specs.declared.ReqState.{ReqState}
use Rattle.std.proofs.Common.{ap, arith, refl, sym, ◌∙◌}
use Rattle.std.proofs.lemmas.Bool.Decides.{nat_tests}
use Rattle.std.specs.Prelude.{Bool, None, Option, Some, false, true, ℕ, ◌==◌, ◌≡◌, ◌≢◌, unwrap_or}

module _ (p : ℕ) (side : Side) (node : Node) (worker_count : ℕ) (ring_of : ℕ → ℕ) (h : OfProcess p side node worker_count ring_of) (q : ℕ) (was : ReqState) (call : CallRequest) (is : at side.book.rows q ≡ Some (was, call)) (live : is_live was ≡ true) where
  -- the thread that calls
  pub the-caller : (c : Caller) × (at side.lwk.callers call.tid.0 ≡ Some c) × (c.request ≡ q)
  the-caller = go (at side.lwk.callers call.tid.0) refl (rw is at (h.answered.live q (rw is live)))
    where
      go : (o : Option Caller) → at side.lwk.callers call.tid.0 ≡ o → calls_it q (at side.lwk.callers call.tid.0) ≡ true → (c : Caller) × (at side.lwk.callers call.tid.0 ≡ Some c) × (c.request ≡ q)
      go None e k = absurd (let k' = rw e at k in grind (arith, k'))
      go (Some c) e k = (c, e, (let k' = rw e at k in grind (arith, nat_tests, k')))

  pub the-thread : (x : Thread) × (at node.threads call.tid.0 ≡ Some x) × (x.process ≡ p)
  the-thread = h.calls.there call.tid.0 the-caller.0 the-caller.1

  pub shown-call-at : at (each (shown_call side) side.lwk.callers) call.tid.0 ≡ Some (record { marked = the-caller.0.marked; status = status_of side q })
  shown-call-at = at-collect (λ k y. Some (shown_call side y)) side.lwk.callers call.tid.0 ∙ ap (λ o. and_then o (λ y. Some (shown_call side y))) the-caller.1
      ∙ (let s = ap (status_of side) the-caller.2 in λ k. Some (record { marked = the-caller.0.marked; status = s k }))

  pub calls-after : (side' : Side) (y : CallStatus) → status_of side' q ≡ y → ((x : ℕ) → (x == q) ≡ false → status_of side' x ≡ status_of side x)
      → put (each (shown_call side) side.lwk.callers) call.tid.0 (record { marked = the-caller.0.marked; status = y }) ≡ each (shown_call side') side.lwk.callers
  calls-after side' y now others = calls-put side side' side.lwk.callers call.tid.0 the-caller.0 (record { marked = the-caller.0.marked; status = y }) the-caller.1
      (let e = ap (status_of side') the-caller.2 ∙ now in λ k. record { marked = the-caller.0.marked; status = e k })
      (λ u d n e. others d.request (other u d n e (d.request == q) refl))
    where
      other : (u : ℕ) (d : Caller) → u ≢ call.tid.0 → at side.lwk.callers u ≡ Some d → (b : Bool) → (d.request == q) ≡ b → b ≡ false
      other u d n e false f = refl
      other u d n e true f = absurd (n (h.answered.alone u call.tid.0 d the-caller.0 e the-caller.1 (let g : d.request ≡ q = grind (arith, nat_tests, f) in g ∙ sym the-caller.2)))

-- the thread whose request a worker serves
pub thread-served-is : (s : Side) (w n : ℕ) (was : ReqState) (call : CallRequest) → at s.linux.workers w ≡ Some n → at s.book.rows n ≡ Some (was, call) → thread_served s w ≡ call.tid.0
thread-served-is s w n was call e f = ap (λ (o : Option ℕ). (call_of s.book (unwrap_or o 0)).tid.0) e ∙ ap (λ (o : Option (ReqState × CallRequest)). (call_in o).tid.0) f
