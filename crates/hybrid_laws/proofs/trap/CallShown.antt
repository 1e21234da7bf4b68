-- The Trap of a delegated call shows a call that is Active.
use Rattle.hybrid_laws.proofs.maps.Reading.{reads-put}
use Rattle.hybrid_laws.proofs.requests.Showing.{has_empty-post}
use Rattle.hybrid_model.specs.Coherence.{OfProcess}
use Rattle.hybrid_model.specs.Fetch.{first_progress}
use Rattle.hybrid_model.specs.Trap.{begin_call}
use Rattle.hybrid_model.specs.Rings.{post}
use Rattle.hybrid_model.specs.Shown.{status_by, status_of, status_in, shown_call, reply_code}
use Rattle.hybrid_model.specs.Sides.{Side, Caller, no_service, state_in, call_in}
use Rattle.hybrid_model.specs.Tallies.{Reads, with_at}
use Rattle.ikc_ring.specs.declared.CallRequest.{CallRequest}
use Rattle.ikc_ring.specs.declared.Msg.TheVariants.{Request}
use Rattle.kernel_model.specs.Nodes.{Node}
use Rattle.kernel_model.specs.OneKernel.{Active}
use Rattle.kernel_model.specs.Progress.{Progress}
use Rattle.mck_word.specs.MapLaws.{at-collect, at-put, same_rows}
use Rattle.mck_word.specs.Maps.{at, put, each, and_then}
use Rattle.request_book.specs.declared.ReqState.TheVariants.{Posted}
use Rattle.request_book.specs.declared.ReqState.{ReqState}
use Rattle.std.proofs.Common.{ap, arith, refl, sym, ◌∙◌}
use Rattle.std.proofs.lemmas.Bool.Decides.{nat_tests}
use Rattle.std.specs.Prelude.{Bool, None, Option, Some, cond, false, true, unwrap_or, ℕ, ◌==◌, ◌≡◌}

-- the callers' calls as they were, and one more
module _ (p : ℕ) (side : Side) (node : Node) (worker_count : ℕ) (ring_of : ℕ → ℕ) (h : OfProcess p side node worker_count ring_of) (r t : ℕ) (progress : Progress) where
  abbrev pub q : ℕ
  q = side.book.next

  abbrev pub call : CallRequest
  call = record { q = record { 0 = q }; tid = record { 0 = t }; call = progress.call; args = progress.arguments }

  pub status-other : (u : ℕ) (d : Caller) → at side.lwk.callers u ≡ Some d → status_by (with_at (at side.book.rows) q (Some (Posted, call))) (at side.linux.services) (at side.linux.workers) (post r (Request call) side.to_linux) side.to_lwk d.request ≡ status_of side d.request
  status-other u d e =
      let l = (h.answered.calls u d e).given in
      let n : (d.request == q) ≡ false = grind (arith, nat_tests, l) in
      rw n (ap (λ b. status_in (state_in (at side.book.rows d.request)) (call_in (at side.book.rows d.request)) (unwrap_or (at side.linux.services d.request) no_service) b (reply_code d.request side.to_lwk)) (has_empty-post (at side.linux.workers) d.request r (Request call) side.to_linux refl))

  pub status-own : status_by (with_at (at side.book.rows) q (Some (Posted, call))) (at side.linux.services) (at side.linux.workers) (post r (Request call) side.to_linux) side.to_lwk q ≡ Active (first_progress call)
  status-own = let e : (q == q) ≡ true = grind (arith, nat_tests) in rw e refl

  -- what is shown of the calls after it
  pub calls_begin : put (each (shown_call side) side.lwk.callers) t (record { marked = false; status = Active (first_progress call) }) ≡ each (shown_call (begin_call r t progress side)) (begin_call r t progress side).lwk.callers
  unfolding begin_call
  calls_begin =
      let b = reads-put side.book.rows q (Posted, call) in
      same_rows _ _ (λ j. at-put (each (shown_call side) side.lwk.callers) t (record { marked = false; status = Active (first_progress call) }) j
      ∙ ap (cond (j == t) (Some (record { marked = false; status = Active (first_progress call) }))) (at-collect (λ k v. Some (shown_call side v)) side.lwk.callers j)
      ∙ go j (j == t) refl (at side.lwk.callers j) refl
      ∙ ap (λ o. and_then o (λ v. Some (shown_call (begin_call r t progress side) v))) (sym (at-put side.lwk.callers t (record { request = q; marked = false }) j))
      ∙ sym (at-collect (λ k v. Some (shown_call (begin_call r t progress side) v)) (put side.lwk.callers t (record { request = q; marked = false })) j))
    where
      go : (j : ℕ) (b : Bool) → (j == t) ≡ b → (o : Option Caller) → at side.lwk.callers j ≡ o
          → cond b (Some (record { marked = false; status = Active (first_progress call) })) (and_then o (λ v. Some (shown_call side v))) ≡ and_then (cond b (Some (record { request = q; marked = false })) o) (λ v. Some (shown_call (begin_call r t progress side) v))
      go j true e o f = let k = sym (ap (λ (m : Reads (ReqState × CallRequest)). status_by m (at side.linux.services) (at side.linux.workers) (post r (Request call) side.to_linux) side.to_lwk q) (reads-put side.book.rows q (Posted, call)) ∙ status-own) in λ i. Some (record { marked = false; status = k i })
      go j false e None f = refl
      go j false e (Some d) f = let k = sym (ap (λ (m : Reads (ReqState × CallRequest)). status_by m (at side.linux.services) (at side.linux.workers) (post r (Request call) side.to_linux) side.to_lwk d.request) (reads-put side.book.rows q (Posted, call)) ∙ status-other j d f) in λ i. Some (record { marked = d.marked; status = k i })
