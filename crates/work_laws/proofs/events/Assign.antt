-- Assign lessens the work: a request that is Held counts less than one that is Waiting.
use Rattle.hybrid_model.specs.declared.events.Event.TheVariants as Events
use Rattle.hybrid_laws.proofs.assign.Assign.{may-assign, waiting-first}
use Rattle.hybrid_laws.proofs.maps.Tests.{not-empty}
use Rattle.hybrid_model.specs.Coherence.{OfProcess}
use Rattle.hybrid_model.specs.Events.{may_here}
use Rattle.hybrid_model.specs.Assign.{assign}
use Rattle.hybrid_model.specs.Copy.{is_uncopied}
use Rattle.hybrid_model.specs.Pairs.{Here}
use Rattle.hybrid_model.specs.Sides.{LinuxSide, Service, looked_up, service_of}
use Rattle.hybrid_model.specs.Spaces.{first_number}
use Rattle.ikc_ring.specs.declared.CallRequest.{CallRequest}
use Rattle.kernel_model.specs.Progress.{is_ready, needed_access, next_kind, next_piece}
use Rattle.mck_word.specs.Maps.{at, put}
use Rattle.mck_word.specs.declared.Pid.{Pid}
use Rattle.request_book.specs.declared.ReqState.TheVariants.{Held, Waiting}
use Rattle.std.proofs.Common.{ap, arith, refl, ◌∙◌}
use Rattle.std.specs.Prelude.{List, Some, is_none, true, ℕ, ◌+◌, ◌≡◌}
use Rattle.work_laws.proofs.sides.AnyRank.{rank-most}
use Rattle.work_laws.proofs.sides.Services.{service-other, service-own, stated-row}
use Rattle.work_laws.proofs.sides.Wholes.{HerePays}
use Rattle.work_laws.specs.Weights.{of_reply, of_request, of_state, rank_of}

module _ (p : ℕ) (h : Here) (ring_number : ℕ → ℕ) (k : OfProcess p h.side h.node h.workers ring_number) (q : Pid) (w : ℕ) (e : may_here (Events.Assign q w) h ≡ true) where
  abbrev n : ℕ
  n = first_number h.side.book.waiting

  waits : (call : CallRequest) × (at h.side.book.rows n ≡ Some (Waiting, call))
  waits =
      let f = not-empty h.side.book.waiting (may-assign h q w e).waits in
      let r = waiting-first (at h.side.book.rows) f.0 f.1 (rw f.2 at k.served.waits) in
      (r.0, ap (λ (ws : List ℕ). at h.side.book.rows (first_number ws)) f.2 ∙ r.1)

  abbrev taken : Service
  taken = record (service_of h.side.linux.services n) { worker = w }

  abbrev linux' : LinuxSide
  linux' = record h.side.linux { workers = put h.side.linux.workers w n; services = put h.side.linux.services n taken }

  pub here_assign : HerePays p (Events.Assign q w) h 1 0
  unfolding assign
  here_assign =
      let files = h.node.files in
      let l = h.side.linux in
      let a = stated-row (of_request files l) (of_request files linux') h.side.book n Waiting Held waits.0 waits.1
      (λ j u f g. ap (λ (s : Service). of_state files s (at l.pins) (at l.mirror) u.0) (service-other l.services n taken j f)) in
      let b = ap (λ (s : Service). of_reply + rank_of files s (at l.pins) (at l.mirror)) (service-own l.services n taken) in
      let d = rank-most (is_ready (next_kind files taken.progress)) (is_none (looked_up (at l.mirror (next_piece taken.progress).page) (needed_access taken.progress))) (is_uncopied (at l.pins w)) in
      record { files = refl; own = omega (arith, a, b, d) }
