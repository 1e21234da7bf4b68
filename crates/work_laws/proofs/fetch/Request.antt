-- Fetch of a Request lessens the work: a request that is Waiting counts less than one that is Posted.
use Rattle.hybrid_laws.proofs.maps.Reading.{first-of, sum-take}
use Rattle.hybrid_model.specs.Coherence.{OfProcess, RequestIs}
use Rattle.hybrid_model.specs.Fetch.{fetch_from}
use Rattle.hybrid_model.specs.Fetch.{fetch_request, new_service}
use Rattle.hybrid_model.specs.Pairs.{Here}
use Rattle.hybrid_model.specs.Rings.{ring}
use Rattle.hybrid_model.specs.Sides.{LinuxSide, Service}
use Rattle.ikc_ring.specs.declared.CallRequest.{CallRequest}
use Rattle.ikc_ring.specs.declared.Msg.TheVariants.{Request}
use Rattle.ikc_ring.specs.declared.Msg.{Msg}
use Rattle.mck_word.specs.Maps.{at, put}
use Rattle.request_book.specs.declared.ReqState.TheVariants.{Posted, Waiting}
use Rattle.std.proofs.Common.{ap, arith}
use Rattle.std.specs.Prelude.{List, ℕ, ◌+◌, ◌∷◌, ◌≡◌, ◌≤◌}
use Rattle.work_laws.proofs.sides.Services.{service-other, stated-row}
use Rattle.work_laws.specs.Weights.{of_message, of_request, of_side, of_state}

module _ (p : ℕ) (h : Here) (ring_number : ℕ → ℕ) (k : OfProcess p h.side h.node h.workers ring_number) (r : ℕ) (c : CallRequest) (ms : List Msg) (first : ring r h.side.to_linux ≡ Request c ∷ ms) where
  abbrev l : LinuxSide
  l = h.side.linux

  abbrev l' : LinuxSide
  l' = record l { services = put l.services c.q.0 (new_service c) }

  pub request-fetched : of_side h.workers h.node.files (fetch_from r (Request c ∷ ms) h).side + 1 ≤ of_side h.workers h.node.files h.side
  unfolding fetch_request
  request-fetched =
      let is = first-of (RequestIs (at h.side.book.rows)) r (Request c) ms h.side.to_linux first k.asked in
      let a = stated-row (of_request h.node.files l) (of_request h.node.files l') h.side.book c.q.0 Posted Waiting c is
      (λ j u f g. ap (λ (s : Service). of_state h.node.files s (at l.pins) (at l.mirror) u.0) (service-other l.services c.q.0 (new_service c) j f)) in
      let t = sum-take (of_message h.workers l.cleared (at h.side.lwk.table)) r (Request c) ms h.side.to_linux first in
      omega (arith, a, t)
