-- Fetch of a Request shows nothing.
use Rattle.hybrid_laws.proofs.maps.Reading.{first-of, reads-put, reads-stated}
use Rattle.hybrid_laws.proofs.requests.Showing.{has_empty-take, shown-same}
use Rattle.hybrid_model.specs.Coherence.{OfProcess, RequestIs}
use Rattle.hybrid_model.specs.Fetch.{fetch_request, new_service}
use Rattle.hybrid_model.specs.Pairs.{ring_of}
use Rattle.hybrid_model.specs.Rings.{ring, with_ring}
use Rattle.hybrid_model.specs.Shown.{has_empty, status_by, status_in, shown_own, reply_code}
use Rattle.hybrid_model.specs.Sides.{Side, Service, no_service, state_in, call_in, with_state}
use Rattle.hybrid_model.specs.Tallies.{Reads, with_at}
use Rattle.ikc_ring.specs.declared.CallRequest.{CallRequest}
use Rattle.ikc_ring.specs.declared.Msg.TheVariants.{Request}
use Rattle.ikc_ring.specs.declared.Msg.{Msg}
use Rattle.kernel_model.specs.Nodes.{Node}
use Rattle.mck_word.specs.Maps.{Map, at, put}
use Rattle.request_book.specs.declared.ReqState.TheVariants.{Posted, Waiting}
use Rattle.request_book.specs.declared.ReqState.{ReqState}
use Rattle.std.proofs.Common.{ap, arith, refl}
use Rattle.std.proofs.lemmas.Bool.Decides.{nat_tests}
use Rattle.std.specs.Prelude.{Bool, List, Some, [], false, if◌then◌else◌, true, unwrap_or, ℕ, ◌++◌, ◌==◌, ◌∷◌, ◌≡◌}

module _ (workers : Reads ℕ) (rows : Reads (ReqState × CallRequest)) (services : Reads Service) (rings : List (List Msg)) (bs : List Msg) (r q : ℕ) (c : CallRequest) (ms : List Msg) (first : ring r rings ≡ Request c ∷ ms) (is : rows q ≡ Some (Posted, c)) where
  status-fetch : (x : ℕ) → status_by (with_at rows q (Some (Waiting, c))) (with_at services q (Some (new_service c))) workers (with_ring r ms rings) bs x ≡ status_by rows services workers rings bs x
  status-fetch x = go (x == q) refl
    where
      go : (b : Bool) → (x == q) ≡ b
          → status_in (state_in (if b then Some (Waiting, c) else rows x)) (call_in (if b then Some (Waiting, c) else rows x)) (unwrap_or (if b then Some (new_service c) else services x) no_service) (has_empty workers x (with_ring r ms rings)) (reply_code x bs)
          ≡ status_by rows services workers rings bs x
      go true e = let g : x ≡ q = grind (arith, nat_tests, e) in rw (g, is) refl
      go false e = ap (λ b. status_in (state_in (rows x)) (call_in (rows x)) (unwrap_or (services x) no_service) b (reply_code x bs)) (has_empty-take workers x r (Request c) ms rings refl first)

pub image_fetch_request : (frames : Map (List ℕ)) (p : ℕ) (side : Side) (node : Node) (worker_count : ℕ) (ring_of : ℕ → ℕ) (h : OfProcess p side node worker_count ring_of) (r : ℕ) (c : CallRequest) (ms : List Msg) → ring r side.to_linux ≡ Request c ∷ ms
    → shown_own frames (record side { linux = (fetch_request c side.linux side.book side.round).linux; book = (fetch_request c side.linux side.book side.round).book; round = side.round; to_linux = with_ring r ms side.to_linux }) ≡ shown_own frames side
unfolding fetch_request
image_fetch_request frames p side node worker_count ring_of h r c ms first =
    let is = first-of (RequestIs (at side.book.rows)) r (Request c) ms side.to_linux first h.asked in
    let b = reads-stated Waiting c.q.0 side.book.rows c Posted is in
    let d = reads-put side.linux.services c.q.0 (new_service c) in
    let side' : Side = record side { linux = record side.linux { services = put side.linux.services c.q.0 (new_service c) }; book = record (with_state side.book c.q.0 Waiting) { waiting = side.book.waiting ++ c.q.0 ∷ [] }; to_linux = with_ring r ms side.to_linux } in
    shown-same frames side side' refl refl (λ t x u. rw (b, d) (status-fetch (at side.linux.workers) (at side.book.rows) (at side.linux.services) side.to_linux side.to_lwk r c.q.0 c ms first is x.request))
