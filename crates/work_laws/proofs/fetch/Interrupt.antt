-- Fetch of an Interrupt lessens the work: it counts more than a request that may leave the state Parked from then on.
use Rattle.hybrid_laws.proofs.maps.Reading.{sum-take}
use Rattle.hybrid_laws.proofs.maps.Totals.{entries-but, entries-same}
use Rattle.hybrid_model.specs.Fetch.{fetch_from}
use Rattle.hybrid_model.specs.Fetch.{fetch_interrupt, marked_for_linux}
use Rattle.hybrid_model.specs.Workers.{is_ended_or_replied}
use Rattle.hybrid_model.specs.Pairs.{Here}
use Rattle.hybrid_model.specs.Rings.{ring, with_ring}
use Rattle.hybrid_model.specs.Sides.{LinuxSide, Service, service_of, state_of}
use Rattle.ikc_ring.specs.declared.CallRequest.{CallRequest}
use Rattle.ikc_ring.specs.declared.Msg.TheVariants.{Interrupt}
use Rattle.ikc_ring.specs.declared.Msg.{Msg}
use Rattle.mck_word.specs.Maps.{at, entries, put}
use Rattle.mck_word.specs.declared.Req.{Req}
use Rattle.request_book.specs.declared.ReqState.{ReqState}
use Rattle.std.proofs.Common.{ap, arith, refl, sym, ◌∙◌}
use Rattle.std.proofs.lemmas.Bool.Decides.{nat_tests}
use Rattle.std.specs.Prelude.{Bool, List, None, Option, Some, false, sum_by, true, ℕ, ◌+◌, ◌==◌, ◌∷◌, ◌≡◌, ◌≤◌}
use Rattle.work_laws.proofs.sides.AnyRank.{state-least, state-most}
use Rattle.work_laws.proofs.sides.Services.{service-other}
use Rattle.work_laws.specs.Weights.{of_message, of_request, of_requests, of_side, of_state}

module _ (h : Here) (r : ℕ) (n : Req) (place : ℕ) (ms : List Msg) (first : ring r h.side.to_linux ≡ Interrupt n place ∷ ms) where
  abbrev l : LinuxSide
  l = h.side.linux

  abbrev told : Service
  told = record (service_of l.services n.0) { interrupted = true }

  abbrev l' : LinuxSide
  l' = record l { services = put l.services n.0 told }

  others : (j : ℕ) (u : ReqState × CallRequest) → (j == n.0) ≡ false → at h.side.book.rows j ≡ Some u → of_request h.node.files l' (j, u) ≡ of_request h.node.files l (j, u)
  others j u f g = ap (λ (s : Service). of_state h.node.files s (at l.pins) (at l.mirror) u.0) (service-other l.services n.0 told j f)

  -- the request that is told of it, where the book has it
  told-row : (o : Option (ReqState × CallRequest)) → at h.side.book.rows n.0 ≡ o → sum_by (of_request h.node.files l') (entries h.side.book.rows) ≤ of_requests h.node.files h.side + 14
  told-row None is =
      let a = entries-same (of_request h.node.files l') (of_request h.node.files l) h.side.book.rows (λ j u g. others j u (absent j u g) g) in
      omega (arith, a)
    where
      absent : (j : ℕ) (u : ReqState × CallRequest) → at h.side.book.rows j ≡ Some u → (j == n.0) ≡ false
      absent j u g = go (j == n.0) refl
        where
          go : (b : Bool) → (j == n.0) ≡ b → b ≡ false
          go false f = refl
          go true f = absurd (let y : j ≡ n.0 = grind (arith, nat_tests, f) in let z = sym (ap (at h.side.book.rows) y ∙ is) ∙ g in grind (arith, z))
  told-row (Some u) is =
      let a = entries-but (of_request h.node.files l') (of_request h.node.files l) h.side.book.rows n.0 u is others in
      let b = state-least h.node.files (service_of l.services n.0) (at l.pins) (at l.mirror) u.0 in
      let d = state-most h.node.files (service_of l'.services n.0) (at l.pins) (at l.mirror) u.0 in
      omega (arith, a, b, d)

  by-mark : (b : Bool) → of_side h.workers h.node.files (record h.side { linux = marked_for_linux b l n.0; to_linux = with_ring r ms h.side.to_linux }) + 1 ≤ of_side h.workers h.node.files h.side
  by-mark true = let t = sum-take (of_message h.workers l.cleared (at h.side.lwk.table)) r (Interrupt n place) ms h.side.to_linux first in omega (arith, t)
  by-mark false =
      let a = told-row (at h.side.book.rows n.0) refl in
      let t = sum-take (of_message h.workers l.cleared (at h.side.lwk.table)) r (Interrupt n place) ms h.side.to_linux first in
      omega (arith, a, t)

  pub interrupt-fetched : of_side h.workers h.node.files (fetch_from r (Interrupt n place ∷ ms) h).side + 1 ≤ of_side h.workers h.node.files h.side
  unfolding fetch_interrupt
  interrupt-fetched = by-mark (is_ended_or_replied (state_of h.side.book n.0))
