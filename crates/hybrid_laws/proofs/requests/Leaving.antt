-- A request that is Ended leaves the book: what stays of the messages in the rings.
use Rattle.hybrid_laws.proofs.maps.Reading.{Each-map}
use Rattle.hybrid_laws.proofs.rings.Placing.{EachNumbered-map}
use Rattle.hybrid_model.specs.Coherence.{InOwnRing, IsPart, Messages, OnlyOwn, Placed, ReplyIsAwaited, is_live, is_posted, of_place, replies_to, state_at, tid_in}
use Rattle.hybrid_model.specs.Sides.{Caller}
use Rattle.hybrid_model.specs.Tallies.{Each, Reads, tally}
use Rattle.ikc_ring.specs.declared.CallRequest.{CallRequest}
use Rattle.ikc_ring.specs.declared.Msg.TheVariants.{Ack, Answer, Clear, Fault, Interrupt, Reply, Request}
use Rattle.ikc_ring.specs.declared.Msg.{Msg}
use Rattle.kernel_model.specs.Nodes.{Thread}
use Rattle.request_book.specs.declared.ReqState.{ReqState}
use Rattle.std.proofs.Common.{ap, arith, refl, sym, ◌∙◌}
use Rattle.std.proofs.lemmas.Bool.Decides.{nat_tests}
use Rattle.std.specs.Prelude.{List, Some, [], true, ℕ, ◌∷◌, ◌≡◌}

module _ (rows rows' : Reads (ReqState × CallRequest)) (posted-same : (p : ℕ) → is_posted (state_at rows' p) ≡ is_posted (state_at rows p)) (live-before : (p : ℕ) → is_live (state_at rows' p) ≡ true → is_live (state_at rows p) ≡ true) (tid-same : (p : ℕ) → is_live (state_at rows' p) ≡ true → tid_in (rows' p) ≡ tid_in (rows p)) where
  part-states : (ms : List Msg) → IsPart (state_at rows) ms → IsPart (state_at rows') ms
  part-states [] h = h
  part-states (Request c ∷ ms) h = h
  part-states (Clear x ∷ ms) h = h
  part-states (Answer w i n row ∷ ms) h = h
  part-states (Interrupt n place ∷ ms) h = (posted-same n.0 ∙ h.0, h.1)
  part-states (Reply n code ∷ ms) h = h
  part-states (Ack ∷ ms) h = h
  part-states (Fault w i a ∷ ms) h = h

  own-states : (ring_of : ℕ → ℕ) (r : ℕ) (m : Msg) → InOwnRing ring_of rows r m → InOwnRing ring_of rows' r m
  own-states ring_of r (Interrupt n place) h = λ u. ap ring_of (tid-same n.0 u) ∙ h (live-before n.0 u)
  own-states ring_of r (Request c) h = h
  own-states ring_of r (Clear x) h = h
  own-states ring_of r (Answer w i n row) h = h
  own-states ring_of r (Reply n code) h = h
  own-states ring_of r Ack h = h
  own-states ring_of r (Fault w i a) h = h

  placed-states : (threads : Reads Thread) (ring_of : ℕ → ℕ) (r : ℕ) (ms : List Msg) → Placed rows threads ring_of r ms → Placed rows' threads ring_of r ms
  placed-states threads ring_of r ms h = record { parts = λ k. part-states (of_place threads k ms) (h.parts k); own = Each-map (InOwnRing ring_of rows r) (InOwnRing ring_of rows' r) ms (own-states ring_of r) h.own }

  pub Messages-fewer : (threads : Reads Thread) (ring_of : ℕ → ℕ) (callers : Reads Caller) (rings : List (List Msg)) → Messages rows threads ring_of callers rings → Messages rows' threads ring_of callers rings
  Messages-fewer threads ring_of callers rings h = record {
    placed = EachNumbered-map (Placed rows threads ring_of) (Placed rows' threads ring_of) 0 rings (placed-states threads ring_of) h.placed;
    only = EachNumbered-map (OnlyOwn rows threads ring_of callers) (OnlyOwn rows' threads ring_of callers) 0 rings (λ r ms k t x c a b d e. k t x c a b d (sym (posted-same c.request) ∙ e)) h.only;
  }

-- no Reply of a number that stands in the book is under way
pub no-reply : (rows : Reads (ReqState × CallRequest)) (callers : Reads Caller) (q : ℕ) (r : ReqState × CallRequest) → rows q ≡ Some r → (bs : List Msg) → Each (ReplyIsAwaited rows callers) bs → tally (replies_to q) bs ≡ 0
no-reply rows callers q r is [] h = refl
no-reply rows callers q r is (Reply n code ∷ bs) h = let g = h.0.gone in let t = no-reply rows callers q r is bs h.1 in grind (arith, nat_tests, g, is, t)
no-reply rows callers q r is (Request c ∷ bs) h = omega (arith, no-reply rows callers q r is bs h.1)
no-reply rows callers q r is (Clear x ∷ bs) h = omega (arith, no-reply rows callers q r is bs h.1)
no-reply rows callers q r is (Answer w i n row ∷ bs) h = omega (arith, no-reply rows callers q r is bs h.1)
no-reply rows callers q r is (Interrupt n place ∷ bs) h = omega (arith, no-reply rows callers q r is bs h.1)
no-reply rows callers q r is (Ack ∷ bs) h = omega (arith, no-reply rows callers q r is bs h.1)
no-reply rows callers q r is (Fault w i a ∷ bs) h = omega (arith, no-reply rows callers q r is bs h.1)
