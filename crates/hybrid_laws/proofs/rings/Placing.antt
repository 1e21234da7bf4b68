-- What stays of the messages of each place.
use Rattle.hybrid_laws.proofs.maps.Reading.{Each-map, Each-push, sum-post, sum-take}
use Rattle.hybrid_model.specs.Coherence.{AtMostInterrupt, InOwnRing, IsPart, Marked, Messages, OnlyOwn, Placed, interrupts_of, is_live, is_of_place, is_posted, of_place, state_at, tid_in, service_at}
use Rattle.hybrid_model.specs.Pairs.{ring_of}
use Rattle.hybrid_model.specs.Rings.{post, ring, with_ring}
use Rattle.hybrid_model.specs.Sides.{Service, Caller}
use Rattle.hybrid_model.specs.Tallies.{Reads, EachNumbered}
use Rattle.ikc_ring.specs.declared.CallRequest.{CallRequest}
use Rattle.ikc_ring.specs.declared.Msg.TheVariants.{Request, Clear, Answer, Interrupt, Reply, Ack, Fault}
use Rattle.ikc_ring.specs.declared.Msg.{Msg}
use Rattle.kernel_model.specs.Nodes.{Thread}
use Rattle.request_book.specs.declared.ReqState.{ReqState}
use Rattle.std.proofs.Common.{ap, arith, refl, subst, sym, ◌∙◌}
use Rattle.std.specs.Prelude.{zero, suc, Bool, List, [], false, if◌then◌else◌, true, ℕ, ◌++◌, ◌∷◌, ◌≡◌}

pub EachNumbered-map : (P Q : ℕ → List Msg → Type 0) (r : ℕ) (rs : List (List Msg)) → ((k : ℕ) (ms : List Msg) → P k ms → Q k ms) → EachNumbered P r rs → EachNumbered Q r rs
EachNumbered-map P Q r [] f h = tt
EachNumbered-map P Q r (ms ∷ rs) f h = (f r ms h.0, EachNumbered-map P Q (suc r) rs f h.1)

-- ---- a request gets another state
module _ (rows rows' : Reads (ReqState × CallRequest)) (posted-same : (p : ℕ) → is_posted (state_at rows' p) ≡ is_posted (state_at rows p)) (live-same : (p : ℕ) → is_live (state_at rows' p) ≡ is_live (state_at rows p)) (tid-same : (p : ℕ) → tid_in (rows' p) ≡ tid_in (rows p)) where
  part-state : (ms : List Msg) → IsPart (state_at rows) ms → IsPart (state_at rows') ms
  part-state [] h = h
  part-state (Request c ∷ ms) h = h
  part-state (Clear x ∷ ms) h = h
  part-state (Answer w i n row ∷ ms) h = h
  part-state (Interrupt n place ∷ ms) h = (posted-same n.0 ∙ h.0, h.1)
  part-state (Reply n code ∷ ms) h = h
  part-state (Ack ∷ ms) h = h
  part-state (Fault w i a ∷ ms) h = h

  own-state : (ring_of : ℕ → ℕ) (r : ℕ) (m : Msg) → InOwnRing ring_of rows r m → InOwnRing ring_of rows' r m
  own-state ring_of r (Interrupt n place) h = λ u. ap ring_of (tid-same n.0) ∙ h (sym (live-same n.0) ∙ u)
  own-state ring_of r (Request c) h = h
  own-state ring_of r (Clear x) h = h
  own-state ring_of r (Answer w i n row) h = h
  own-state ring_of r (Reply n code) h = h
  own-state ring_of r Ack h = h
  own-state ring_of r (Fault w i a) h = h

  placed-state : (threads : Reads Thread) (ring_of : ℕ → ℕ) (r : ℕ) (ms : List Msg) → Placed rows threads ring_of r ms → Placed rows' threads ring_of r ms
  placed-state threads ring_of r ms h = record { parts = λ k. part-state (of_place threads k ms) (h.parts k); own = Each-map (InOwnRing ring_of rows r) (InOwnRing ring_of rows' r) ms (own-state ring_of r) h.own }

  pub Messages-state : (threads : Reads Thread) (ring_of : ℕ → ℕ) (callers : Reads Caller) (rings : List (List Msg)) → Messages rows threads ring_of callers rings → Messages rows' threads ring_of callers rings
  Messages-state threads ring_of callers rings h = record {
    placed = EachNumbered-map (Placed rows threads ring_of) (Placed rows' threads ring_of) 0 rings (placed-state threads ring_of) h.placed;
    only = EachNumbered-map (OnlyOwn rows threads ring_of callers) (OnlyOwn rows' threads ring_of callers) 0 rings (λ r ms k t x c a b d e. k t x c a b d (sym (posted-same c.request) ∙ e)) h.only;
  }

-- ---- a message that is of no place is posted or taken
abbrev pub IsOfNone : Msg → Type 0
IsOfNone m = (threads : Reads Thread) (k : ℕ) → is_of_place threads k m ≡ false

of_place-push : (threads : Reads Thread) (k : ℕ) (ms : List Msg) (m : Msg) → IsOfNone m → of_place threads k (ms ++ m ∷ []) ≡ of_place threads k ms
of_place-push threads k [] m n = rw (n threads k) refl
of_place-push threads k (x ∷ ms) m n = go (is_of_place threads k x) (of_place-push threads k ms m n)
  where
    go : (b : Bool) → of_place threads k (ms ++ m ∷ []) ≡ of_place threads k ms → (if b then x ∷ of_place threads k (ms ++ m ∷ []) else of_place threads k (ms ++ m ∷ [])) ≡ (if b then x ∷ of_place threads k ms else of_place threads k ms)
    go true e = ap (λ ys. x ∷ ys) e
    go false e = e

module _ (rows : Reads (ReqState × CallRequest)) (threads : Reads Thread) (ring_of : ℕ → ℕ) (callers : Reads Caller) (m : Msg) (none : IsOfNone m) (own : (r : ℕ) → InOwnRing ring_of rows r m) where
  placed-push : (r : ℕ) (ms : List Msg) → Placed rows threads ring_of r ms → Placed rows threads ring_of r (ms ++ m ∷ [])
  placed-push r ms h = record {
    parts = λ k. subst (IsPart (state_at rows)) (sym (of_place-push threads k ms m none)) (h.parts k);
    own = Each-push (InOwnRing ring_of rows r) ms m h.own (own r);
  }

  only-push : (r : ℕ) (ms : List Msg) → OnlyOwn rows threads ring_of callers r ms → OnlyOwn rows threads ring_of callers r (ms ++ m ∷ [])
  only-push r ms h t x c a b d e = subst (AtMostInterrupt c.request) (sym (of_place-push threads x.place ms m none)) (h t x c a b d e)

  -- a ring of its own, where there was none
  placed-alone : (r : ℕ) → Placed rows threads ring_of r (m ∷ [])
  placed-alone r = record { parts = λ k. rw (none threads k) tt; own = (own r, tt) }

  only-alone : (r : ℕ) → OnlyOwn rows threads ring_of callers r (m ∷ [])
  only-alone r t x c a b d e = rw (none threads x.place) tt

  posted-each : (P : ℕ → List Msg → Type 0) → ((r : ℕ) (ms : List Msg) → P r ms → P r (ms ++ m ∷ [])) → ((r : ℕ) → P r (m ∷ [])) → (k r : ℕ) (rs : List (List Msg)) → EachNumbered P k rs → EachNumbered P k (post r m rs)
  posted-each P f g k zero [] h = (g k, tt)
  posted-each P f g k zero (ms ∷ rs) h = (f k ms h.0, h.1)
  posted-each P f g k (suc r) [] h = (g k, tt)
  posted-each P f g k (suc r) (ms ∷ rs) h = (h.0, posted-each P f g (suc k) r rs h.1)

  pub Messages-post : (r : ℕ) (rings : List (List Msg)) → Messages rows threads ring_of callers rings → Messages rows threads ring_of callers (post r m rings)
  Messages-post r rings h = record {
    placed = posted-each (Placed rows threads ring_of) placed-push placed-alone 0 r rings h.placed;
    only = posted-each (OnlyOwn rows threads ring_of callers) only-push only-alone 0 r rings h.only;
  }

  taken-each : (P : ℕ → List Msg → Type 0) → ((r : ℕ) (ms : List Msg) → P r (m ∷ ms) → P r ms) → (k r : ℕ) (ms : List Msg) (rs : List (List Msg)) → ring r rs ≡ m ∷ ms → EachNumbered P k rs → EachNumbered P k (with_ring r ms rs)
  taken-each P f k r ms [] e h = tt
  taken-each P f k zero ms (ns ∷ rs) e h = (f k ms (rw e at h.0), h.1)
  taken-each P f k (suc r) ms (ns ∷ rs) e h = (h.0, taken-each P f (suc k) r ms rs e h.1)

  pub Messages-take : (r : ℕ) (ms : List Msg) (rings : List (List Msg)) → ring r rings ≡ m ∷ ms → Messages rows threads ring_of callers rings → Messages rows threads ring_of callers (with_ring r ms rings)
  Messages-take r ms rings e h = record {
    placed = taken-each (Placed rows threads ring_of) (λ k ns x. record { parts = λ j. rw (none threads j) at (x.parts j); own = x.own.1 }) 0 r ms rings e h.placed;
    only = taken-each (OnlyOwn rows threads ring_of callers) (λ k ns x t y c a b d u. rw (none threads y.place) at (x t y c a b d u)) 0 r ms rings e h.only;
  }

-- ---- marks
pub Marked-services : (services services' : Reads Service) (callers : Reads Caller) (rings : List (List Msg)) → ((p : ℕ) → (service_at services' p).interrupted ≡ (service_at services p).interrupted) → Marked services callers rings → Marked services' callers rings
Marked-services services services' callers rings f h = record { fetched = λ t c e u. h.fetched t c e (sym (f c.request) ∙ u); posted = h.posted }

pub Marked-post : (services : Reads Service) (callers : Reads Caller) (r : ℕ) (m : Msg) (rings : List (List Msg)) → ((q : ℕ) → interrupts_of q m ≡ 0) → Marked services callers rings → Marked services callers (post r m rings)
Marked-post services callers r m rings n h = record { fetched = h.fetched; posted = λ t c e. omega (arith, sum-post (interrupts_of c.request) r m rings, h.posted t c e, n c.request) }

pub Marked-take : (services : Reads Service) (callers : Reads Caller) (r : ℕ) (m : Msg) (ms : List Msg) (rings : List (List Msg)) → ring r rings ≡ m ∷ ms → Marked services callers rings → Marked services callers (with_ring r ms rings)
Marked-take services callers r m ms rings e h = record { fetched = h.fetched; posted = λ t c k. omega (arith, sum-take (interrupts_of c.request) r m ms rings e, h.posted t c k) }
