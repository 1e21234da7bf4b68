-- What the rings of a process hold, as one record, and how it stays where a message is taken or comes back, a request gets another state, or a service changes.
use Rattle.hybrid_laws.proofs.maps.Reading.{EachRing-take}
use Rattle.hybrid_laws.proofs.requests.Requests.{asked-state, directions-back, directions-take, interrupts-state, live-state, tid-state}
use Rattle.hybrid_laws.proofs.rings.Placing.{IsOfNone, Marked-services, Marked-take, Messages-state, Messages-take}
use Rattle.hybrid_model.specs.Coherence.{Directions, InOwnRing, InterruptIs, Marked, Messages, OfProcess, RequestIs, goes_to_linux, is_live, is_posted, service_at, state_at}
use Rattle.hybrid_model.specs.Rings.{ring, with_ring}
use Rattle.hybrid_model.specs.Sides.{Caller, Service, Side}
use Rattle.hybrid_model.specs.Tallies.{EachRing, Reads, with_at}
use Rattle.ikc_ring.specs.declared.CallRequest.{CallRequest}
use Rattle.ikc_ring.specs.declared.Msg.{Msg}
use Rattle.kernel_model.specs.Nodes.{Node, Thread}
use Rattle.mck_word.specs.Maps.{at}
use Rattle.request_book.specs.declared.ReqState.{ReqState}
use Rattle.std.proofs.Common.{arith, sym, ◌∙◌}
use Rattle.std.proofs.lemmas.Bool.Decides.{nat_tests}
use Rattle.std.specs.Prelude.{List, Some, [], false, true, ℕ, ◌++◌, ◌∷◌, ◌≡◌}

-- the parts of a process that speak of the messages in its rings, beside those of its table, its round and its workers
pub record InRings (rows : Reads (ReqState × CallRequest)) (next : ℕ) (threads : Reads Thread) (ring_of : ℕ → ℕ) (callers : Reads Caller) (services : Reads Service) (rings : List (List Msg)) (bs : List Msg) : Type 0 where
  pub asked : EachRing (RequestIs rows) rings
  pub interrupts : EachRing (InterruptIs next rows threads) rings
  pub directions : Directions rings bs
  pub messages : Messages rows threads ring_of callers rings
  pub marked : Marked services callers rings

pub in_rings : {p : ℕ} {side : Side} {node : Node} {worker_count : ℕ} {ring_of : ℕ → ℕ} → OfProcess p side node worker_count ring_of
    → InRings (at side.book.rows) side.book.next (at node.threads) ring_of (at side.lwk.callers) (at side.linux.services) side.to_linux side.to_lwk
in_rings h = record { asked = h.asked; interrupts = h.interrupts; directions = h.directions; messages = h.messages; marked = h.marked }

module _ (rows : Reads (ReqState × CallRequest)) (next : ℕ) (threads : Reads Thread) (ring_of : ℕ → ℕ) (callers : Reads Caller) (services : Reads Service) (rings : List (List Msg)) (bs : List Msg) (h : InRings rows next threads ring_of callers services rings bs) where
  -- a message of no place is taken
  pub rings-take : (r : ℕ) (m : Msg) (ms : List Msg) → ring r rings ≡ m ∷ ms → IsOfNone m → ((k : ℕ) → InOwnRing ring_of rows k m) → InRings rows next threads ring_of callers services (with_ring r ms rings) bs
  rings-take r m ms first none own = record {
    asked = EachRing-take (RequestIs rows) r m ms rings first h.asked;
    interrupts = EachRing-take (InterruptIs next rows threads) r m ms rings first h.interrupts;
    directions = directions-take r m ms rings bs first h.directions;
    messages = Messages-take rows threads ring_of callers m none own r ms rings first h.messages;
    marked = Marked-take services callers r m ms rings first h.marked;
  }

  -- a message comes back
  pub rings-back : (m : Msg) → goes_to_linux m ≡ false → InRings rows next threads ring_of callers services rings (bs ++ m ∷ [])
  rings-back m e = record { asked = h.asked; interrupts = h.interrupts; directions = directions-back m rings bs e h.directions; messages = h.messages; marked = h.marked }

  -- services change, and their marks stay
  pub rings-services : (services' : Reads Service) → ((q : ℕ) → (service_at services' q).interrupted ≡ (service_at services q).interrupted) → InRings rows next threads ring_of callers services' rings bs
  rings-services services' f = record { asked = h.asked; interrupts = h.interrupts; directions = h.directions; messages = h.messages; marked = Marked-services services services' callers rings f h.marked }

  -- a fetched request that is live gets another state
  pub rings-state : (q : ℕ) (was now : ReqState) (call : CallRequest) → rows q ≡ Some (was, call) → is_live was ≡ true → is_live now ≡ true → is_posted was ≡ 0 → is_posted now ≡ 0 → InRings (with_at rows q (Some (now, call))) next threads ring_of callers services rings bs
  rings-state q was now call is live still a b = record {
    asked = asked-state rows q was call is a (Some (now, call)) rings h.asked;
    interrupts = interrupts-state rows (with_at rows q (Some (now, call))) threads next (λ p u. sym (live-state rows q was now call is live still p) ∙ u) (λ p u. tid-state rows q was now call is live still p) rings h.interrupts;
    directions = h.directions;
    messages = Messages-state rows (with_at rows q (Some (now, call))) unposted (live-state rows q was now call is live still) (tid-state rows q was now call is live still) threads ring_of callers rings h.messages;
    marked = h.marked;
  }
    where
      unposted : (x : ℕ) → is_posted (state_at (with_at rows q (Some (now, call))) x) ≡ is_posted (state_at rows x)
      unposted x = grind (arith, nat_tests, is, a, b)
