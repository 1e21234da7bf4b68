-- From the tests of an event to the request that its worker serves.
use Rattle.hybrid_laws.proofs.maps.Tests.{both, no-none, some-is}
use Rattle.hybrid_model.specs.Workers.{has_pin, holds, is_ended_request, is_free_to_act, is_parked, is_held}
use Rattle.hybrid_model.specs.Sides.{Book, LinuxSide, state_of, serves}
use Rattle.ikc_ring.specs.declared.CallRequest.{CallRequest}
use Rattle.mck_word.specs.Maps.{at}
use Rattle.request_book.specs.declared.ReqState.TheVariants.{Faulted, Held, Parked, Replied, Waiting, Ended, Posted}
use Rattle.request_book.specs.declared.ReqState.{ReqState}
use Rattle.std.proofs.Common.{ap, arith, refl, ◌∙◌}
use Rattle.std.specs.Prelude.{Bool, None, Option, Some, false, is_some, not, true, ℕ, ◌≡◌}

-- the worker serves that request, which stands in the book in that state
pub record Serves (l : LinuxSide) (b : Book) (w : ℕ) (s : ReqState) : Type 0 where
  pub number : ℕ
  pub call : CallRequest
  pub serving : at l.workers w ≡ Some number
  pub is : at b.rows number ≡ Some (s, call)

-- a test that none but one state passes
module _ (test : ReqState → Bool) (s : ReqState) (only : (x : ReqState) → test x ≡ true → x ≡ s) (not_replied : test Replied ≡ false) (l : LinuxSide) (b : Book) (w : ℕ) where
  in-book : (q : ℕ) → test (state_of b q) ≡ true → (call : CallRequest) × (at b.rows q ≡ Some (s, call))
  in-book q e = go (at b.rows q) refl
    where
      go : (o : Option (ReqState × CallRequest)) → at b.rows q ≡ o → (call : CallRequest) × (at b.rows q ≡ Some (s, call))
      go None f = absurd (let k = rw f at e in grind (arith, k, not_replied))
      go (Some r) f = let k = rw f at e in (r.1, f ∙ ap (λ x. Some (x, r.1)) (only r.0 k))

  pub serves-in : is_some (at l.workers w) ≡ true → test (state_of b (serves l w)) ≡ true → Serves l b w s
  serves-in a e =
      let x = some-is (at l.workers w) a in
      let f = x.1 in
      let k = in-book x.0 (rw f at e) in
      record { number = x.0; call = k.0; serving = x.1; is = k.1 }

held-only : (x : ReqState) → is_held x ≡ true → x ≡ Held
held-only Held e = refl
held-only Posted e = absurd (grind (arith, e))
held-only Waiting e = absurd (grind (arith, e))
held-only Parked e = absurd (grind (arith, e))
held-only Faulted e = absurd (grind (arith, e))
held-only Ended e = absurd (grind (arith, e))
held-only Replied e = absurd (grind (arith, e))

ended-only : (x : ReqState) → is_ended_request x ≡ true → x ≡ Ended
ended-only Ended e = refl
ended-only Posted e = absurd (grind (arith, e))
ended-only Waiting e = absurd (grind (arith, e))
ended-only Held e = absurd (grind (arith, e))
ended-only Parked e = absurd (grind (arith, e))
ended-only Faulted e = absurd (grind (arith, e))
ended-only Replied e = absurd (grind (arith, e))

parked-only : (x : ReqState) → is_parked x ≡ true → x ≡ Parked
parked-only Parked e = refl
parked-only Posted e = absurd (grind (arith, e))
parked-only Waiting e = absurd (grind (arith, e))
parked-only Held e = absurd (grind (arith, e))
parked-only Faulted e = absurd (grind (arith, e))
parked-only Ended e = absurd (grind (arith, e))
parked-only Replied e = absurd (grind (arith, e))

module _ (l : LinuxSide) (b : Book) (w : ℕ) where
  pub holds-it : holds l b w ≡ true → Serves l b w Held
  holds-it e = let a = both (is_some (at l.workers w)) (is_held (state_of b (serves l w))) e in serves-in is_held Held held-only refl l b w a.0 a.1

  pub ended-it : is_some (at l.workers w) ≡ true → is_ended_request (state_of b (serves l w)) ≡ true → Serves l b w Ended
  ended-it a e = serves-in is_ended_request Ended ended-only refl l b w a e

  pub free-to-act : is_free_to_act l b w ≡ true → Serves l b w Held × (at l.pins w ≡ None)
  free-to-act e = let a = both (holds l b w) (not (has_pin l w)) e in (holds-it a.0, no-none (at l.pins w) a.1)

pub parked-in : (l : LinuxSide) (b : Book) (q : ℕ) → is_parked (state_of b q) ≡ true → (call : CallRequest) × (at b.rows q ≡ Some (Parked, call))
parked-in l b q e = in-book is_parked Parked parked-only refl l b q q e
