-- The statuses of the calls where one request gets another state and service, and maybe loses or gets its worker.
use Rattle.hybrid_laws.proofs.maps.Reading.{reads-stated}
use Rattle.hybrid_laws.proofs.requests.Showing.{has_empty-same}
use Rattle.hybrid_model.specs.Workers.{answer_if, state_if, stepped_service}
use Rattle.hybrid_model.specs.Shown.{has_empty, reply_code, serves_it, status_in, status_of}
use Rattle.hybrid_model.specs.Sides.{Row, Service, Side, call_in, service_of, state_in, with_state}
use Rattle.ikc_ring.specs.declared.CallRequest.{CallRequest}
use Rattle.kernel_model.specs.Progress.{After}
use Rattle.kernel_model.specs.Steps.{status_after, status_if}
use Rattle.mck_word.specs.MapLaws.{at-put}
use Rattle.mck_word.specs.Maps.{Map, at, put}
use Rattle.page_pins.specs.declared.Pin.{Pin}
use Rattle.request_book.specs.declared.ReqState.{ReqState}
use Rattle.std.proofs.Common.{ap, arith, refl, ◌∙◌}
use Rattle.std.proofs.lemmas.Bool.Decides.{nat_tests}
use Rattle.std.specs.Prelude.{Bool, List, None, Option, Some, false, true, ℕ, ℤ, ◌==◌, ◌≡◌}

module _ (side : Side) (q : ℕ) (was now : ReqState) (call : CallRequest) (is : at side.book.rows q ≡ Some (was, call)) (mirror : Map Row) (pins : Map Pin) (workers : Map ℕ) (services : Map Service) (cleared : ℕ) (waiting : List ℕ) where
  abbrev pub stepped_side : Side
  stepped_side = record side { linux = record { mirror = mirror; pins = pins; workers = workers; services = services; cleared = cleared }; book = record (with_state side.book q now) { waiting = waiting } }

  -- of the other requests
  pub status-others : ((x : ℕ) → (x == q) ≡ false → at services x ≡ at side.linux.services x) → ((x : ℕ) → (x == q) ≡ false → (v : ℕ) → serves_it x (at workers v) ≡ serves_it x (at side.linux.workers v))
      → (x : ℕ) → (x == q) ≡ false → status_of stepped_side x ≡ status_of side x
  status-others f g x e =
      let b = reads-stated now q side.book.rows call was is in
      let s = f x e in
      let t = has_empty-same (at side.linux.workers) (at workers) x (g x e) side.to_linux in
      rw (b, e, s) (ap (λ y. status_in (state_in (at side.book.rows x)) (call_in (at side.book.rows x)) (service_of side.linux.services x) y (reply_code x side.to_lwk)) t)

  -- of the request itself
  pub status-own : (k : Service) → at services q ≡ Some k → status_of stepped_side q ≡ status_in now call k (has_empty (at workers) q side.to_linux) (reply_code q side.to_lwk)
  status-own k s =
      let b = reads-stated now q side.book.rows call was is in
      let same : (q == q) ≡ true = grind (arith, nat_tests) in
      rw (b, same, s) refl

pub put-own : {V : Type 0} (m : Map V) (q : ℕ) (k : V) → at (put m q k) q ≡ Some k
put-own m q k = let same : (q == q) ≡ true = grind (arith, nat_tests) in at-put m q k q ∙ rw same refl

pub put-other : {V : Type 0} (m : Map V) (q : ℕ) (k : V) (x : ℕ) → (x == q) ≡ false → at (put m q k) x ≡ at m x
put-other m q k x e = at-put m q k x ∙ rw e refl

-- a request of a call that goes on or ends shows the status after the step
pub status-if : (a : After) (call : CallRequest) (k : Service) (empty : Bool) (code : ℤ) → status_in (state_if a.ended) call (stepped_service k a) empty code ≡ status_after a
status-if a call k empty code = own a.ended
  where
    own : (o : Option ℤ) → status_in (state_if o) call (record k { progress = a.progress; answer = answer_if o k.answer }) empty code ≡ status_if a.progress o
    own None = refl
    own (Some x) = refl
