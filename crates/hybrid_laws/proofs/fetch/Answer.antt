-- Fetch of an answer with a row, installed or dropped, and of an empty one: both keep what holds of the process.
use Rattle.clear_rounds.specs.declared.Phase.TheVariants.{Posted as RoundPosted, Taken, Acked}
use Rattle.hybrid_laws.proofs.maps.Reading.{EachRing-take, sum-take}
use Rattle.hybrid_laws.proofs.requests.Requests.{IsForNext-keeps, PinServes-keeps, answers-keep, faults-keep, noted-keep}
use Rattle.hybrid_model.specs.Coherence.{Served, Covered, Rounded, Covers, IsForNext, AnswerCovered, AnswerIsFor, ClearIsOf, IsOutside, NotAhead, answers_to, asks, clears, holder, is_faulted, is_fetched, is_posted, is_waiting, posted, state_at, taken_at, service_at}
use Rattle.hybrid_model.specs.Rings.{ring, with_ring}
use Rattle.hybrid_model.specs.Sides.{Row, Round, Noted, Service, closes}
use Rattle.hybrid_model.specs.Tallies.{Reads, with_at, sum_rings, if_same}
use Rattle.ikc_ring.specs.declared.CallRequest.{CallRequest}
use Rattle.ikc_ring.specs.declared.Msg.TheVariants.{Answer}
use Rattle.ikc_ring.specs.declared.Msg.{Msg}
use Rattle.kernel_model.specs.Pages.{range}
use Rattle.mck_word.specs.declared.Access.{Access}
use Rattle.page_pins.specs.declared.Pin.{Pin}
use Rattle.request_book.specs.declared.ReqState.TheVariants.{Posted, Waiting, Held, Parked, Faulted, Ended, Replied}
use Rattle.request_book.specs.declared.ReqState.{ReqState}
use Rattle.std.proofs.Common.{arith, refl, subst}
use Rattle.std.proofs.lemmas.Bool.Decides.{nat_tests}
use Rattle.std.specs.Prelude.{Bool, List, None, Option, Some, false, if◌then◌else◌, is_some, true, ℕ, ◌+◌, ◌==◌, ◌∷◌, ◌≡◌, ◌≤◌}

-- a request that is faulting stands in the book as Faulted
pub faulted-row : (rows : Reads (ReqState × CallRequest)) (q : ℕ) → is_faulted (state_at rows q) ≡ 1 → (call : CallRequest) × (rows q ≡ Some (Faulted, call))
faulted-row rows q f = go (rows q) refl
  where
    by_state : (s : ReqState) (c : CallRequest) → rows q ≡ Some (s, c) → (call : CallRequest) × (rows q ≡ Some (Faulted, call))
    by_state Faulted c e = (c, e)
    by_state Posted c e = absurd (let k = rw e at f in grind (arith, k))
    by_state Waiting c e = absurd (let k = rw e at f in grind (arith, k))
    by_state Held c e = absurd (let k = rw e at f in grind (arith, k))
    by_state Parked c e = absurd (let k = rw e at f in grind (arith, k))
    by_state Ended c e = absurd (let k = rw e at f in grind (arith, k))
    by_state Replied c e = absurd (let k = rw e at f in grind (arith, k))

    go : (o : Option (ReqState × CallRequest)) → rows q ≡ o → (call : CallRequest) × (rows q ≡ Some (Faulted, call))
    go None e = absurd (let k = rw e at f in grind (arith, k))
    go (Some r) e = by_state r.0 r.1 e

-- what an answer at the front of a ring tells of its worker
module _ (worker_count : ℕ) (workers : Reads ℕ) (rows : Reads (ReqState × CallRequest)) (services : Reads Service) (pins : Reads Pin) (waiting : List ℕ) (noted : Reads Noted) (rings : List (List Msg)) (bs : List Msg) (c : Served worker_count workers rows services pins waiting noted rings bs) (r w i n : ℕ) (o : Option Row) (ms : List Msg) (first : ring r rings ≡ Answer w i n o ∷ ms) where
  abbrev rings' : List (List Msg)
  rings' = with_ring r ms rings

  pub answered-for : (q : ℕ) × (call : CallRequest) × (workers w ≡ Some q) × (rows q ≡ Some (Faulted, call))
  answered-for = go (workers w) refl
    where
      t : sum_rings (answers_to w) rings ≡ if_same w w + sum_rings (answers_to w) rings'
      t = sum-take (answers_to w) r (Answer w i n o) ms rings first

      go : (x : Option ℕ) → workers w ≡ x → (q : ℕ) × (call : CallRequest) × (workers w ≡ Some q) × (rows q ≡ Some (Faulted, call))
      go None e = absurd (grind (arith, nat_tests, t, c.faults w, e))
      go (Some q) e =
          let f : is_faulted (state_at rows q) ≡ 1 = at_most (is_faulted-most (state_at rows q)) (grind (arith, nat_tests, t, c.faults w, e)) in
          let k = faulted-row rows q f in (q, k.0, e, k.1)
        where
          at_most : {a : ℕ} → a ≤ 1 → 1 ≤ a → a ≡ 1
          at_most h k = omega (arith, h, k)

          is_faulted-most : (s : ReqState) → is_faulted s ≤ 1
          is_faulted-most Faulted = omega arith
          is_faulted-most Posted = omega arith
          is_faulted-most Waiting = omega arith
          is_faulted-most Held = omega arith
          is_faulted-most Parked = omega arith
          is_faulted-most Ended = omega arith
          is_faulted-most Replied = omega arith

  module _ (q : ℕ) (call : CallRequest) (serving : workers w ≡ Some q) (is : rows q ≡ Some (Faulted, call)) (now : ReqState) (services' : Reads Service)
      (not_posted : is_posted now ≡ 0) (not_waiting : is_waiting now ≡ 0) (not_faulted : is_faulted now ≡ 0) (fetched : is_fetched now ≡ true) (held : (v : ℕ) → holder now v ≡ Some v)
      (same_progress : (p : ℕ) → (service_at services' p).progress ≡ (service_at services p).progress) (same_worker : (p : ℕ) → (service_at services' p).worker ≡ (service_at services p).worker) (same_known : (p : ℕ) → is_some (services' p) ≡ is_some (services p)) where
    abbrev rows' : Reads (ReqState × CallRequest)
    rows' = with_at rows q (Some (now, call))

    others : (v j : ℕ) (a : Access) → IsForNext workers services v j a → IsForNext workers services' v j a
    others v j a k = IsForNext-keeps workers workers services services' v j a k k.serves (same_progress k.number)

    pub served_answer : Served worker_count workers rows' services' pins waiting noted rings' bs
    served_answer = record {
      worker_below = c.worker_below;
      requests = λ p. let t = sum-take (asks p) r (Answer w i n o) ms rings first in grind (arith, nat_tests, t, is, not_posted, c.requests p);
      waits = λ p. grind (arith, nat_tests, is, not_waiting, c.waits p);
      known = λ p. grind (arith, nat_tests, is, fetched, c.known p, same_known p);
      workers_hold = λ v p e. grind (arith, nat_tests, is, held (service_at services q).worker, same_worker p, e, c.workers_hold v p);
      held_by = λ p v e. grind (arith, nat_tests, is, held (service_at services q).worker, same_worker p, e, c.held_by p v);
      faults = λ v. let t = sum-take (answers_to v) r (Answer w i n o) ms rings first in grind (arith, nat_tests, t, is, serving, not_faulted, c.faults v, c.workers_hold v q, c.workers_hold w q);
      fault_for = faults-keep workers workers services services' others bs c.fault_for;
      noted_for = noted-keep workers workers services services' others noted c.noted_for;
      answer_for = answers-keep workers workers services services' others rings' (EachRing-take (AnswerIsFor workers services) r (Answer w i n o) ms rings first c.answer_for);
      pins_serve = λ v x e.
          let k = c.pins_serve v x e in
          PinServes-keeps workers workers rows rows' services services' v x k k.serves (grind (arith, nat_tests, is, not_faulted, k.not_faulted)) (λ u. (grind (arith, nat_tests, is, k.held u), same_progress k.number));
    }

-- ---- the table and the round
module _ (round : Option Round) (mirror table : Reads Row) (pins : Reads Pin) (begun cleared : ℕ) (rings : List (List Msg)) (bs : List Msg) (r w i n : ℕ) (o : Option Row) (ms : List Msg) (first : ring r rings ≡ Answer w i n o ∷ ms) where
  abbrev left : List (List Msg)
  left = with_ring r ms rings

  pub covered-take : Covered table mirror pins begun cleared rings → Covered table mirror pins begun cleared left
  covered-take c = record {
    mirror_rows = c.mirror_rows;
    answers = EachRing-take (AnswerCovered table cleared) r (Answer w i n o) ms rings first c.answers;
    not_ahead = EachRing-take (NotAhead begun) r (Answer w i n o) ms rings first c.not_ahead;
    pin_rows = c.pin_rows;
  }

  pub rounded-take : Rounded round mirror pins begun cleared rings bs → Rounded round mirror pins begun cleared left bs
  rounded-take c = record {
    clears_are = let t = sum-take clears r (Answer w i n o) ms rings first in omega (arith, t, c.clears_are);
    acks_are = c.acks_are;
    clear_of = EachRing-take (ClearIsOf round) r (Answer w i n o) ms rings first c.clear_of;
    fetched = c.fetched;
    outside = EachRing-take (IsOutside round begun) r (Answer w i n o) ms rings first c.outside;
    mirror_outside = c.mirror_outside;
    pins_outside = c.pins_outside;
  }

-- the row of an answer that is not overtaken lies outside the range of a round that is Taken or Acked
pub not-taken : (round : Option Round) (begun cleared i n : ℕ) → cleared + posted round ≡ begun → cleared ≤ n → n ≤ begun → (n ≡ begun → closes round i ≡ false) → taken_at round i ≡ false
not-taken None begun cleared i n f a b h = refl
not-taken (Some (RoundPosted, range)) begun cleared i n f a b h = refl
not-taken (Some (Taken, range)) begun cleared i n f a b h = h (omega (arith, f, a, b))
not-taken (Some (Acked, range)) begun cleared i n f a b h = h (omega (arith, f, a, b))

module _ (round : Option Round) (mirror table : Reads Row) (pins : Reads Pin) (begun cleared : ℕ) (rings : List (List Msg)) (bs : List Msg) (i : ℕ) (row : Row) (covers : Covers table i row) (out : taken_at round i ≡ false) where
  abbrev mirror' : Reads Row
  mirror' = with_at mirror i (Some row)

  installed-row : (b : Bool) (j : ℕ) (t : Row) → (j == i) ≡ b → (if b then Some row else mirror j) ≡ Some t → (mirror j ≡ Some t → Covers table j t) → Covers table j t
  installed-row false j t k u f = f u
  installed-row true j t k u f = let x : row ≡ t = cc in let y : i ≡ j = grind (arith, nat_tests, k) in subst (λ (z : ℕ). Covers table z t) y (subst (λ (z : Row). Covers table i z) x covers)

  pub covered-install : Covered table mirror pins begun cleared rings → Covered table mirror' pins begun cleared rings
  covered-install c = record { mirror_rows = λ j t k. installed-row (j == i) j t refl k (c.mirror_rows j t); answers = c.answers; not_ahead = c.not_ahead; pin_rows = c.pin_rows }

  pub rounded-install : Rounded round mirror pins begun cleared rings bs → Rounded round mirror' pins begun cleared rings bs
  rounded-install c = record {
    clears_are = c.clears_are;
    acks_are = c.acks_are;
    clear_of = c.clear_of;
    fetched = c.fetched;
    outside = c.outside;
    mirror_outside = λ j k. grind (arith, nat_tests, k, out, c.mirror_outside j);
    pins_outside = c.pins_outside;
  }
