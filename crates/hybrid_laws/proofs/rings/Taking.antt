-- A message is taken from a ring: what stays of the table's rows, of the workers and of the round.
use Rattle.hybrid_laws.proofs.maps.Reading.{EachRing-take, sum-take}
use Rattle.hybrid_model.specs.Coherence.{AnswerCovered, AnswerIsFor, ClearIsOf, Covered, IsOutside, NotAhead, Rounded, Served, answers_to, asks, clears}
use Rattle.hybrid_model.specs.Rings.{ring, with_ring}
use Rattle.hybrid_model.specs.Sides.{Noted, Round, Row, Service}
use Rattle.hybrid_model.specs.Tallies.{Reads}
use Rattle.ikc_ring.specs.declared.CallRequest.{CallRequest}
use Rattle.ikc_ring.specs.declared.Msg.{Msg}
use Rattle.page_pins.specs.declared.Pin.{Pin}
use Rattle.request_book.specs.declared.ReqState.{ReqState}
use Rattle.std.proofs.Common.{arith}
use Rattle.std.specs.Prelude.{List, Option, ℕ, ◌∷◌, ◌≡◌}

module _ (r : ℕ) (m : Msg) (ms : List Msg) (rings : List (List Msg)) (first : ring r rings ≡ m ∷ ms) where
  pub taken-covered : (table mirror : Reads Row) (pins : Reads Pin) (begun cleared : ℕ) → Covered table mirror pins begun cleared rings → Covered table mirror pins begun cleared (with_ring r ms rings)
  taken-covered table mirror pins begun cleared c = record {
    mirror_rows = c.mirror_rows;
    answers = EachRing-take (AnswerCovered table cleared) r m ms rings first c.answers;
    not_ahead = EachRing-take (NotAhead begun) r m ms rings first c.not_ahead;
    pin_rows = c.pin_rows;
  }

  -- the message is neither a Request nor an Answer
  pub taken-served : ((q : ℕ) → asks q m ≡ 0) → ((w : ℕ) → answers_to w m ≡ 0) → (worker_count : ℕ) (workers : Reads ℕ) (rows : Reads (ReqState × CallRequest)) (services : Reads Service) (pins : Reads Pin) (waiting : List ℕ) (noted : Reads Noted) (bs : List Msg)
      → Served worker_count workers rows services pins waiting noted rings bs → Served worker_count workers rows services pins waiting noted (with_ring r ms rings) bs
  taken-served none no_answer worker_count workers rows services pins waiting noted bs c = record {
    worker_below = c.worker_below;
    requests = λ q. omega (arith, sum-take (asks q) r m ms rings first, none q, c.requests q);
    waits = c.waits;
    known = c.known;
    workers_hold = c.workers_hold;
    held_by = c.held_by;
    faults = λ w. omega (arith, sum-take (answers_to w) r m ms rings first, no_answer w, c.faults w);
    fault_for = c.fault_for;
    noted_for = c.noted_for;
    answer_for = EachRing-take (AnswerIsFor workers services) r m ms rings first c.answer_for;
    pins_serve = c.pins_serve;
  }

  -- the message is no Clear
  pub taken-rounded : clears m ≡ 0 → (round : Option Round) (mirror : Reads Row) (pins : Reads Pin) (begun cleared : ℕ) (bs : List Msg) → Rounded round mirror pins begun cleared rings bs → Rounded round mirror pins begun cleared (with_ring r ms rings) bs
  taken-rounded none round mirror pins begun cleared bs c = record {
    clears_are = omega (arith, sum-take clears r m ms rings first, none, c.clears_are);
    acks_are = c.acks_are;
    clear_of = EachRing-take (ClearIsOf round) r m ms rings first c.clear_of;
    fetched = c.fetched;
    outside = EachRing-take (IsOutside round begun) r m ms rings first c.outside;
    mirror_outside = c.mirror_outside;
    pins_outside = c.pins_outside;
  }
