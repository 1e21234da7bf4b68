-- Fetch of a Clear keeps what holds of the process, and shows nothing: the mirror's rows of its range go, and the round is Taken.
use Rattle.clear_rounds.specs.declared.Phase.TheVariants.{Posted as RoundPosted, Taken}
use Rattle.clear_rounds.specs.declared.Phase.{Phase}
use Rattle.hybrid_laws.proofs.maps.Reading.{EachRing-map, EachRing-take, EachRing-where, first-of, reads-keep, sum-take}
use Rattle.hybrid_laws.proofs.requests.Showing.{has_empty-take}
use Rattle.hybrid_laws.proofs.requests.Silent.{shown-silent}
use Rattle.hybrid_laws.proofs.rings.InRings.{in_rings, rings-take}
use Rattle.hybrid_laws.proofs.rings.Taking.{taken-served}
use Rattle.hybrid_model.specs.Coherence.{AnswerCovered, ClearIsOf, Covered, Covers, IsOutside, NotAhead, OfProcess, Owned, Rounded, clears}
use Rattle.hybrid_model.specs.Fetch.{with_fetched}
use Rattle.hybrid_model.specs.Fetch.{fetch_clear}
use Rattle.hybrid_model.specs.Pairs.{Here}
use Rattle.hybrid_model.specs.Rings.{ring, with_ring}
use Rattle.hybrid_model.specs.Shown.{reply_code, shown_here, status_in}
use Rattle.hybrid_model.specs.Sides.{Round, Row, Side, call_in, service_of, state_in}
use Rattle.hybrid_model.specs.Tallies.{Reads, sum_rings}
use Rattle.ikc_ring.specs.declared.Msg.TheVariants.{Ack, Answer, Clear, Fault, Interrupt, Reply, Request}
use Rattle.ikc_ring.specs.declared.Msg.{Msg}
use Rattle.kernel_model.specs.Nodes.{Node, Process, Thread, process_of}
use Rattle.mck_word.specs.Maps.{at}
use Rattle.mck_word.specs.Pages.{in_range}
use Rattle.mck_word.specs.declared.PageRange.{PageRange}
use Rattle.page_pins.specs.declared.Pin.{Pin}
use Rattle.std.proofs.Common.{ap, arith, refl}
use Rattle.std.proofs.lemmas.Bool.Decides.{nat_tests}
use Rattle.std.specs.Prelude.{Bool, List, None, Option, Some, cond, false, not, true, ℕ, ◌+◌, ◌∷◌, ◌≡◌}

-- the round whose Clear stands first in a ring
pub cleared-round : (round : Option Round) (range : PageRange) → ClearIsOf round (Clear range) → round ≡ Some (RoundPosted, range)
cleared-round None range h = absurd h
cleared-round (Some r) range h = λ i. Some (h.1 i, h.0 i)

module _ (range : PageRange) (mirror table : Reads Row) (pins : Reads Pin) (begun cleared : ℕ) (rings : List (List Msg)) (bs : List Msg) (r : ℕ) (ms : List Msg) (first : ring r rings ≡ Clear range ∷ ms) where
  abbrev left : List (List Msg)
  left = with_ring r ms rings

  abbrev outside_it : ℕ → Bool
  outside_it page = not (in_range range page)

  abbrev mirror' : Reads Row
  mirror' = λ j. cond (outside_it j) (mirror j) None

  kept-row : (P : Type 0) (b : Bool) (o : Option Row) (t : Row) → cond b o None ≡ Some t → (o ≡ Some t → P) → P
  kept-row P true o t e f = f e
  kept-row P false o t e f = absurd (grind (arith, e))

  later : (m : Msg) → AnswerCovered table cleared m → AnswerCovered table (cleared + 1) m
  later (Answer w i n (Some row)) h = λ u. h (omega (arith, u))
  later (Answer w i n None) h = tt
  later (Request c) h = tt
  later (Clear x) h = tt
  later (Interrupt n place) h = tt
  later (Reply n code) h = tt
  later Ack h = tt
  later (Fault w i a) h = tt

  pub covered_clear : Covered table mirror pins begun cleared rings → Covered table mirror' pins begun (cleared + 1) left
  covered_clear c = record {
    mirror_rows = λ j t e. kept-row (Covers table j t) (outside_it j) (mirror j) t e (c.mirror_rows j t);
    answers = EachRing-map (AnswerCovered table cleared) (AnswerCovered table (cleared + 1)) left later (EachRing-take (AnswerCovered table cleared) r (Clear range) ms rings first c.answers);
    not_ahead = EachRing-take (NotAhead begun) r (Clear range) ms rings first c.not_ahead;
    pin_rows = c.pin_rows;
  }

  no-clear : (m : Msg) → clears m ≡ 0 → ClearIsOf (Some (RoundPosted, range)) m → ClearIsOf (Some (Taken, range)) m
  no-clear (Clear x) e h = absurd (grind (arith, e))
  no-clear (Request c) e h = tt
  no-clear (Answer w i n row) e h = tt
  no-clear (Interrupt n place) e h = tt
  no-clear (Reply n code) e h = tt
  no-clear Ack e h = tt
  no-clear (Fault w i a) e h = tt

  still-outside : (m : Msg) → IsOutside (Some (RoundPosted, range)) begun m → IsOutside (Some (Taken, range)) begun m
  still-outside (Answer w i n (Some row)) h = h
  still-outside (Answer w i n None) h = tt
  still-outside (Clear x) h = tt
  still-outside (Request c) h = tt
  still-outside (Interrupt n place) h = tt
  still-outside (Reply n code) h = tt
  still-outside Ack h = tt
  still-outside (Fault w i a) h = tt

  pub rounded_clear : Rounded (Some (RoundPosted, range)) mirror pins begun cleared rings bs → Rounded (Some (Taken, range)) mirror' pins begun (cleared + 1) left bs
  rounded_clear c =
      let t = sum-take clears r (Clear range) ms rings first in
      let none : sum_rings clears left ≡ 0 = omega (arith, t, c.clears_are) in
      record {
        clears_are = none;
        acks_are = c.acks_are;
        clear_of = EachRing-where clears (ClearIsOf (Some (RoundPosted, range))) (ClearIsOf (Some (Taken, range))) left none no-clear (EachRing-take (ClearIsOf (Some (RoundPosted, range))) r (Clear range) ms rings first c.clear_of);
        fetched = omega (arith, c.fetched);
        outside = EachRing-map (IsOutside (Some (RoundPosted, range)) begun) (IsOutside (Some (Taken, range)) begun) left still-outside (EachRing-take (IsOutside (Some (RoundPosted, range)) begun) r (Clear range) ms rings first c.outside);
        mirror_outside = λ page u. grind (arith, nat_tests, u);
        pins_outside = λ w x e. refl;
      }

-- the change of a round stays in its phases
owned-phase : (process : Process) (threads : Reads Thread) (p : ℕ) (changing : Option ℕ) (a b : Phase) (range : PageRange) → Owned process threads p (Some (a, range)) changing → Owned process threads p (Some (b, range)) changing
owned-phase process threads p None a b range h = absurd h
owned-phase process threads p (Some t) a b range h = h

pub owned-in : (process : Process) (threads : Reads Thread) (p : ℕ) (changing : Option ℕ) (round : Option Round) (a b : Phase) (range : PageRange) → round ≡ Some (a, range) → Owned process threads p round changing → Owned process threads p (Some (b, range)) changing
owned-in process threads p changing round a b range e h = owned-phase process threads p changing a b range (rw e at h)

module _ (p : ℕ) (side : Side) (node : Node) (worker_count : ℕ) (ring_of : ℕ → ℕ) (h : OfProcess p side node worker_count ring_of) (r : ℕ) (range : PageRange) (ms : List Msg) (first : ring r side.to_linux ≡ Clear range ∷ ms) where
  round-is : side.round ≡ Some (RoundPosted, range)
  round-is = cleared-round side.round range (first-of (ClearIsOf side.round) r (Clear range) ms side.to_linux first h.rounded.clear_of)

  pub keeps_fetch_clear : OfProcess p (record side { linux = (fetch_clear range side.linux side.book side.round).linux; book = (fetch_clear range side.linux side.book side.round).book; round = (fetch_clear range side.linux side.book side.round).round; to_linux = with_ring r ms side.to_linux }) node worker_count ring_of
  unfolding fetch_clear
  keeps_fetch_clear =
      let a = reads-keep side.linux.mirror (λ page. not (in_range range page)) in
      let b = round-is in
      let rounded = rw b at h.rounded in
      let i = rings-take (at side.book.rows) side.book.next (at node.threads) ring_of (at side.lwk.callers) (at side.linux.services) side.to_linux side.to_lwk (in_rings h) r (Clear range) ms first (λ threads k. refl) (λ k. tt) in
      record {
        covered = rw a (covered_clear range (at side.linux.mirror) (at side.lwk.table) (at side.linux.pins) side.lwk.begun side.linux.cleared side.to_linux side.to_lwk r ms first h.covered);
        rounded = rw (a, b) (rounded_clear range (at side.linux.mirror) (at side.lwk.table) (at side.linux.pins) side.lwk.begun side.linux.cleared side.to_linux side.to_lwk r ms first rounded);
        owned = rw b (owned-in (process_of node p) (at node.threads) p side.lwk.changing side.round RoundPosted Taken range b h.owned);
        served = taken-served r (Clear range) ms side.to_linux first (λ q. refl) (λ w. refl) worker_count (at side.linux.workers) (at side.book.rows) (at side.linux.services) (at side.linux.pins) side.book.waiting (at side.lwk.noted) side.to_lwk h.served;
        answered = h.answered;
        calls = h.calls;
        asked = i.asked;
        interrupts = i.interrupts;
        directions = i.directions;
        messages = i.messages;
        marked = i.marked;
      }

-- it shows nothing
pub image_fetch_clear : (h : Here) (r : ℕ) (range : PageRange) (ms : List Msg) → ring r h.side.to_linux ≡ Clear range ∷ ms → shown_here (with_fetched r ms (fetch_clear range h.side.linux h.side.book h.side.round) h) ≡ shown_here h
unfolding fetch_clear
image_fetch_clear h r range ms first =
    shown-silent h.frames h (with_fetched r ms (fetch_clear range h.side.linux h.side.book h.side.round) h).side h.turns refl refl
    (λ x. ap (λ b. status_in (state_in (at h.side.book.rows x)) (call_in (at h.side.book.rows x)) (service_of h.side.linux.services x) b (reply_code x h.side.to_lwk)) (has_empty-take (at h.side.linux.workers) x r (Clear range) ms h.side.to_linux refl first))
