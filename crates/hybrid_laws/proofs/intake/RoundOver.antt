-- The end of a round keeps what holds of the process, with any table that agrees outside the round's range.
use Rattle.clear_rounds.specs.declared.Phase.TheVariants.{Posted as RoundPosted, Taken, Acked}
use Rattle.clear_rounds.specs.declared.Phase.{Phase}
use Rattle.hybrid_laws.proofs.intake.Fault.{Answered-pop}
use Rattle.hybrid_laws.proofs.maps.Reading.{EachRing-both, EachRing-map, EachRing-where}
use Rattle.hybrid_laws.proofs.node.Keeps.{Keeps, calls-found, calls-stay, interrupts-stay, messages-stay, places-stay}
use Rattle.hybrid_model.specs.Coherence.{OfProcess, Covered, Rounded, Covers, Served, Owns, AnswerCovered, ClearIsOf, IsOutside, NotAhead, acks, clears, is_acked_phase, is_live, is_posted_phase, posted, state_at, Directions, tid_in}
use Rattle.hybrid_model.specs.Sides.{Side, Row, Round, Caller}
use Rattle.hybrid_model.specs.Tallies.{Reads, tally}
use Rattle.ikc_ring.specs.declared.Msg.TheVariants.{Request, Clear, Answer, Interrupt, Reply, Ack, Fault}
use Rattle.ikc_ring.specs.declared.Msg.{Msg}
use Rattle.kernel_model.specs.Nodes.{Node, Thread, process_of, is_called}
use Rattle.mck_word.specs.Maps.{Map, at}
use Rattle.mck_word.specs.Pages.{in_range}
use Rattle.page_pins.specs.declared.Pin.{Pin}
use Rattle.std.proofs.Common.{ap, arith, refl, sym, ◌∙◌}
use Rattle.std.proofs.lemmas.Bool.Decides.{nat_tests}
use Rattle.std.specs.Prelude.{Bool, List, None, Some, false, true, ℕ, ◌+◌, ◌==◌, ◌∷◌, ◌≡◌}

-- ---- the round and the table
module _ (r : Round) (table table' mirror : Reads Row) (pins : Reads Pin) (begun cleared : ℕ) (rings : List (List Msg)) (bs : List Msg) (agree : (i : ℕ) → in_range r.1 i ≡ false → table' i ≡ table i) (c : Covered table mirror pins begun cleared rings) (d : Rounded (Some r) mirror pins begun cleared rings (Ack ∷ bs)) where
  pub was-acked : r.0 ≡ Acked
  was-acked = go r.0 refl d.acks_are
    where
      go : (x : Phase) → r.0 ≡ x → 1 + tally acks bs ≡ is_acked_phase r.0 → r.0 ≡ Acked
      go Acked e h = e
      go RoundPosted e h = let k = rw e at h in absurd (omega (arith, k))
      go Taken e h = let k = rw e at h in absurd (omega (arith, k))

  none-posted : posted (Some r) ≡ 0
  none-posted = ap is_posted_phase was-acked

  outside-of : (b : Bool) (i : ℕ) → in_range r.1 i ≡ b → (in_range r.1 i ≡ true → ⊥) → in_range r.1 i ≡ false
  outside-of false i e n = e
  outside-of true i e n = absurd (n e)

  covers-outside : (i : ℕ) (x : Row) → in_range r.1 i ≡ false → Covers table i x → Covers table' i x
  covers-outside i x o k = record { row = k.row; there = agree i o ∙ k.there; frame = k.frame; rights = k.rights }

  answer-outside : (m : Msg) → (NotAhead begun m × IsOutside (Some r) begun m) × AnswerCovered table cleared m → AnswerCovered table' cleared m
  answer-outside (Answer w i n (Some x)) h = λ new.
      covers-outside i x (h.0.1 (let a = h.0.0 in let b = d.fetched in let z = none-posted in omega (arith, a, b, z, new))) (h.1 new)
  answer-outside (Answer w i n None) h = tt
  answer-outside (Request y) h = tt
  answer-outside (Clear y) h = tt
  answer-outside (Interrupt n place) h = tt
  answer-outside (Reply n code) h = tt
  answer-outside Ack h = tt
  answer-outside (Fault w i a) h = tt

  pub covered-ack : Covered table' mirror pins begun cleared rings
  covered-ack = record {
    mirror_rows = λ i x e. covers-outside i x (outside-of (in_range r.1 i) i refl (λ t. let k = d.mirror_outside i (rw (was-acked, t) refl) in grind (arith, k, e))) (c.mirror_rows i x e);
    answers = EachRing-map (λ m. (NotAhead begun m × IsOutside (Some r) begun m) × AnswerCovered table cleared m) (AnswerCovered table' cleared) rings answer-outside
        (EachRing-both (λ m. NotAhead begun m × IsOutside (Some r) begun m) (AnswerCovered table cleared) rings (EachRing-both (NotAhead begun) (IsOutside (Some r) begun) rings c.not_ahead d.outside) c.answers);
    not_ahead = c.not_ahead;
    pin_rows = λ w x e. covers-outside x.page (x.frame, x.rights) (let k = d.pins_outside w x e in rw was-acked at k) (c.pin_rows w x e);
  }

  no-clear : (m : Msg) → clears m ≡ 0 → ClearIsOf (Some r) m → ClearIsOf None m
  no-clear (Clear y) e h = absurd (omega (arith, e))
  no-clear (Answer w i n row) e h = tt
  no-clear (Request y) e h = tt
  no-clear (Interrupt n place) e h = tt
  no-clear (Reply n code) e h = tt
  no-clear Ack e h = tt
  no-clear (Fault w i a) e h = tt

  never-closed : (m : Msg) → IsOutside (Some r) begun m → IsOutside None begun m
  never-closed (Answer w i n (Some x)) h = λ e. refl
  never-closed (Answer w i n None) h = tt
  never-closed (Request y) h = tt
  never-closed (Clear y) h = tt
  never-closed (Interrupt n place) h = tt
  never-closed (Reply n code) h = tt
  never-closed Ack h = tt
  never-closed (Fault w i a) h = tt

  pub rounded-ack : Rounded None mirror pins begun cleared rings bs
  rounded-ack = record {
    clears_are = d.clears_are ∙ none-posted;
    acks_are = let k = d.acks_are in let a = ap is_acked_phase was-acked in omega (arith, k, a);
    clear_of = EachRing-where clears (ClearIsOf (Some r)) (ClearIsOf None) rings (d.clears_are ∙ none-posted) no-clear d.clear_of;
    fetched = let k = d.fetched in let z = none-posted in omega (arith, k, z);
    outside = EachRing-map (IsOutside (Some r) begun) (IsOutside None begun) rings never-closed d.outside;
    mirror_outside = λ i k. absurd (grind (arith, k));
    pins_outside = λ w x e. refl;
  }

-- ---- the whole process
module _ (p : ℕ) (side : Side) (node node' : Node) (workers : ℕ) (ring : ℕ → ℕ) (h : OfProcess p side node workers ring) (rest : List Msg) (first : side.to_lwk ≡ Ack ∷ rest) (r : Round) (round : side.round ≡ Some r) (t : ℕ) (changing : side.lwk.changing ≡ Some t)
    (table' : Map Row) (agree : (i : ℕ) → in_range r.1 i ≡ false → at table' i ≡ at side.lwk.table i) (keeps : Keeps p (λ u. u == t) node node') where
  owns : Owns (process_of node p) (at node.threads) p t r.1
  owns = rw (round, changing) at h.owned

  idle : (u : ℕ) (x : Thread) → (u == t) ≡ true → at node.threads u ≡ Some x → x.process ≡ p → is_called x.does ≡ false
  idle u x e f own =
      let g : u ≡ t = grind (arith, nat_tests, e) in
      let o = sym owns.there ∙ ap (at node.threads) (sym g) ∙ f in
      let s : owns.thread ≡ x = cc in
      ap (λ (z : Thread). is_called z.does) (sym s) ∙ ap is_called owns.does

  pub keeps_round_over : OfProcess p (record side { lwk = record side.lwk { table = table'; changing = None }; round = None; to_lwk = rest }) node' workers ring
  keeps_round_over =
      let d = rw (round, first) at h.rounded in
      let s : Served workers (at side.linux.workers) (at side.book.rows) (at side.linux.services) (at side.linux.pins) side.book.waiting (at side.lwk.noted) side.to_linux (Ack ∷ rest) = rw first at h.served in
      let e : Directions side.to_linux (Ack ∷ rest) = rw first at h.directions in
      let live : (q : ℕ) → is_live (state_at (at side.book.rows) q) ≡ true → (c : Caller) × (at side.lwk.callers (tid_in (at side.book.rows q)) ≡ Some c) = λ q l. calls-found q (at side.lwk.callers (tid_in (at side.book.rows q))) (h.answered.live q l) in
      let stays = places-stay p (λ u. u == t) (at node.threads) (at node'.threads) idle keeps.threads (at side.lwk.callers) h.calls in
      record {
        covered = covered-ack r (at side.lwk.table) (at table') (at side.linux.mirror) (at side.linux.pins) side.lwk.begun side.linux.cleared side.to_linux rest agree h.covered d;
        rounded = rounded-ack r (at side.lwk.table) (at table') (at side.linux.mirror) (at side.linux.pins) side.lwk.begun side.linux.cleared side.to_linux rest agree h.covered d;
        owned = tt;
        served = record {
          worker_below = s.worker_below;
          requests = s.requests;
          waits = s.waits;
          known = s.known;
          workers_hold = s.workers_hold;
          held_by = s.held_by;
          faults = λ w. omega (arith, s.faults w);
          fault_for = s.fault_for.1;
          noted_for = s.noted_for;
          answer_for = s.answer_for;
          pins_serve = s.pins_serve;
        };
        answered = Answered-pop (at side.book.rows) (at side.lwk.callers) side.book.next Ack rest (λ q. refl) (rw first at h.answered);
        calls = calls-stay p (λ u. u == t) (at node.threads) (at node'.threads) idle keeps.threads (at side.lwk.callers) h.calls;
        asked = h.asked;
        interrupts = interrupts-stay (at side.book.rows) (at side.lwk.callers) (at node.threads) (at node'.threads) stays live side.book.next side.to_linux h.interrupts;
        directions = record { to_linux = e.to_linux; to_lwk = e.to_lwk.1 };
        messages = messages-stay (at side.book.rows) (at side.lwk.callers) (at node.threads) (at node'.threads) stays live ring side.to_linux h.asked h.messages;
        marked = h.marked;
      }
