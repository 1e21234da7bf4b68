-- AckClear keeps what holds of the process, and shows nothing: no pin lies in the range any more, and the Ack goes back.
use Rattle.hybrid_model.specs.declared.events.Event.TheVariants as Events
use Rattle.clear_rounds.specs.declared.Phase.TheVariants.{Posted as RoundPosted, Taken, Acked}
use Rattle.hybrid_laws.proofs.fetch.Clear.{owned-in}
use Rattle.hybrid_laws.proofs.maps.Reading.{Each-push, EachRing-map, EachRing-where, tally-push}
use Rattle.hybrid_laws.proofs.maps.Tests.{both, not-true}
use Rattle.hybrid_laws.proofs.requests.Silent.{code-other, shown-silent}
use Rattle.hybrid_laws.proofs.rings.Back.{Answered-back}
use Rattle.hybrid_laws.proofs.rings.InRings.{in_rings, rings-back}
use Rattle.hybrid_laws.proofs.states.Simulated.{simulated-none}
use Rattle.hybrid_laws.specs.Simulated.{Simulated}
use Rattle.hybrid_model.specs.Coherence.{ClearIsOf, FaultIsFor, IsOutside, OfProcess, Rounded, acks, clears, faults_of}
use Rattle.hybrid_model.specs.AckClear.{ack_clear}
use Rattle.hybrid_model.specs.Events.{after_here, may_here}
use Rattle.hybrid_model.specs.AckClear.{clear_in}
use Rattle.hybrid_model.specs.Pairs.{Here}
use Rattle.hybrid_model.specs.Shown.{has_empty, status_in}
use Rattle.hybrid_model.specs.Sides.{Round, Row, call_in, service_of, state_in, with_phase}
use Rattle.hybrid_model.specs.Tallies.{Reads}
use Rattle.ikc_ring.specs.declared.Msg.TheVariants.{Ack, Answer, Clear, Fault, Interrupt, Reply, Request}
use Rattle.ikc_ring.specs.declared.Msg.{Msg}
use Rattle.kernel_model.specs.Nodes.{process_of}
use Rattle.mck_word.specs.Maps.{entries, at}
use Rattle.mck_word.specs.Pages.{in_range}
use Rattle.mck_word.specs.declared.PageRange.{PageRange}
use Rattle.mck_word.specs.declared.Pid.{Pid}
use Rattle.page_pins.specs.declared.Pin.{Pin}
use Rattle.std.proofs.Common.{ap, arith, refl, subst, sym, ◌∙◌}
use Rattle.std.specs.Cmp.{unsigned_tied}
use Rattle.std.specs.FinMap.{find, get-entries}
use Rattle.std.specs.List.{list_all}
use Rattle.std.specs.Ordering.{nat_cmp}
use Rattle.std.specs.Prelude.{Bool, List, None, Option, Some, [], cond, false, not, true, ℕ, ◌++◌, ◌==◌, ◌∷◌, ◌≡◌}

-- a test that all entries pass is passed by what the map answers
in-entries : {V : Type 0} (test : V → Bool) (es : List (ℕ × V)) (w : ℕ) (x : V) → list_all (λ (e : ℕ × V). test e.1) es ≡ true → find nat_cmp w es ≡ Some x → test x ≡ true
in-entries test [] w x e f = absurd (grind (arith, f))
in-entries {V} test (r ∷ es) w x e f =
    let a = both (test r.1) (list_all (λ (y : ℕ × V). test y.1) es) e in
    go (w == r.0) (ap (λ b. cond b (Some r.1) (find nat_cmp w es)) (sym (unsigned_tied w r.0)) ∙ f) a.0 (in-entries test es w x a.1)
  where
    go : (b : Bool) → cond b (Some r.1) (find nat_cmp w es) ≡ Some x → test r.1 ≡ true → (find nat_cmp w es ≡ Some x → test x ≡ true) → test x ≡ true
    go true g t l = let y : r.1 ≡ x = cc in subst (λ (z : V). test z ≡ true) y t
    go false g t l = l g

pub record MayAckClear (h : Here) : Type 0 where
  pub range : PageRange
  pub round : h.side.round ≡ Some (Taken, range)
  pub no_pin : (w : ℕ) (x : Pin) → at h.side.linux.pins w ≡ Some x → in_range range x.page ≡ false

pub may-ack-clear : (h : Here) (q : Pid) → may_here (Events.AckClear q) h ≡ true → MayAckClear h
may-ack-clear h q e = go h.side.round refl e
  where
    go : (o : Option Round) → h.side.round ≡ o → clear_in o h.side.linux ≡ true → MayAckClear h
    go None f u = absurd (grind (arith, u))
    go (Some (RoundPosted, range)) f u = absurd (grind (arith, u))
    go (Some (Acked, range)) f u = absurd (grind (arith, u))
    go (Some (Taken, range)) f u = record {
      range = range;
      round = f;
      no_pin = λ w x g. not-true (in_range range x.page) (in-entries (λ (y : Pin). not (in_range range y.page)) (entries h.side.linux.pins) w x u (sym (get-entries h.side.linux.pins w) ∙ g));
    }

module _ (range : PageRange) (mirror : Reads Row) (pins : Reads Pin) (begun cleared : ℕ) (rings : List (List Msg)) (bs : List Msg) (no_pin : (w : ℕ) (x : Pin) → pins w ≡ Some x → in_range range x.page ≡ false) where
  no-clears : (m : Msg) → clears m ≡ 0 → ClearIsOf (Some (Taken, range)) m → ClearIsOf (Some (Acked, range)) m
  no-clears (Clear x) e h = absurd (grind (arith, e))
  no-clears (Request c) e h = tt
  no-clears (Answer w i n row) e h = tt
  no-clears (Interrupt n place) e h = tt
  no-clears (Reply n code) e h = tt
  no-clears Ack e h = tt
  no-clears (Fault w i a) e h = tt

  stays-outside : (m : Msg) → IsOutside (Some (Taken, range)) begun m → IsOutside (Some (Acked, range)) begun m
  stays-outside (Answer w i n (Some row)) h = h
  stays-outside (Answer w i n None) h = tt
  stays-outside (Clear x) h = tt
  stays-outside (Request c) h = tt
  stays-outside (Interrupt n place) h = tt
  stays-outside (Reply n code) h = tt
  stays-outside Ack h = tt
  stays-outside (Fault w i a) h = tt

  pub rounded_ack : Rounded (Some (Taken, range)) mirror pins begun cleared rings bs → Rounded (Some (Acked, range)) mirror pins begun cleared rings (bs ++ Ack ∷ [])
  rounded_ack c = record {
    clears_are = c.clears_are;
    acks_are = omega (arith, tally-push acks bs Ack, c.acks_are);
    clear_of = EachRing-where clears (ClearIsOf (Some (Taken, range))) (ClearIsOf (Some (Acked, range))) rings c.clears_are no-clears c.clear_of;
    fetched = c.fetched;
    outside = EachRing-map (IsOutside (Some (Taken, range)) begun) (IsOutside (Some (Acked, range)) begun) rings stays-outside c.outside;
    mirror_outside = c.mirror_outside;
    pins_outside = no_pin;
  }

module _ (p : ℕ) (h : Here) (ring_number : ℕ → ℕ) (k : OfProcess p h.side h.node h.workers ring_number) (q : Pid) (e : may_here (Events.AckClear q) h ≡ true) where
  pub keeps_ack_clear : OfProcess p (after_here (Events.AckClear q) p h).side (after_here (Events.AckClear q) p h).node h.workers ring_number
  unfolding ack_clear
  keeps_ack_clear =
      let m = may-ack-clear h q e in
      let b = m.round in
      let rounded = rw b at k.rounded in
      let i = rings-back (at h.side.book.rows) h.side.book.next (at h.node.threads) ring_number (at h.side.lwk.callers) (at h.side.linux.services) h.side.to_linux h.side.to_lwk (in_rings k) Ack refl in
      let s = k.served in
      record {
        covered = k.covered;
        rounded = rw b (rounded_ack m.range (at h.side.linux.mirror) (at h.side.linux.pins) h.side.lwk.begun h.side.linux.cleared h.side.to_linux h.side.to_lwk m.no_pin rounded);
        owned = rw b (owned-in (process_of h.node p) (at h.node.threads) p h.side.lwk.changing h.side.round Taken Acked m.range b k.owned);
        served = record {
          worker_below = s.worker_below;
          requests = s.requests;
          waits = s.waits;
          known = s.known;
          workers_hold = s.workers_hold;
          held_by = s.held_by;
          faults = λ w. omega (arith, tally-push (faults_of w) h.side.to_lwk Ack, s.faults w);
          fault_for = Each-push (FaultIsFor (at h.side.linux.workers) (at h.side.linux.services)) h.side.to_lwk Ack s.fault_for tt;
          noted_for = s.noted_for;
          answer_for = s.answer_for;
          pins_serve = s.pins_serve;
        };
        answered = Answered-back (at h.side.book.rows) (at h.side.lwk.callers) h.side.book.next h.side.to_lwk Ack (λ x. refl) tt k.answered;
        calls = k.calls;
        asked = i.asked;
        interrupts = i.interrupts;
        directions = i.directions;
        messages = i.messages;
        marked = i.marked;
      }

pub simulates_ack_clear : (p : ℕ) (h : Here) (q : Pid) → Simulated (Events.AckClear q) p h
unfolding ack_clear
simulates_ack_clear p h q = simulated-none (Events.AckClear q) p h refl
    (shown-silent h.frames h (record h.side { round = with_phase h.side.round Acked; to_lwk = h.side.to_lwk ++ Ack ∷ [] }) h.turns refl refl
    (λ x. ap (status_in (state_in (at h.side.book.rows x)) (call_in (at h.side.book.rows x)) (service_of h.side.linux.services x) (has_empty (at h.side.linux.workers) x h.side.to_linux)) (code-other x h.side.to_lwk Ack (λ rest. refl))))
