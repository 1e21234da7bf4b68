-- Frames that Intake and Trap hand out.
use Rattle.hybrid_model.specs.declared.events.Event.TheVariants as Events
use Rattle.hybrid_laws.proofs.intake.Ack as ack
use Rattle.clear_rounds.specs.declared.Phase.TheVariants.{Acked, Posted as RoundPosted, Taken}
use Rattle.clear_rounds.specs.declared.Phase.{Phase}
use Rattle.hybrid_laws.proofs.every.Linux.{none-handed, tables-stay}
use Rattle.hybrid_laws.proofs.every.QuietLwk.{coherent_intake, simulated_pair_intake}
use Rattle.hybrid_laws.proofs.intake.Ack.{AckStands, ack-is, fits_at_end, in-closing}
use Rattle.hybrid_laws.proofs.intake.Intake.{by-message}
use Rattle.hybrid_laws.proofs.intake.WholeAck.{coherent_intake_ack}
use Rattle.hybrid_laws.proofs.maps.Reading.{EachRing-both, EachRing-map}
use Rattle.hybrid_laws.proofs.maps.Tests.{both, some-is}
use Rattle.hybrid_laws.proofs.memory.FreshFrames.{Closed, NotAnswering, fresh-effect}
use Rattle.hybrid_laws.proofs.states.Pair.{there-has}
use Rattle.hybrid_laws.specs.OneProcess.{with_table}
use Rattle.hybrid_model.specs.Claims.{HandsOutFresh, Holds}
use Rattle.hybrid_model.specs.Coherence.{IsOutside, NotAhead, OfProcess, acked, acked_at, acks, is_acked_phase, is_posted_phase, phase_acked, phase_taken, posted, taken_at}
use Rattle.hybrid_model.specs.Events.{after, may, may_here}
use Rattle.hybrid_model.specs.Globals.{Coherent, HeapHolds, ring_number, table_of}
use Rattle.hybrid_model.specs.Intake.{caller_of, changed, intake, round_over, take_fault, take_reply, take_reply_of}
use Rattle.hybrid_model.specs.OneProcess.{memory_here, space_here}
use Rattle.hybrid_model.specs.Pairs.{Here, Pair, here, put_here, side_of, with_born, with_side}
use Rattle.hybrid_model.specs.Sides.{Round, Side, closes, new_side}
use Rattle.hybrid_model.specs.Tallies.{tally}
use Rattle.ikc_ring.specs.declared.Msg.TheVariants.{Ack, Answer, Clear, Fault, Interrupt, Reply, Request}
use Rattle.ikc_ring.specs.declared.Msg.{Msg}
use Rattle.kernel_model.specs.MemoryCalls.{Effect, closing_range, effect_of, refusal_at_end}
use Rattle.kernel_model.specs.Nodes.{Process, is_there, no_process, process_of}
use Rattle.kernel_model.specs.Pages.{pages_count}
use Rattle.kernel_model.specs.declared.Change.{Change}
use Rattle.mck_word.specs.MapLaws.{at-put}
use Rattle.mck_word.specs.Maps.{at, put}
use Rattle.mck_word.specs.Pages.{in_range}
use Rattle.mck_word.specs.declared.Access.{Access}
use Rattle.mck_word.specs.declared.PageRange.{PageRange}
use Rattle.mck_word.specs.declared.Pid.{Pid}
use Rattle.std.proofs.Common.{ap, arith, refl, subst, sym, ◌∙◌}
use Rattle.std.proofs.lemmas.Bool.Decides.{nat_tests}
use Rattle.std.specs.Prelude.{Bool, List, None, Option, Some, cond, false, if◌then◌else◌, length, true, unwrap_or, ℕ, ℤ, ◌&&◌, ◌+◌, ◌<◌, ◌==◌, ◌∷◌, ◌≡◌, ◌≤◌}

-- the tables after one process is put back
pub tables-put : (pair : Pair) (p : ℕ) (h : Here) → h.born ≡ None → (x i : ℕ) → table_of (put_here pair p h) x i ≡ with_table (table_of pair) p (at h.side.lwk.table) x i
tables-put pair p h none x i = ap (λ (o : Option (ℕ × Side)). at (unwrap_or (at (with_born (put pair.sides p h.side) o) x) (new_side 0)).lwk.table i) none
    ∙ ap (λ (o : Option Side). at (unwrap_or o (new_side 0)).lwk.table i) (at-put pair.sides p h.side x) ∙ go (x == p)
  where
    go : (b : Bool) → at (unwrap_or (cond b (Some h.side) (at pair.sides x)) (new_side 0)).lwk.table i ≡ (if b then at h.side.lwk.table else table_of pair x) i
    go true = refl
    go false = refl

pub in-range : (r : PageRange) (i : ℕ) → r.lo ≤ i → i < r.lo + pages_count r → in_range r i ≡ true
in-range r i l m = let u : i < r.hi = omega (arith, l, m) in grind (arith, nat_tests, l, u)

-- ---- Intake of an Ack
module _ (pair : Pair) (c : Coherent pair) (q : Pid) (there : is_there pair.node q.0 ≡ true) (rest : List Msg) (first : (side_of pair q.0).to_lwk ≡ Ack ∷ rest) where
  abbrev p : ℕ
  p = q.0

  abbrev h : Here
  h = here pair p

  abbrev k : OfProcess p h.side h.node pair.workers (ring_number pair)
  k = c.whole p

  heap : HeapHolds (process_of pair.node p)
  heap = let y = some-is (at pair.node.processes p) (there-has pair.node p there) in subst HeapHolds (sym (ap (λ (o : Option Process). unwrap_or o no_process) y.1)) (c.heaps p y.0 y.1)

  abbrev thread : ℕ
  thread = ack.t p h pair.workers (ring_number pair) k rest first heap

  abbrev change : Change
  change = ack.c p h pair.workers (ring_number pair) k rest first heap

  abbrev eff : Effect
  eff = effect_of (process_of pair.node p) change

  abbrev refusal : Option ℤ
  refusal = refusal_at_end (process_of pair.node p) (memory_here h) (length h.free) change

  abbrev stands : AckStands p h
  stands = ack.w p h pair.workers (ring_number pair) k rest first heap

  abbrev over : Side
  over = round_over rest h.side

  after-is : after pair (Events.Intake q) ≡ put_here pair p (changed p thread change refusal (with_side h over))
  after-is = ap (λ (ms : List Msg). put_here pair p (intake p ms h)) first ∙ ap (put_here pair p) (ack.ack-is p h pair.workers (ring_number pair) k rest first heap)

  acked-phase : stands.round.0 ≡ Acked
  acked-phase = go stands.round.0 refl (ap (tally acks) (sym first) ∙ k.rounded.acks_are ∙ ap acked stands.is)
    where
      go : (x : Phase) → stands.round.0 ≡ x → 1 + tally acks rest ≡ is_acked_phase stands.round.0 → stands.round.0 ≡ Acked
      go Acked e u = e
      go RoundPosted e u = absurd (let d = ap is_acked_phase e in omega (arith, u, d))
      go Taken e u = absurd (let d = ap is_acked_phase e in omega (arith, u, d))

  none-posted : posted h.side.round ≡ 0
  none-posted = ap posted stands.is ∙ ap is_posted_phase acked-phase

  module _ (none : refusal ≡ None) where
    in-round : (i : ℕ) → in_range eff.dropped i ≡ true → in_range stands.round.1 i ≡ true
    in-round i d = go (in_range (closing_range (process_of pair.node p) change) i) refl
      where
        go : (b : Bool) → in_range (closing_range (process_of pair.node p) change) i ≡ b → in_range stands.round.1 i ≡ true
        go true e = ap (λ (r : PageRange). in_range r i) (sym stands.owns.range_is) ∙ e
        go false e = absurd (let a = (in-closing (process_of pair.node p) heap (memory_here h) (length h.free) change none i e).0 in grind (arith, a, d))

    answering : (i : ℕ) → in_range stands.round.1 i ≡ true → (m : Msg) → NotAhead h.side.lwk.begun m × IsOutside h.side.round h.side.lwk.begun m → NotAnswering h.side.linux.cleared i m
    answering i d (Answer w page number (Some r)) x = λ l y.
        (let a = x.0 in let b = k.rounded.fetched in let n = none-posted in
        let same : number ≡ h.side.lwk.begun = omega (arith, a, b, n, l) in
        let f = sym (ap (λ (o : Option Round). closes o page) stands.is) ∙ x.1 same in
        let g = ap (λ (j : ℕ). in_range stands.round.1 j) y ∙ d in grind (arith, f, g))
    answering i d (Answer w page number None) x = tt
    answering i d (Request y) x = tt
    answering i d (Clear y) x = tt
    answering i d (Interrupt n place) x = tt
    answering i d (Reply n code) x = tt
    answering i d Ack x = tt
    answering i d (Fault w page a) x = tt

    closed : (i : ℕ) → in_range eff.dropped i ≡ true → Closed h.side i
    closed i d =
        let e = in-round i d in
        record {
          mirror = k.rounded.mirror_outside i (ap (λ (o : Option Round). taken_at o i) stands.is ∙ (λ j. phase_taken (acked-phase j) && e j));
          pins = λ w x f g. (let a = k.rounded.pins_outside w x f in let b = ap (λ (o : Option Round). acked_at o x.page) stands.is ∙ ap (λ (y : ℕ). phase_acked stands.round.0 && in_range stands.round.1 y) g ∙ (λ j. phase_acked (acked-phase j) && e j) in grind (arith, a, b));
          answers = EachRing-map (λ m. NotAhead h.side.lwk.begun m × IsOutside h.side.round h.side.lwk.begun m) (NotAnswering h.side.linux.cleared i) h.side.to_linux (answering i e)
              (EachRing-both (NotAhead h.side.lwk.begun) (IsOutside h.side.round h.side.lwk.begun) h.side.to_linux k.covered.not_ahead k.rounded.outside);
        }

    made-is : after pair (Events.Intake q) ≡ put_here pair p (changed p thread change None (with_side h over))
    made-is = after-is ∙ ap (λ o. put_here pair p (changed p thread change o (with_side h over))) none

    ack-fresh : HandsOutFresh pair (Events.Intake q)
    ack-fresh = fresh-effect pair c (Events.Intake q) (coherent_intake_ack pair c q there rest first) p eff (fits_at_end (process_of pair.node p) (space_here h) change none)
        (λ x i. ap (λ (z : Pair). table_of z x i) made-is ∙ tables-put pair p (changed p thread change None (with_side h over)) refl x i)
        (ap (λ (z : Pair). z.frames) made-is)
        (λ i r e l m. closed i (in-range eff.dropped i l m))

  pub handed_ack : HandsOutFresh pair (Events.Intake q)
  handed_ack = go refusal refl
    where
      go : (o : Option ℤ) → refusal ≡ o → HandsOutFresh pair (Events.Intake q)
      go None e = ack-fresh e
      go (Some answer) e = none-handed pair (Events.Intake q) (λ x i. ap (λ (z : Pair). table_of z x i) (after-is ∙ ap (λ o. put_here pair p (changed p thread change o (with_side h over))) e)
          ∙ tables-stay pair c p (changed p thread change (Some answer) (with_side h over)) refl refl x i)

-- ---- Intake
module _ (pair : Pair) (c : Coherent pair) (q : Pid) (m : may pair (Events.Intake q) ≡ true) where
  there-intake : is_there pair.node q.0 ≡ true
  there-intake = (both (is_there pair.node q.0) (may_here (Events.Intake q) (here pair q.0)) m).0

  reply-stays : (n : ℕ) (code : ℤ) (rest : List Msg) (x i : ℕ) → table_of (put_here pair q.0 (take_reply n code rest (here pair q.0))) x i ≡ table_of pair x i
  unfolding take_reply
  reply-stays n code rest x i = go (caller_of (side_of pair q.0).lwk.callers n)
    where
      go : (o : Option ℕ) → table_of (put_here pair q.0 (take_reply_of o code rest (here pair q.0))) x i ≡ table_of pair x i
      go None = tables-stay pair c q.0 (take_reply_of None code rest (here pair q.0)) refl refl x i
      go (Some t) = tables-stay pair c q.0 (take_reply_of (Some t) code rest (here pair q.0)) refl refl x i

  fault-stays : (w page : ℕ) (a : Access) (rest : List Msg) (x i : ℕ) → table_of (put_here pair q.0 (take_fault w page a rest (here pair q.0))) x i ≡ table_of pair x i
  unfolding take_fault
  fault-stays w page a rest x i = tables-stay pair c q.0 (take_fault w page a rest (here pair q.0)) refl refl x i

  pub handed_intake : HandsOutFresh pair (Events.Intake q)
  handed_intake = by-message (side_of pair q.0).to_lwk (HandsOutFresh pair (Events.Intake q))
      (λ e. none-handed pair (Events.Intake q) (λ x i. ap (λ (ms : List Msg). table_of (put_here pair q.0 (intake q.0 ms (here pair q.0))) x i) e ∙ tables-stay pair c q.0 (here pair q.0) refl refl x i))
      (λ n code rest e. none-handed pair (Events.Intake q) (λ x i. ap (λ (ms : List Msg). table_of (put_here pair q.0 (intake q.0 ms (here pair q.0))) x i) e ∙ reply-stays n.0 code rest x i))
      (λ rest e. handed_ack pair c q there-intake rest e)
      (λ w page a rest e. none-handed pair (Events.Intake q) (λ x i. ap (λ (ms : List Msg). table_of (put_here pair q.0 (intake q.0 ms (here pair q.0))) x i) e ∙ fault-stays w page a rest x i))
      (c.whole q.0).directions.to_lwk

  pub holds_intake : Holds pair (Events.Intake q)
  holds_intake = record { coherent = coherent_intake pair c q m; simulated = simulated_pair_intake pair c q m; copies = tt; handed_out = handed_intake }
