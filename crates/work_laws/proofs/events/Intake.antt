-- Intake lessens the work by its message. An Ack ends a round: the thread that changes memory pays for the next one, and for the answers that the change makes late.
use Rattle.hybrid_model.specs.declared.events.Event.TheVariants as Events
use Rattle.hybrid_laws.proofs.intake.Ack.{AckStands, ack-is, ack-stands}
use Rattle.hybrid_laws.proofs.intake.Reply.{awaits, caller}
use Rattle.hybrid_laws.proofs.maps.Sums.{total-put}
use Rattle.hybrid_model.specs.Coherence.{OfProcess}
use Rattle.hybrid_model.specs.Globals.{HeapHolds}
use Rattle.hybrid_model.specs.Intake.{caller_of, changed, intake, round_over, take_fault, take_reply, take_reply_of}
use Rattle.hybrid_model.specs.OneProcess.{memory_here, space_here}
use Rattle.hybrid_model.specs.Pairs.{Here, with_side}
use Rattle.hybrid_model.specs.Sides.{Row}
use Rattle.hybrid_model.specs.Spaces.{after_effect}
use Rattle.hybrid_model.specs.Tallies.{sum_rings, tally}
use Rattle.ikc_ring.specs.declared.Msg.TheVariants.{Ack, Fault, Reply}
use Rattle.ikc_ring.specs.declared.Msg.{Msg}
use Rattle.kernel_model.specs.MemoryCalls.{effect_of, refusal_at_end}
use Rattle.kernel_model.specs.Nodes.{process_of}
use Rattle.mck_word.specs.Maps.{Map, at}
use Rattle.mck_word.specs.declared.Access.{Access}
use Rattle.mck_word.specs.declared.Pid.{Pid}
use Rattle.mck_word.specs.declared.Req.{Req}
use Rattle.std.proofs.Common.{ap, arith, subst, sym}
use Rattle.std.specs.Prelude.{List, None, Option, Some, length, ℕ, ℤ, ◌+◌, ◌∷◌, ◌≡◌, ◌≤◌}
use Rattle.work_laws.proofs.fetch.Clear.{answers}
use Rattle.work_laws.proofs.files.Same.{files-intake}
use Rattle.work_laws.proofs.sides.Late.{rings-late}
use Rattle.work_laws.proofs.sides.Wholes.{HerePays}
use Rattle.work_laws.specs.Weights.{of_back, of_change, of_noted, of_side}

module _ (p : ℕ) (h : Here) (q : Pid) where
  abbrev Pays : List Msg → ℕ → ℕ → Type 0
  Pays ms gain cost = of_side h.workers h.node.files (intake p ms h).side + gain ≤ of_side h.workers h.node.files h.side + cost

  from : (ms : List Msg) → h.side.to_lwk ≡ ms → (gain cost : ℕ) → Pays ms gain cost → HerePays p (Events.Intake q) h gain cost
  from ms first gain cost a = record { files = files-intake p h q; own = subst (λ (xs : List Msg). Pays xs gain cost) (sym first) a }

  back : (m : Msg) (ms : List Msg) → h.side.to_lwk ≡ m ∷ ms → tally of_back h.side.to_lwk ≡ of_back m + tally of_back ms
  back m ms first = ap (tally of_back) first

  fault-taken : (w page : ℕ) (a : Access) (ms : List Msg) → h.side.to_lwk ≡ Fault w page a ∷ ms → Pays (Fault w page a ∷ ms) 1 0
  unfolding take_fault
  fault-taken w page a ms first = let b = back (Fault w page a) ms first in let t = total-put of_noted h.side.lwk.noted w (page, a) in omega (arith, b, t)

  pub here_intake_fault : (w page : ℕ) (a : Access) (ms : List Msg) → h.side.to_lwk ≡ Fault w page a ∷ ms → HerePays p (Events.Intake q) h 1 0
  here_intake_fault w page a ms first = from (Fault w page a ∷ ms) first 1 0 (fault-taken w page a ms first)

  reply-taken : (n : Req) (code : ℤ) (ms : List Msg) → h.side.to_lwk ≡ Reply n code ∷ ms → (o : Option ℕ) (t : ℕ) → o ≡ Some t → of_side h.workers h.node.files (take_reply_of o code ms h).side + 19 ≤ of_side h.workers h.node.files h.side
  reply-taken n code ms first None t e = absurd (grind (arith, e))
  reply-taken n code ms first (Some u) t e = let b = back (Reply n code) ms first in omega (arith, b)

  pub here_intake_reply : (workers : ℕ) (ring : ℕ → ℕ) → OfProcess p h.side h.node workers ring → (n : Req) (code : ℤ) (ms : List Msg) → h.side.to_lwk ≡ Reply n code ∷ ms → HerePays p (Events.Intake q) h 19 0
  unfolding take_reply
  here_intake_reply workers ring k n code ms first =
      let a = reply-taken n code ms first (caller_of h.side.lwk.callers n.0) (awaits p h n code ms first workers ring k).thread (caller p h n code ms first workers ring k).found in
      from (Reply n code ∷ ms) first 19 0 (omega (arith, a))

  -- the round is over, and the table is another
  over-side : (ms : List Msg) (table : Map Row) → h.side.to_lwk ≡ Ack ∷ ms → sum_rings answers h.side.to_linux ≤ h.workers
      → of_side h.workers h.node.files (record h.side { lwk = record h.side.lwk { changing = None; table = table }; round = None; to_lwk = ms }) + 1 ≤ of_side h.workers h.node.files h.side + of_change h.workers
  over-side ms table first few =
      let b = back Ack ms first in
      let t = rings-late h.workers h.side.linux.cleared (at h.side.lwk.table) (at table) h.side.to_linux in
      omega (arith, b, t, few)

  pub here_intake_ack : (ring : ℕ → ℕ) → OfProcess p h.side h.node h.workers ring → HeapHolds (process_of h.node p) → sum_rings answers h.side.to_linux ≤ h.workers → (ms : List Msg) → h.side.to_lwk ≡ Ack ∷ ms → HerePays p (Events.Intake q) h 1 (of_change h.workers)
  here_intake_ack ring k heap few ms first =
      from (Ack ∷ ms) first 1 (of_change h.workers) (subst (λ (x : Here). of_side h.workers h.node.files x.side + 1 ≤ of_side h.workers h.node.files h.side + of_change h.workers) (sym (ack-is p h h.workers ring k ms first heap)) (made (refusal_at_end (process_of h.node p) (memory_here h) (length h.free) w.owns.change)))
    where
      w : AckStands p h
      w = ack-stands p h h.workers ring k ms first

      made : (o : Option ℤ) → of_side h.workers h.node.files (changed p w.thread w.owns.change o (with_side h (round_over ms h.side))).side + 1 ≤ of_side h.workers h.node.files h.side + of_change h.workers
      made (Some answer) = over-side ms h.side.lwk.table first few
      made None = over-side ms (after_effect (effect_of (process_of h.node p) w.owns.change) (space_here h)).table first few
