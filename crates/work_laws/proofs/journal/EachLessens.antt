-- Each event but a Run lessens what is left to do by one at least; a trap and a line of the script may add their price.
use Rattle.hybrid_model.specs.declared.events.Event.TheVariants as Events
use Rattle.hybrid_laws.proofs.maps.Tests.{both, some-is}
use Rattle.hybrid_laws.proofs.states.Pair.{there-has}
use Rattle.hybrid_model.specs.Events.{after, may, may_here, process_of_event}
use Rattle.hybrid_model.specs.Globals.{Coherent}
use Rattle.hybrid_model.specs.Pairs.{Pair, here}
use Rattle.hybrid_model.specs.declared.events.Event.{Event}
use Rattle.kernel_model.specs.Nodes.{is_there}
use Rattle.mck_word.specs.Maps.{at, count}
use Rattle.offer_laws.proofs.Rows.{count-same}
use Rattle.run_model.specs.Work.{counts_as_work, if_so, pays as is_paid}
use Rattle.std.proofs.Common.{arith}
use Rattle.std.specs.Prelude.{true, ℕ, ◌*◌, ◌+◌, ◌≡◌, ◌≤◌}
use Rattle.work_laws.proofs.journal.EventsLess.{Pays, cost_of_event, event-less, gain_of_event}
use Rattle.work_laws.proofs.sides.Rows.{count-cut}
use Rattle.work_laws.specs.Left.{Lessens, left_to_do, price_of_trap, prices}
use Rattle.work_laws.specs.WholePages.{WholePages}

module _ (most : ℕ) (pair : Pair) (c : Coherent pair) (whole : WholePages pair) (workers : pair.workers ≤ 4) (few : count pair.node.processes ≤ most) where
  sides-few : count pair.sides ≤ most
  sides-few = let a = count-same pair.sides pair.node.processes c.known.sides_are in omega (arith, a, few)

  pays : Pays (prices most) pair
  pays = let a = sides-few in record { step = omega (arith, a); change = omega (arith, workers); process = omega (arith, a) }

  -- where an event may happen there is a process
  some-process : (e : Event) → may pair e ≡ true → 1 ≤ most
  some-process e m =
      let p = process_of_event pair.node e in
      let a = both (is_there pair.node p) (may_here e (here pair p)) m in
      let x = some-is (at pair.node.processes p) (there-has pair.node p a.0) in
      let d = count-cut pair.node.processes p x.0 x.1 in
      omega (arith, d, few)

  priced : (e : Event) → may pair e ≡ true → if_so (counts_as_work e) + cost_of_event (prices most) pair e ≤ gain_of_event e + price_of_trap most * is_paid e
  priced (Events.Run core t n) m = omega arith
  priced (Events.Trap t) m = let a = sides-few in let b = some-process (Events.Trap t) m in omega (arith, a, b, workers)
  priced (Events.Script line) m = let b = some-process (Events.Script line) m in omega (arith, b)
  priced (Events.Deliver t) m = omega arith
  priced (Events.Intake q) m = omega arith
  priced (Events.Answer q w) m = omega arith
  priced (Events.BeginVm t) m = omega arith
  priced (Events.Interrupt t) m = omega arith
  priced (Events.Wait t) m = omega arith
  priced (Events.Reap q) m = omega arith
  priced (Events.Fetch q r) m = omega arith
  priced (Events.Assign q w) m = omega arith
  priced (Events.Miss q w) m = omega arith
  priced (Events.Pin q w) m = omega arith
  priced (Events.Copy q w) m = omega arith
  priced (Events.Unpin q w) m = omega arith
  priced (Events.Act q w) m = omega arith
  priced (Events.Park q w) m = omega arith
  priced (Events.Unpark q n) m = omega arith
  priced (Events.Finish q w) m = omega arith
  priced (Events.AckClear q) m = omega arith

  together : (new old gain cost g price : ℕ) → new + gain ≤ old + cost → g + cost ≤ gain + price → new + g ≤ old + price
  together new old gain cost g price x y = omega (arith, x, y)

  pub event-lessens : (e : Event) → may pair e ≡ true → Lessens most pair e
  event-lessens e m = together (left_to_do most (after pair e)) (left_to_do most pair) (gain_of_event e) (cost_of_event (prices most) pair e) (if_so (counts_as_work e)) (price_of_trap most * is_paid e)
      (event-less (prices most) pair c whole pays e m) (priced e m)
