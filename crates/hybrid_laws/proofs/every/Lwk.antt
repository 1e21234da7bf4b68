-- What holds of each event of the lightweight kernel in a coherent state.
use Rattle.hybrid_model.specs.declared.events.Event.TheVariants as Events
use Rattle.hybrid_laws.proofs.every.HandsOutLwk.{holds_intake}
use Rattle.hybrid_laws.proofs.every.QuietLwk.{holds_quiet_lwk}
use Rattle.hybrid_laws.proofs.journal.Journal.{EachLwkEvent}
use Rattle.hybrid_laws.proofs.states.Steps.{SimulatedPair}
use Rattle.hybrid_laws.proofs.trap.HandsOut.{handed_trap}
use Rattle.hybrid_laws.proofs.trap.Whole.{coherent_trap_begins, coherent_trap_done, simulated_pair_trap_begins, simulated_pair_trap_done}
use Rattle.hybrid_laws.proofs.trap.WholeChanges.{coherent_trap_changes, simulated_pair_trap_changes}
use Rattle.hybrid_laws.proofs.trap.WholeForks.{coherent_trap_forks, simulated_pair_trap_forks}
use Rattle.hybrid_model.specs.Claims.{Holds}
use Rattle.hybrid_model.specs.Events.{after, may}
use Rattle.hybrid_model.specs.Globals.{Coherent}
use Rattle.hybrid_model.specs.OneProcess.{view_here}
use Rattle.hybrid_model.specs.Pairs.{Pair, here}
use Rattle.kernel_model.specs.Nodes.{thread_of}
use Rattle.kernel_model.specs.Traps.{Begins, Changes, Done, Forks, Trapped, trap}
use Rattle.mck_word.specs.declared.Tid.{Tid}
use Rattle.std.proofs.Common.{arith, refl}
use Rattle.std.specs.Prelude.{length, true, ◌≡◌}

-- a trap, whatever it comes to
holds_trap : (pair : Pair) (c : Coherent pair) (t : Tid) → may pair (Events.Trap t) ≡ true → Holds pair (Events.Trap t)
holds_trap pair c t m = whole (go (trap t.0 (length pair.free) (view_here (here pair (thread_of pair.node t.0).process))) refl)
  where
    whole : Coherent (after pair (Events.Trap t)) × SimulatedPair pair (Events.Trap t) → Holds pair (Events.Trap t)
    whole b = record { coherent = b.0; simulated = b.1; copies = tt; handed_out = handed_trap pair c t m }

    go : (y : Trapped) → trap t.0 (length pair.free) (view_here (here pair (thread_of pair.node t.0).process)) ≡ y → Coherent (after pair (Events.Trap t)) × SimulatedPair pair (Events.Trap t)
    go (Done v) e = (coherent_trap_done pair c t m v e, simulated_pair_trap_done pair c t m v e)
    go (Begins node progress) e = (coherent_trap_begins pair c t m node progress e, simulated_pair_trap_begins pair c t m node progress e)
    go (Changes node change) e = (coherent_trap_changes pair c t m change node e, simulated_pair_trap_changes pair c t m change node e)
    go (Forks v child stores) e = (coherent_trap_forks pair c t m v child stores e, simulated_pair_trap_forks pair c t m v child stores e)

pub each-lwk : EachLwkEvent
each-lwk pair (Events.Run core t n) c l m = holds_quiet_lwk pair c (Events.Run core t n) refl m
each-lwk pair (Events.Trap t) c l m = holds_trap pair c t m
each-lwk pair (Events.Deliver t) c l m = holds_quiet_lwk pair c (Events.Deliver t) refl m
each-lwk pair (Events.Intake q) c l m = holds_intake pair c q m
each-lwk pair (Events.Answer q w) c l m = holds_quiet_lwk pair c (Events.Answer q w) refl m
each-lwk pair (Events.BeginVm t) c l m = holds_quiet_lwk pair c (Events.BeginVm t) refl m
each-lwk pair (Events.Interrupt t) c l m = holds_quiet_lwk pair c (Events.Interrupt t) refl m
each-lwk pair (Events.Wait t) c l m = holds_quiet_lwk pair c (Events.Wait t) refl m
each-lwk pair (Events.Reap q) c l m = holds_quiet_lwk pair c (Events.Reap q) refl m
each-lwk pair (Events.Script i) c l m = holds_quiet_lwk pair c (Events.Script i) refl m
each-lwk pair (Events.Fetch q r) c l m = absurd (grind (arith, l))
each-lwk pair (Events.Assign q w) c l m = absurd (grind (arith, l))
each-lwk pair (Events.Miss q w) c l m = absurd (grind (arith, l))
each-lwk pair (Events.Pin q w) c l m = absurd (grind (arith, l))
each-lwk pair (Events.Copy q w) c l m = absurd (grind (arith, l))
each-lwk pair (Events.Unpin q w) c l m = absurd (grind (arith, l))
each-lwk pair (Events.Act q w) c l m = absurd (grind (arith, l))
each-lwk pair (Events.Park q w) c l m = absurd (grind (arith, l))
each-lwk pair (Events.Unpark q n) c l m = absurd (grind (arith, l))
each-lwk pair (Events.Finish q w) c l m = absurd (grind (arith, l))
each-lwk pair (Events.AckClear q) c l m = absurd (grind (arith, l))
