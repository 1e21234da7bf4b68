-- Every event, of either kernel, in the whole state: coherence is kept, and the image is a run of the one-kernel machine.
use Rattle.hybrid_model.specs.declared.events.Event.TheVariants as Events
use Rattle.file_model.specs.Paths.{child}
use Rattle.hybrid_laws.proofs.every.Linux.{holds_linux}
use Rattle.hybrid_laws.proofs.every.QuietLwk.{coherent_intake, holds_quiet_lwk, simulated_pair_intake}
use Rattle.hybrid_laws.proofs.states.Steps.{SimulatedPair}
use Rattle.hybrid_laws.proofs.trap.Whole.{coherent_trap_begins, coherent_trap_done, simulated_pair_trap_begins, simulated_pair_trap_done}
use Rattle.hybrid_laws.proofs.trap.WholeChanges.{coherent_trap_changes, simulated_pair_trap_changes}
use Rattle.hybrid_laws.proofs.trap.WholeForks.{coherent_trap_forks, simulated_pair_trap_forks}
use Rattle.hybrid_laws.specs.EventKinds.{is_of_linux, is_quiet_lwk}
use Rattle.hybrid_model.specs.Events.{after, may}
use Rattle.hybrid_model.specs.Globals.{Coherent}
use Rattle.hybrid_model.specs.OneProcess.{view_here}
use Rattle.hybrid_model.specs.Pairs.{Pair, here}
use Rattle.hybrid_model.specs.declared.events.Event.{Event}
use Rattle.kernel_model.specs.Nodes.{thread_of}
use Rattle.kernel_model.specs.Traps.{Begins, Changes, Done, Forks, Trapped, trap}
use Rattle.mck_word.specs.Maps.{change}
use Rattle.mck_word.specs.declared.Tid.{Tid}
use Rattle.std.proofs.Common.{refl}
use Rattle.std.specs.Prelude.{length, true, ◌≡◌}

module _ (pair : Pair) (c : Coherent pair) where
  abbrev Done_whole : Event → Type 0
  Done_whole e = Coherent (after pair e) × SimulatedPair pair e

  -- whatever the trap comes to
  pub whole_trap : (t : Tid) → may pair (Events.Trap t) ≡ true → Coherent (after pair (Events.Trap t)) × SimulatedPair pair (Events.Trap t)
  whole_trap t m = go (trap t.0 (length pair.free) (view_here (here pair (thread_of pair.node t.0).process))) refl
    where
      go : (y : Trapped) → trap t.0 (length pair.free) (view_here (here pair (thread_of pair.node t.0).process)) ≡ y → Coherent (after pair (Events.Trap t)) × SimulatedPair pair (Events.Trap t)
      go (Done v) is = (coherent_trap_done pair c t m v is, simulated_pair_trap_done pair c t m v is)
      go (Forks v child stores) is = (coherent_trap_forks pair c t m v child stores is, simulated_pair_trap_forks pair c t m v child stores is)
      go (Begins node progress) is = (coherent_trap_begins pair c t m node progress is, simulated_pair_trap_begins pair c t m node progress is)
      go (Changes node change) is = (coherent_trap_changes pair c t m change node is, simulated_pair_trap_changes pair c t m change node is)

  quiet : (e : Event) → is_quiet_lwk e ≡ true → may pair e ≡ true → Done_whole e
  quiet e l m = let h = holds_quiet_lwk pair c e l m in (h.coherent, h.simulated)

  linux : (e : Event) → is_of_linux e ≡ true → may pair e ≡ true → Done_whole e
  linux e l m = let h = holds_linux pair c e l m in (h.coherent, h.simulated)

  pub whole_event : (e : Event) → may pair e ≡ true → Coherent (after pair e) × SimulatedPair pair e
  whole_event (Events.Run core t n) m = quiet (Events.Run core t n) refl m
  whole_event (Events.Trap t) m = whole_trap t m
  whole_event (Events.Deliver t) m = quiet (Events.Deliver t) refl m
  whole_event (Events.Intake q) m = (coherent_intake pair c q m, simulated_pair_intake pair c q m)
  whole_event (Events.Answer q w) m = quiet (Events.Answer q w) refl m
  whole_event (Events.BeginVm t) m = quiet (Events.BeginVm t) refl m
  whole_event (Events.Interrupt t) m = quiet (Events.Interrupt t) refl m
  whole_event (Events.Wait t) m = quiet (Events.Wait t) refl m
  whole_event (Events.Reap q) m = quiet (Events.Reap q) refl m
  whole_event (Events.Script i) m = quiet (Events.Script i) refl m
  whole_event (Events.Fetch q r) m = linux (Events.Fetch q r) refl m
  whole_event (Events.Assign q w) m = linux (Events.Assign q w) refl m
  whole_event (Events.Miss q w) m = linux (Events.Miss q w) refl m
  whole_event (Events.Pin q w) m = linux (Events.Pin q w) refl m
  whole_event (Events.Copy q w) m = linux (Events.Copy q w) refl m
  whole_event (Events.Unpin q w) m = linux (Events.Unpin q w) refl m
  whole_event (Events.Act q w) m = linux (Events.Act q w) refl m
  whole_event (Events.Park q w) m = linux (Events.Park q w) refl m
  whole_event (Events.Unpark q n) m = linux (Events.Unpark q n) refl m
  whole_event (Events.Finish q w) m = linux (Events.Finish q w) refl m
  whole_event (Events.AckClear q) m = linux (Events.AckClear q) refl m
