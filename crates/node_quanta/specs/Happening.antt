-- Quanta as events: when they happen, what they come to, and why not.
use Rattle.hybrid_model.specs.Events.{of_thread}
use Rattle.hybrid_model.specs.Journals.{may_all, state}
use Rattle.hybrid_model.specs.OneProcess.{memory_here}
use Rattle.hybrid_model.specs.Pairs.{Pair, here}
use Rattle.hybrid_model.specs.Run.{left_of_limit}
use Rattle.hybrid_model.specs.declared.events.Event.TheVariants.{Run}
use Rattle.hybrid_model.specs.declared.events.Event.{Event}
use Rattle.isa_model.specs.Memory.{Memory}
use Rattle.kernel_model.specs.Nodes.{has_thread, is_there, thread_of}
use Rattle.kernel_model.specs.Traps.{may_run}
use Rattle.mck_word.specs.declared.Pid.{Pid}
use Rattle.mck_word.specs.declared.Regs.{Regs}
use Rattle.mck_word.specs.declared.Tid.{Tid}
use Rattle.node_quanta.specs.declared.stale.Stale.TheVariants.{Halted, Limit, Seen}
use Rattle.node_quanta.specs.declared.stale.Stale.{Stale}
use Rattle.rv_quantum.specs.Differing.{FirstDiffers}
use Rattle.rv_quantum.specs.Promised.{Agrees}
use Rattle.rv_quantum.specs.Told.{counts, first_regs, pages_seen, total}
use Rattle.rv_quantum.specs.declared.quanta.Quanta.{Quanta}
use Rattle.std.specs.Prelude.{Bool, Err, List, None, Ok, Option, Result, Some, false, map, true, ℕ}
use Rattle.std.specs.Prelude.{◌%◌, ◌&&◌, ◌<◌, ◌==◌, ◌≡◌, ◌≤◌}

-- the registers of a thread, and the memory of a process
abbrev pub regs_of : Pair → ℕ → Regs
regs_of pair t = (thread_of pair.node t).regs

abbrev pub memory_of : Pair → ℕ → Memory
memory_of pair p = memory_here (here pair p)

-- a thread's process and registers, where it lives
abbrev pub IsThread : Pair → ℕ → Option (Pid × Regs) → Type 0
IsThread pair t None = has_thread pair.node t ≡ false
IsThread pair t (Some x) =
    (has_thread pair.node t ≡ true) × (x.0.0 ≡ of_thread pair.node t) × (x.1 ≡ regs_of pair t)

-- the thread may run on the core, the limit aside
abbrev pub may_run_on : Pair → ℕ → ℕ → Bool
may_run_on pair core t = is_there pair.node (of_thread pair.node t) && may_run pair.node t && t % pair.cores == core

-- all of it is as the quanta saw it, and the limit allows them
pub record Fits (pair : Pair) (core t : ℕ) (q : Quanta) : Type 0 where
  pub may : may_run_on pair core t ≡ true
  pub limit : total q ≤ left_of_limit pair.node
  pub regs : regs_of pair t ≡ first_regs q
  pub pages : Agrees (pages_seen q) (memory_of pair (of_thread pair.node t))

-- the first reason against them
abbrev pub IsStale : Pair → ℕ → ℕ → Quanta → Stale → Type 0
IsStale pair core t q Halted = may_run_on pair core t ≡ false
IsStale pair core t q (Limit left) =
    (may_run_on pair core t ≡ true) × (left ≡ left_of_limit pair.node) × (left < total q)
IsStale pair core t q (Seen d) =
    (may_run_on pair core t ≡ true) × (total q ≤ left_of_limit pair.node)
    × FirstDiffers (first_regs q) (pages_seen q) (regs_of pair t) (memory_of pair (of_thread pair.node t)) d

-- one Run for each
abbrev pub runs : ℕ → Tid → List ℕ → List Event
runs core t ns = map (λ (n : ℕ). Run core t n) ns

-- they happen, one after another, or nothing does
abbrev pub Comes : ℕ → Tid → Quanta → Pair → Result ℕ Stale → Pair → Type 0
Comes core t q old (Ok n) new =
    Fits old core t.0 q × (n ≡ total q) × (may_all old (runs core t (counts q)) ≡ true)
    × (new ≡ state old (runs core t (counts q)))
Comes core t q old (Err s) new = IsStale old core t.0 q s × (new ≡ old)
