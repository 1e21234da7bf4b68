-- Runs of a thread that follow one another.
-- Source: this project's own.
use Rattle.hybrid_model.specs.Events.{after, of_thread}
use Rattle.hybrid_model.specs.Journals.{may_all, state}
use Rattle.hybrid_model.specs.Pairs.{Pair, here}
use Rattle.hybrid_model.specs.Run.{executed_in_run}
use Rattle.hybrid_model.specs.declared.events.Event.TheVariants.{Run}
use Rattle.hybrid_model.specs.declared.events.Event.{Event}
use Rattle.kernel_model.specs.Nodes.{ready_to_run, thread_of}
use Rattle.mck_word.specs.declared.Tid.{Tid}
use Rattle.std.specs.Prelude.{Bool, List, [], false, map, replicate, true, ℕ, ◌*◌, ◌+◌, ◌/◌, ◌<◌, ◌∷◌, ◌≡◌, ◌≤◌}

-- how many instructions a Run of at most n executes
abbrev pub run_length : Pair → Tid → ℕ → ℕ
run_length pair t n = executed_in_run t.0 n (here pair (of_thread pair.node t.0))

abbrev pub is_ready : Pair → Tid → Bool
is_ready pair t = ready_to_run (thread_of pair.node t.0).does

-- how many Runs of 64 are begun by so many instructions
abbrev pub begun : ℕ → ℕ
begun executed = (executed + 63) / 64

-- counts that a Run may have
abbrev pub AreCounts : List ℕ → Type 0
AreCounts [] = Unit {0}
AreCounts (n ∷ ns) = (1 ≤ n) × (n ≤ 64) × AreCounts ns

abbrev pub total : List ℕ → ℕ
total [] = 0
total (n ∷ ns) = n + total ns

abbrev pub runs_of : ℕ → Tid → List ℕ → List Event
runs_of core t counts = map (λ n. Run core t n) counts

-- The run of 64 * c instructions is the Run of 64, happening as often as quanta are begun by what it executes: so many may follow one another, and they are fewer than c only where the thread isn't ready after them.
pub record AreOne (pair : Pair) (core : ℕ) (t : Tid) (c : ℕ) : Type 0 where
  pub legal : may_all pair (replicate (begun (run_length pair t (64 * c))) (Run core t 64)) ≡ true
  pub leads : state pair (replicate (begun (run_length pair t (64 * c))) (Run core t 64)) ≡ after pair (Run core t (64 * c))
  pub some : 1 ≤ begun (run_length pair t (64 * c))
  pub few : begun (run_length pair t (64 * c)) ≤ c
  pub whole : begun (run_length pair t (64 * c)) < c → is_ready (after pair (Run core t (64 * c))) t ≡ false
