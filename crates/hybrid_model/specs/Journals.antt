-- Journals: lists of events, each of which may happen in the state that those before it leave; and how a run ends.
-- Source: this project's own, after the idea of IHK/McKernel.
use Rattle.hybrid_model.specs.Boot.{boot, shortage}
use Rattle.hybrid_model.specs.Events.{may, after}
use Rattle.hybrid_model.specs.Images.{image}
use Rattle.hybrid_model.specs.Pairs.{Pair, side_of}
use Rattle.hybrid_model.specs.declared.events.Ending.{Ending}
use Rattle.hybrid_model.specs.declared.events.Ending.TheVariants.{Done, Limit, Stalled, Unfinished}
use Rattle.hybrid_model.specs.declared.events.Event.{Event}
use Rattle.hybrid_model.specs.declared.events.Event.TheVariants.{Run, Trap, Deliver, Intake, Answer, BeginVm, Interrupt, Wait, Reap, Script, Fetch, Assign, Miss, Pin, Copy, Unpin, Act, Park, Unpark, Finish, AckClear}
use Rattle.job_model.specs.declared.image.Image.{Image}
use Rattle.job_model.specs.declared.job.Job.{Job}
use Rattle.kernel_model.specs.Nodes.{Thread, Process, ScriptLine, is_living, ready_to_run, has_ended}
use Rattle.kernel_model.specs.declared.steps.Step.{Step}
use Rattle.mck_word.specs.Identifiers.{pid, tid, req}
use Rattle.mck_word.specs.Lists.{count_from}
use Rattle.mck_word.specs.Maps.{keys, each_row, some_row}
use Rattle.std.specs.List.{list_any}
use Rattle.std.specs.Prelude.{Bool, List, [], cond, false, flat_map, map, not, true, ℕ, ◌%◌, ◌&&◌, ◌++◌, ◌∷◌, ◌≡◌, None}

-- ---- runs

abbrev pub state : Pair → List Event → Pair
state pair [] = pair
state pair (e ∷ es) = state (after pair e) es

abbrev pub may_all : Pair → List Event → Bool
may_all pair [] = true
may_all pair (e ∷ es) = may pair e && may_all (after pair e) es

abbrev pub images : Pair → List Event → List Step
images pair [] = []
images pair (e ∷ es) = image pair e ++ images (after pair e) es

-- The frames suffice for the boot, and each event may happen in the state that those before it leave.
abbrev pub IsLegal : Job → List Image → List Event → Type 0
IsLegal job imgs journal = (shortage job imgs ≡ None) × (may_all (boot job imgs) journal ≡ true)

-- ---- endings

-- no event may happen
abbrev pub IsOver : Pair → Type 0
IsOver pair = (e : Event) → may pair e ≡ false

-- One event of each kind for each thread, process, worker, ring, request and script line. Where an event may happen, one of these may: a Run of n instructions only where one of 1 may.
abbrev pub events_of_thread : Pair → ℕ → List Event
events_of_thread pair t = let x = tid t in Run (t % pair.cores) x 1 ∷ Trap x ∷ Deliver x ∷ BeginVm x ∷ Interrupt x ∷ Wait x ∷ []

abbrev pub events_of_worker : ℕ → ℕ → List Event
events_of_worker p w = let x = pid p in Answer x w ∷ Assign x w ∷ Miss x w ∷ Pin x w ∷ Copy x w ∷ Unpin x w ∷ Act x w ∷ Park x w ∷ Finish x w ∷ []

abbrev pub events_of_process : Pair → ℕ → List Event
events_of_process pair p =
    Intake (pid p) ∷ Reap (pid p) ∷ AckClear (pid p)
    ∷ map (λ r. Fetch (pid p) r) (count_from 0 pair.rings)
    ++ flat_map (events_of_worker p) (count_from 0 pair.workers)
    ++ map (λ q. Unpark (pid p) (req q)) (keys (side_of pair p).book.rows)

abbrev pub candidates : Pair → List Event
candidates pair =
    flat_map (events_of_thread pair) (keys pair.node.threads)
    ++ flat_map (events_of_process pair) (keys pair.node.processes)
    ++ map (λ (l : ScriptLine). Script l.index) pair.node.unsent

abbrev pub is_at_end : Pair → Bool
is_at_end pair = not (list_any (may pair) (candidates pair))

abbrev pub runs_on : Pair → ℕ → Thread → Bool
runs_on pair t x = ready_to_run x.does && is_living pair.node x.process

-- the ending of a run that is over
abbrev pub ending_of_run : Pair → Ending
ending_of_run pair =
    cond (each_row (λ p (x : Process). has_ended x.life) pair.node.processes) Done
    (cond (some_row (runs_on pair) pair.node.threads) Limit Stalled)

abbrev pub ending : Pair → Ending
ending pair = cond (is_at_end pair) (ending_of_run pair) Unfinished
