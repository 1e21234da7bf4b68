-- Walks: the actors, what each offers, and which of them acts next.
-- Source: this project's own.
use Rattle.run_model.specs.declared.actors.Actor.{Actor}
use Rattle.run_model.specs.declared.actors.Actor.TheVariants.{Core, Kernel, Linux, Worker, Script as ScriptActor}
use Rattle.hybrid_model.specs.Boot.{boot}
use Rattle.hybrid_model.specs.Events.{may, after}
use Rattle.hybrid_model.specs.declared.events.Event.{Event}
use Rattle.hybrid_model.specs.declared.events.Event.TheVariants.{Run, Trap, Deliver, Intake, Answer, BeginVm, Interrupt, Wait, Reap, Script, Fetch, Assign, Miss, Pin, Copy, Unpin, Act, Park, Unpark, Finish, AckClear}
use Rattle.hybrid_model.specs.Journals.{images}
use Rattle.hybrid_model.specs.Pairs.{Pair, side_of}
use Rattle.job_model.specs.declared.image.Image.{Image}
use Rattle.job_model.specs.declared.job.Job.{Job}
use Rattle.kernel_model.specs.Nodes.{ScriptLine, thread_of, instructions_in_all}
use Rattle.mck_word.specs.Identifiers.{pid, tid, req}
use Rattle.mck_word.specs.Lists.{count_from}
use Rattle.mck_word.specs.Maps.{at, keys}
use Rattle.std.specs.List.{filter_map}
use Rattle.std.specs.Prelude.{◌≡◌, ℕ, zero, suc, ◌+◌, ◌-◌, ◌%◌, Bool, true, false, cond, ◌&&◌, ◌==◌, nat_lt, min, List, [], ◌∷◌, ◌++◌, map, flat_map, filter, find, get_or, length, Option, Some, None}

abbrev pub most_per_run : ℕ
most_per_run = 64

-- the first of the events that may happen
abbrev pub first_that_may : Pair → List Event → Option Event
first_that_may pair events = find (may pair) events

-- ---- cores

abbrev pub run_of : Pair → ℕ → ℕ → Event
run_of pair core t = Run core (tid t) (min most_per_run (pair.node.limit - instructions_in_all pair.node))

abbrev pub core_event : Pair → ℕ → ℕ → Option Event
core_event pair core t = cond (t % pair.cores == core) (first_that_may pair (Trap (tid t) ∷ Deliver (tid t) ∷ run_of pair core t ∷ [])) None

abbrev pub is_above_last : Option ℕ → ℕ → Bool
is_above_last None t = true
is_above_last (Some last) t = nat_lt last t

abbrev pub first_event : Pair → ℕ → List ℕ → Option Event
first_event pair core [] = None
first_event pair core (t ∷ ts) = let rest = first_event pair core ts in elim (core_event pair core t) [ None ↦ rest | Some e ↦ Some e ]

-- the next thread above the core's last one that has an event, else the lowest
abbrev pub core_offer : Pair → ℕ → Option Event
core_offer pair core =
    let last = at pair.last core in
    elim (first_event pair core (filter (is_above_last last) (keys pair.node.threads))) [ None ↦ first_event pair core (keys pair.node.threads) | Some e ↦ Some e ]

-- ---- the others

abbrev pub all_workers : Pair → List ℕ
all_workers pair = count_from 0 pair.workers

abbrev pub thread_numbers : Pair → ℕ → List ℕ
thread_numbers pair p = filter (λ t. (thread_of pair.node t).process == p) (keys pair.node.threads)

abbrev pub kernel_offer : Pair → ℕ → Option Event
kernel_offer pair p = first_that_may pair
    (Intake (pid p) ∷ map (λ w. Answer (pid p) w) (all_workers pair) ++ map (λ t. BeginVm (tid t)) (thread_numbers pair p)
    ++ map (λ t. Interrupt (tid t)) (thread_numbers pair p) ++ map (λ t. Wait (tid t)) (thread_numbers pair p) ++ (Reap (pid p) ∷ []))

abbrev pub linux_offer : Pair → ℕ → Option Event
linux_offer pair p = first_that_may pair
    (map (λ r. Fetch (pid p) r) (count_from 0 pair.rings) ++ AckClear (pid p) ∷ map (λ w. Assign (pid p) w) (all_workers pair) ++ map (λ q. Unpark (pid p) (req q)) (keys (side_of pair p).book.rows))

abbrev pub worker_offer : Pair → ℕ → ℕ → Option Event
worker_offer pair p w = first_that_may pair (let x = pid p in Miss x w ∷ Pin x w ∷ Copy x w ∷ Unpin x w ∷ Act x w ∷ Park x w ∷ Finish x w ∷ [])

abbrev pub script_offer : Pair → Option Event
script_offer pair = first_that_may pair (map (λ (l : ScriptLine). Script l.index) pair.node.unsent)

abbrev pub offer : Pair → Actor → Option Event
offer pair (Core core) = core_offer pair core
offer pair (Kernel p) = kernel_offer pair p.0
offer pair (Linux p) = linux_offer pair p.0
offer pair (Worker p w) = worker_offer pair p.0 w
offer pair ScriptActor = script_offer pair

-- ---- whose turn it is

abbrev pub actors_of_process : Pair → ℕ → List Actor
actors_of_process pair p = Kernel (pid p) ∷ Linux (pid p) ∷ map (λ w. Worker (pid p) w) (all_workers pair)

-- an Ended process offers nothing
abbrev pub actors : Pair → List Actor
actors pair = map (λ c. Core c) (count_from 0 pair.cores) ++ flat_map (actors_of_process pair) (keys pair.node.processes) ++ ScriptActor ∷ []

abbrev pub is_same_actor : Actor → Actor → Bool
is_same_actor (Core a) (Core b) = a == b
is_same_actor (Kernel a) (Kernel b) = a.0 == b.0
is_same_actor (Linux a) (Linux b) = a.0 == b.0
is_same_actor (Worker a v) (Worker b w) = a.0 == b.0 && v == w
is_same_actor ScriptActor ScriptActor = true
is_same_actor _ _ = false

abbrev pub behind : Actor → List Actor → List Actor
behind a [] = []
behind a (b ∷ bs) = cond (is_same_actor a b) bs (behind a bs)

-- the actors from the one behind the last that acted, round the list
abbrev pub in_turn : Option Actor → List Actor → List Actor
in_turn None all = all
in_turn (Some a) all = behind a all ++ all

pub record Chosen : Type 0 where
  pub actor : Actor
  pub event : Event

abbrev pub chosen_by : Pair → Actor → Option Chosen
chosen_by pair a = elim (offer pair a) [ None ↦ None | Some e ↦ Some (record { actor = a; event = e }) ]

abbrev pub first_chosen : Pair → List Actor → Option Chosen
first_chosen pair [] = None
first_chosen pair (a ∷ as_) = let rest = first_chosen pair as_ in elim (chosen_by pair a) [ None ↦ rest | Some c ↦ Some c ]

-- order 0: the next actor in turn that has an offer
abbrev pub next_in_turn : Option Actor → Pair → Option Chosen
next_in_turn last pair = first_chosen pair (in_turn last (actors pair))

-- other orders: the actor at the place of the word modulo their number, among those that have an offer
abbrev pub next_by_word : ℕ → Pair → Option Chosen
next_by_word word pair = let all = filter_map (chosen_by pair) (actors pair) in
    cond (length all == 0) None (get_or (map (λ (c : Chosen). Some c) all) (word % length all) None)

-- ---- walks

-- where a walk stands: the state, the last actor, and how many words of the generator were drawn
pub record Walker : Type 0 where
  pub pair : Pair
  pub last : Option Actor
  pub drawn : ℕ

-- `words` are the words of the generator of the order, or none for order 0
abbrev pub next_choice : Option (ℕ → ℕ) → Walker → Option Chosen
next_choice None w = next_in_turn w.last w.pair
next_choice (Some words) w = next_by_word (words w.drawn) w.pair

abbrev pub moved : Chosen → Walker → Walker
moved c w = record { pair = after w.pair c.event; last = Some c.actor; drawn = w.drawn + 1 }

-- the events of a walk of at most n steps
abbrev pub walk_for : Option (ℕ → ℕ) → ℕ → Walker → List Event
walk_for words zero w = []
walk_for words (suc n) w = elim (next_choice words w) [ None ↦ [] | Some c ↦ c.event ∷ walk_for words n (moved c w) ]

abbrev pub start : Job → List Image → Walker
start job images = record { pair = boot job images; last = None; drawn = 0 }

-- the walk of the job: it goes to the point where no actor has an offer, so more steps give no more events
abbrev pub IsWalked : Job → List Image → Option (ℕ → ℕ) → List Event → Type 0
IsWalked job images words journal = (n : ℕ) × (walk_for words n (start job images) ≡ journal) × (walk_for words (n + 1) (start job images) ≡ journal)
