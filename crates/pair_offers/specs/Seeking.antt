-- What is sought of the threads and of other things with numbers, one after another.
use Rattle.hybrid_model.specs.Pairs.{Pair}
use Rattle.hybrid_model.specs.declared.events.Event.{Event}
use Rattle.hybrid_model.specs.declared.events.Event.TheVariants.{Answer, Assign, BeginVm, Deliver, Fetch, Interrupt, Trap, Wait}
use Rattle.kernel_model.specs.Nodes.{thread_of}
use Rattle.mck_word.specs.Identifiers.{tid}
use Rattle.mck_word.specs.Maps.{keys}
use Rattle.mck_word.specs.declared.Pid.{Pid}
use Rattle.mck_word.specs.declared.Req.{Req}
use Rattle.mck_word.specs.declared.Tid.{Tid}
use Rattle.pair_offers.specs.declared.seeking.Numbered.{Numbered}
use Rattle.pair_offers.specs.declared.seeking.Numbered.TheVariants.{Answers, Assigns, Fetches}
use Rattle.run_model.specs.Walks.{run_of, thread_numbers}
use Rattle.std.specs.Prelude.{Bool, List, None, Option, Some, [], filter, find, map, nat_le, true, ℕ, ◌%◌, ◌&&◌, ◌++◌, ◌==◌, ◌∷◌}

abbrev pub thread_number : Tid → ℕ
thread_number t = t.0

abbrev pub request_number : Req → ℕ
request_number q = q.0

-- what f gives for the first of the numbers for which it gives something
abbrev pub first_by : {A : Type 0} → (ℕ → Option A) → List ℕ → Option A
first_by f [] = None
first_by {A = A} f (n ∷ ns) = let rest = first_by f ns in elim (f n) as (λ _. Option A) [ None ↦ rest | Some a ↦ Some a ]

-- what was given first, else the other
abbrev pub or_else : {A : Type 0} → Option A → Option A → Option A
or_else None rest = rest
or_else (Some a) rest = Some a

-- whether the thread is one of the process
abbrev pub is_thread_of : Pair → ℕ → ℕ → Bool
is_thread_of pair p t = (thread_of pair.node t).process == p

-- whether the thread runs on the core
abbrev pub is_on_core : Pair → ℕ → ℕ → Bool
is_on_core pair core t = t % pair.cores == core

-- the lowest from there on, of the rising numbers, that f takes
abbrev pub next_such : (ℕ → Bool) → ℕ → List ℕ → Option ℕ
next_such f from ns = find (λ n. nat_le from n && f n) ns

-- the live threads of the core, rising
abbrev pub threads_on : Pair → ℕ → List ℕ
threads_on pair core = filter (is_on_core pair core) (keys pair.node.threads)

-- whether the number is at most the end, where there is an end
abbrev pub is_up_to : Option ℕ → ℕ → Bool
is_up_to None t = true
is_up_to (Some end) t = nat_le t end

-- the events of a thread on its core, the first of them first
abbrev pub events_on_core : Pair → ℕ → ℕ → List Event
events_on_core pair core t = Trap (tid t) ∷ Deliver (tid t) ∷ run_of pair core t ∷ []

-- the events of the lightweight kernel for the threads of a process
abbrev pub begins : Pair → Pid → List Event
begins pair p = map (λ t. BeginVm (tid t)) (thread_numbers pair p.0)

abbrev pub interrupts : Pair → Pid → List Event
interrupts pair p = map (λ t. Interrupt (tid t)) (thread_numbers pair p.0)

abbrev pub waits : Pair → Pid → List Event
waits pair p = map (λ t. Wait (tid t)) (thread_numbers pair p.0)

-- all of them, in the order in which they are asked
abbrev pub events_of_threads : Pair → Pid → List Event
events_of_threads pair p = begins pair p ++ (interrupts pair p ++ waits pair p)

-- the event of a worker or a ring, and the process of those events
abbrev pub event_of : Numbered → ℕ → Event
event_of (Answers p) n = Answer p n
event_of (Fetches p) n = Fetch p n
event_of (Assigns p) n = Assign p n

abbrev pub process_of : Numbered → ℕ
process_of (Answers p) = p.0
process_of (Fetches p) = p.0
process_of (Assigns p) = p.0
