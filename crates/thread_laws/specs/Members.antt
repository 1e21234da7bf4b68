-- Which threads there are, each in its process, and what an event leaves of them.
use Rattle.hybrid_model.specs.Intake.{caller_of}
use Rattle.hybrid_model.specs.Sides.{Side}
use Rattle.hybrid_model.specs.declared.events.Event.TheVariants.{Intake, Reap, Trap}
use Rattle.hybrid_model.specs.declared.events.Event.{Event}
use Rattle.ikc_ring.specs.declared.Msg.TheVariants.{Ack, Reply}
use Rattle.ikc_ring.specs.declared.Msg.{Msg}
use Rattle.kernel_model.specs.Nodes.{Node, Thread}
use Rattle.mck_word.specs.Maps.{at}
use Rattle.std.specs.Prelude.{Bool, List, None, Option, Some, cond, false, option_map, true, ℕ, ◌==◌, ◌∷◌, ◌≡◌}

abbrev pub process_in : Option Thread → Option ℕ
process_in o = option_map (λ (x : Thread). x.process) o

-- the process of the thread, where it is there
abbrev pub process_at : Node → ℕ → Option ℕ
process_at node t = process_in (at node.threads t)

abbrev pub is_in : ℕ → Option ℕ → Bool
is_in p None = false
is_in p (Some q) = q == p

-- what is left once the threads of p are gone
abbrev pub outside : ℕ → Option ℕ → Option ℕ
outside p o = cond (is_in p o) None o

-- both have the same threads in the same processes
abbrev pub SameThreads : Node → Node → Type 0
SameThreads before after = (u : ℕ) → process_at after u ≡ process_at before u

-- thread u is gone, or is in the process in which it was
abbrev pub StaysOrGoes : ℕ → Node → Node → Type 0
StaysOrGoes u before after = (q : ℕ) → process_at after u ≡ Some q → process_at before u ≡ Some q

-- the events that neither make a thread nor end one
abbrev pub keeps_threads : Event → Bool
keeps_threads (Trap t) = false
keeps_threads (Intake p) = false
keeps_threads (Reap p) = false
keeps_threads _ = true

-- the thread to which the first message brings an answer: the caller of a Reply, the one whose round an Ack ends
abbrev pub answered_by : Side → List Msg → Option ℕ
answered_by side (Reply q code ∷ rest) = caller_of side.lwk.callers q.0
answered_by side (Ack ∷ rest) = side.lwk.changing
answered_by side _ = None

abbrev pub thread_answered : Side → Option ℕ
thread_answered side = answered_by side side.to_lwk
