-- The lists of live threads, by core and by process, and which threads an event may make or end.
use Rattle.hybrid_model.specs.Events.{of_thread}
use Rattle.hybrid_model.specs.declared.events.Event.TheVariants.{Intake, Reap, Trap}
use Rattle.hybrid_model.specs.declared.events.Event.{Event}
use Rattle.kernel_model.specs.Nodes.{Node, is_living}
use Rattle.kernel_model.specs.declared.Does.{Does}
use Rattle.lwk_threads.specs.Threads.{Spared}
use Rattle.lwk_threads.specs.declared.Thread.{Thread}
use Rattle.mck_word.specs.Identifiers.{pid}
use Rattle.mck_word.specs.Maps.{at}
use Rattle.number_groups.specs.Groups.{is_in}
use Rattle.pair_node.specs.declared.members.Members.{Members}
use Rattle.pair_node.specs.declared.members.Touched.TheVariants.{Group, Nothing, Own}
use Rattle.pair_node.specs.declared.members.Touched.{Touched}
use Rattle.std.specs.Prelude.{None, Option, Some, cond, is_some, option_map, ℕ, ◌%◌, ◌&&◌, ◌==◌, ◌≡◌, ◌≤◌}
use Rattle.thread_laws.specs.Members.{is_in as is_of}

-- where each thread stands: the process of each that lives
abbrev pub Owners : Type 0
Owners = ℕ → Option ℕ

abbrev pub nobody : Owners
nobody t = None

abbrev pub with_owner : ℕ → Option ℕ → Owners → Owners
with_owner t o f u = cond (u == t) o (f u)

-- as a table has it
abbrev pub owners : Spared Does → Owners
owners table t = option_map (λ (x : Thread Does). x.pid.0) (at table.threads.rows t)

-- each live thread, and none else, stands in the list of its core and in that of its process
pub record IsListed (f : Owners) (cores : ℕ) (m : Members) : Type 0 where
  pub by_core : (core t : ℕ) → is_in m.by_core.map core t ≡ (is_some (f t) && t % cores == core)
  pub by_process : (p t : ℕ) → is_in m.by_process.map p t ≡ is_of p (f t)

-- one thread more can be listed
pub record HasListRoom (m : Members) : Type 0 where
  pub by_core : 1 ≤ m.by_core.spare
  pub by_process : 1 ≤ m.by_process.spare

-- ---- an event

-- A trap may end its thread, and make the next one; a message for a process that doesn't live may end a thread of it; a reap ends those that are left.
abbrev pub touched_by : Node → Event → Touched
touched_by node (Trap t) = Own t (pid (of_thread node t.0))
touched_by node (Intake p) = cond (is_living node p.0) Nothing (Group p)
touched_by node (Reap p) = Group p
touched_by node _ = Nothing

-- one thread may be made where the event is a trap
abbrev pub HasRoomToList : Touched → Members → Type 0
HasRoomToList (Own t p) m = HasListRoom m
HasRoomToList _ m = Unit {0}

-- the process of the thread where it is still there
abbrev pub if_left : Owners → Owners → Owners
if_left now f t = cond (is_some (now t)) (f t) None

-- without those of process p that are gone
abbrev pub without_gone : ℕ → Owners → Owners → Owners
without_gone p now f t = cond (is_of p (f t)) (if_left now f t) (f t)

-- the threads before and after
pub record OwnMoves (t p next : ℕ) (before now : Owners) : Type 0 where
  pub there : before t ≡ Some p
  pub fresh : before next ≡ None
  pub stays : (q : ℕ) → now t ≡ Some q → before t ≡ Some q
  pub moves : (u : ℕ) → now u ≡ with_owner t (now t) (with_owner next (now next) before) u

abbrev pub Moves : Touched → ℕ → Owners → Owners → Type 0
Moves (Own t p) next before now = OwnMoves t.0 p.0 next before now
Moves (Group p) next before now = (u : ℕ) → now u ≡ without_gone p.0 now before u
Moves Nothing next before now = (u : ℕ) → now u ≡ before u
