-- The processes of the lightweight kernel's events, and the memory that they need.
use Rattle.file_model.specs.Files.{Files}
use Rattle.hybrid_laws.specs.EventKinds.{is_of_linux}
use Rattle.hybrid_model.specs.Events.{of_thread, process_of_event}
use Rattle.hybrid_model.specs.Sides.{Row}
use Rattle.hybrid_model.specs.declared.events.Event.{Event}
use Rattle.hybrid_model.specs.declared.events.Event.TheVariants.{BeginVm, Intake, Trap}
use Rattle.ikc_ring.specs.declared.Msg.TheVariants.{Ack}
use Rattle.ikc_ring.specs.declared.Msg.{Msg}
use Rattle.kernel_model.specs.Nodes.{Node, change_in, process_of, thread_of}
use Rattle.kernel_model.specs.Traps.{trap}
use Rattle.kernel_tables.specs.Shown.{node_of}
use Rattle.lwk_side.specs.Acks.{IfAck}
use Rattle.lwk_side.specs.Changing.{HasAckRoom, HasTrappedRoom, changing_in}
use Rattle.lwk_space.specs.Lacks.{memory}
use Rattle.lwk_views.specs.Views.{seen}
use Rattle.mck_word.specs.Maps.{Map, at}
use Rattle.mck_word.specs.declared.PageRange.{PageRange}
use Rattle.pair_core.specs.declared.parts.Parts.{Parts}
use Rattle.pair_core.specs.declared.parts.Side.{Side}
use Rattle.std.specs.Prelude.{Bool, List, None, Option, Some, cond, false, length, true, ℕ, ◌+◌, ◌<◌, ◌^◌, ◌≡◌, ◌≤◌, ◌∷◌}

-- the process of an event of the lightweight kernel
abbrev pub kernel_process : Node → Event → Option ℕ
kernel_process node e = cond (is_of_linux e) None (Some (process_of_event node e))

-- the first message is an acknowledgement
abbrev pub is_ack_first : List Msg → Bool
is_ack_first (Ack ∷ ms) = true
is_ack_first _ = false

-- a process's row has room for a call
abbrev pub HasCallRoom : {T : Type 0} → Side T → Type 0
HasCallRoom s = (1 ≤ s.channel.book.spare) × (1 ≤ s.task.callers.spare)

-- a round more of the process can be counted
pub record HasCount {T F : Type 0} (x : Parts T F) (p : ℕ) : Type 0 where
  pub few : (s : Side T) → at x.sides.map p ≡ Some s → s.task.begun + 1 < 2 ^ 64

module _ {T F : Type 0} (rows : T → Map Row) (has_room : T → List PageRange → Type 0) where
  -- there is room for the change of memory that the trap of thread t makes at once
  abbrev pub HasChangeRoom : Parts T F → ℕ → ℕ → Side T → Type 0
  HasChangeRoom x p t s =
      (files : Files) → HasTrappedRoom (has_room s.task.space.table) s.task.space.areas.spare p (trap t (length x.lwk.pool.free) (seen (rows s.task.space.table) x.lwk.node x.lwk.frames files))

  -- a thread of the process may begin a call, fall asleep, begin a thread or change the memory
  pub record HasTrapRoom (x : Parts T F) (p t : ℕ) : Type 0 where
    pub sleeper : 1 ≤ x.lwk.node.sleepers.spare
    pub thread : 1 ≤ x.lwk.node.threads.spare
    pub call : (s : Side T) → at x.sides.map p ≡ Some s → HasCallRoom s
    pub change : (s : Side T) → at x.sides.map p ≡ Some s → HasChangeRoom x p t s

  -- there is room for the change of the round, where its end is taken
  abbrev pub HasRoundRoom : Parts T F → ℕ → Side T → Type 0
  HasRoundRoom x p s =
      IfAck s.channel.to_lwk.items ((files : Files) → HasAckRoom (has_room s.task.space.table) s.task.space.areas.spare (process_of (node_of x.lwk.node files) p) (memory (rows s.task.space.table) x.lwk.frames) (length x.lwk.pool.free)
      (change_in (thread_of (node_of x.lwk.node files) (changing_in s.task.changing)).does))

  -- there is room for the event
  abbrev pub HasKernelRoom : (F → Files) → Event → Parts T F → Type 0
  HasKernelRoom files (Trap t) x = HasTrapRoom x (of_thread (node_of x.lwk.node (files x.files)) t.0) t.0
  HasKernelRoom files (Intake p) x = (s : Side T) → at x.sides.map p.0 ≡ Some s → HasRoundRoom x p.0 s
  HasKernelRoom files (BeginVm t) x = HasCount x (of_thread (node_of x.lwk.node (files x.files)) t.0)
  HasKernelRoom files _ x = Unit {0}
