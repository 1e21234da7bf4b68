-- What the intake of an acknowledgement finds.
use Rattle.clear_rounds.specs.Round.{phase_of}
use Rattle.clear_rounds.specs.declared.Phase.TheVariants.{Acked}
use Rattle.file_model.specs.Files.{Files}
use Rattle.hybrid_model.specs.Sides.{Row}
use Rattle.ikc_channel.specs.declared.Channel.{Channel}
use Rattle.ikc_ring.specs.declared.Msg.TheVariants.{Ack}
use Rattle.ikc_ring.specs.declared.Msg.{Msg}
use Rattle.kernel_model.specs.Nodes.{change_in, process_of, thread_of}
use Rattle.kernel_tables.specs.Shown.{node_of}
use Rattle.lwk_side.specs.Changing.{HasAckRoom, HeapFits, changing_in}
use Rattle.lwk_side.specs.Sound.{IsSound}
use Rattle.lwk_side.specs.declared.kernel.Lwk.{Lwk}
use Rattle.lwk_side.specs.declared.task.Task.{Task}
use Rattle.lwk_space.specs.Lacks.{memory}
use Rattle.mck_word.specs.Maps.{Map}
use Rattle.mck_word.specs.declared.PageRange.{PageRange}
use Rattle.offer_laws.specs.ChangeFits.{NodeFits}
use Rattle.std.specs.Prelude.{List, Some, length, ℕ, ◌∷◌, ◌≡◌}

-- the round of process p was acknowledged, its frames are sound, its heap and the changes that wait are in their bounds, and there is room for the change of the round
pub record FindsAck {T : Type 0} (rows : Map Row) (has_room : List PageRange → Type 0) (lwk : Lwk) (task : Task T) (channel : Channel) (p : ℕ) : Type 0 where
  pub sound : IsSound lwk rows
  pub acked : phase_of channel.round ≡ Some Acked
  pub heap : (files : Files) → HeapFits (process_of (node_of lwk.node files) p)
  pub fits : (files : Files) → NodeFits (node_of lwk.node files)
  pub room : (files : Files) → HasAckRoom has_room task.space.areas.spare (process_of (node_of lwk.node files) p) (memory rows lwk.frames) (length lwk.pool.free) (change_in (thread_of (node_of lwk.node files) (changing_in task.changing)).does)

-- where the first message is an acknowledgement
abbrev pub IfAck : List Msg → Type 0 → Type 0
IfAck (Ack ∷ ms) X = X
IfAck _ X = Unit {0}
