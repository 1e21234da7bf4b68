-- What a fork needs, and what it leaves beside what its event is handed.
use Rattle.file_model.specs.Files.{Files, share}
use Rattle.hybrid_model.specs.Globals.{Rising}
use Rattle.hybrid_model.specs.Sides.{Row, Side, new_side, no_lwk}
use Rattle.kernel_model.specs.Nodes.{has_process, thread_of}
use Rattle.kernel_tables.specs.Shown.{node_of}
use Rattle.lwk_side.specs.Cloning.{MayClone}
use Rattle.lwk_side.specs.Shown.{Rest}
use Rattle.lwk_side.specs.declared.kernel.Lwk.{Lwk}
use Rattle.mck_word.specs.Maps.{Map}
use Rattle.mck_word.specs.declared.Pid.{Pid}
use Rattle.std.specs.Prelude.{None, Option, Some, true, ℕ, ◌≡◌, ◌≤◌}

-- the thread is one of the process, which was made; there is room for a thread and a process, and the free frames rise
pub record MayFork (lwk : Lwk) (p t : ℕ) : Type 0 where
  pub clone : MayClone lwk.node t
  pub room : 1 ≤ lwk.node.processes.spare
  pub own : (files : Files) → (thread_of (node_of lwk.node files) t).process ≡ p
  pub there : (files : Files) → has_process (node_of lwk.node files) p ≡ true
  pub rising : Rising lwk.pool.free

-- a child has its parent's descriptors
abbrev pub shared : ℕ → Option Pid → Rest → Rest
shared p None r = r
shared p (Some q) r = record r { files = share p q.0 r.files }

-- the side of a child whose table has these rows
abbrev pub born_side : ℕ → Map Row → Side
born_side rings rows = record (new_side rings) { lwk = record no_lwk { table = rows } }

abbrev pub born_of : ℕ → Map Row → Option Pid → Option (ℕ × Side)
born_of rings rows None = None
born_of rings rows (Some q) = Some (q.0, born_side rings rows)
