-- Pin: a worker pins the frame that the mirror's row names.
-- Source: this project's own, after the idea of IHK/McKernel.
use Rattle.file_model.specs.Files.{Files}
use Rattle.hybrid_model.specs.Sides.{Book, LinuxSide, Row, served}
use Rattle.hybrid_model.specs.Workers.{is_free_to_act, kind_for, row_for}
use Rattle.kernel_model.specs.Progress.{is_ready, next_piece}
use Rattle.mck_word.specs.Maps.{put}
use Rattle.std.specs.Prelude.{Bool, None, Option, Some, false, is_some, ℕ, ◌&&◌}

abbrev pub may_pin : LinuxSide → Book → Files → ℕ → Bool
may_pin l b files w = is_free_to_act l b w && is_ready (kind_for l files w) && is_some (row_for l w)

abbrev pub pinned : LinuxSide → ℕ → Option Row → LinuxSide
pinned l w None = l
pinned l w (Some row) = record l { pins = put l.pins w (record { page = (next_piece (served l w).progress).page; frame = row.0; rights = row.1; copied = false }) }

unfoldable pub pin : LinuxSide → ℕ → LinuxSide
pin l w = pinned l w (row_for l w)
