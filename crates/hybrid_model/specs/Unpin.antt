-- Unpin: a worker lets its frame go.
-- Source: this project's own, after the idea of IHK/McKernel.
use Rattle.file_model.specs.Files.{Files}
use Rattle.hybrid_model.specs.Sides.{Book, LinuxSide}
use Rattle.hybrid_model.specs.Workers.{has_pin, holds, kind_for}
use Rattle.kernel_model.specs.Progress.{is_ready}
use Rattle.mck_word.specs.Maps.{at, cut}
use Rattle.page_pins.specs.declared.Pin.{Pin}
use Rattle.std.specs.Prelude.{Bool, None, Option, Some, false, not, ℕ, ◌&&◌, ◌||◌}

abbrev pub is_copied : Option Pin → Bool
is_copied None = false
is_copied (Some x) = x.copied

abbrev pub may_unpin : LinuxSide → Book → Files → ℕ → Bool
may_unpin l b files w = has_pin l w && (is_copied (at l.pins w) || not (holds l b w && is_ready (kind_for l files w)))

unfoldable pub unpin : LinuxSide → ℕ → LinuxSide
unpin l w = record l { pins = cut l.pins w }
