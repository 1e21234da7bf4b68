-- Copy: a worker moves a piece between its pinned frame and the files.
-- Source: this project's own, after the idea of IHK/McKernel.
use Rattle.file_model.specs.Files.{Files}
use Rattle.hybrid_model.specs.Pairs.{Here}
use Rattle.hybrid_model.specs.Sides.{Book, LinuxSide, pin_of, served}
use Rattle.hybrid_model.specs.Spaces.{frame_bytes}
use Rattle.hybrid_model.specs.Workers.{call_stepped, holds, kind_for, stepped}
use Rattle.kernel_model.specs.Progress.{After, Moved, is_ready, move_piece}
use Rattle.mck_word.specs.Maps.{at, put}
use Rattle.page_pins.specs.declared.Pin.{Pin}
use Rattle.std.specs.Prelude.{Bool, List, None, Option, Some, false, not, true, ℕ, ◌&&◌}

abbrev pub is_uncopied : Option Pin → Bool
is_uncopied None = false
is_uncopied (Some x) = not x.copied

abbrev pub may_copy : LinuxSide → Book → Files → ℕ → Bool
may_copy l b files w = is_uncopied (at l.pins w) && holds l b w && is_ready (kind_for l files w)

-- what the copy moves, over the bytes of the pinned frame
unfoldable pub moved_by : ℕ → LinuxSide → Files → ℕ → List ℕ → Moved
moved_by p l files w bytes = move_piece (served l w).progress files p bytes

unfoldable pub copied : LinuxSide → ℕ → After → LinuxSide
copied l w a = record (stepped l w a) { pins = put l.pins w (record (pin_of l w) { copied = true }) }

abbrev pub copy_to : ℕ → ℕ → ℕ → Moved → Here → Here
copy_to p w f m h = record (call_stepped p w m.after (copied h.side.linux w m.after) h) { frames = put h.frames f m.page }

unfoldable pub copy : ℕ → ℕ → Here → Here
copy p w h =
    let f = (pin_of h.side.linux w).frame.0 in
    copy_to p w f (moved_by p h.side.linux h.node.files w (frame_bytes h.frames f)) h
