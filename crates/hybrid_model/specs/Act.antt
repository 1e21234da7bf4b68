-- Act: a worker makes the file step of its call.
-- Source: this project's own, after the idea of IHK/McKernel.
use Rattle.file_model.specs.Files.{Files}
use Rattle.hybrid_model.specs.Pairs.{Here}
use Rattle.hybrid_model.specs.Sides.{Book, LinuxSide, served}
use Rattle.hybrid_model.specs.Workers.{call_stepped, is_free_to_act, kind_for, stepped}
use Rattle.kernel_model.specs.Progress.{After, is_file_step, take_file_step}
use Rattle.std.specs.Prelude.{Bool, ℕ, ◌&&◌}

abbrev pub may_act : LinuxSide → Book → Files → ℕ → Bool
may_act l b files w = is_free_to_act l b w && is_file_step (kind_for l files w)

unfoldable pub acted : ℕ → LinuxSide → Files → ℕ → After
acted p l files w = take_file_step (served l w).progress files p

unfoldable pub act_file : ℕ → ℕ → Here → Here
act_file p w h = let a = acted p h.side.linux h.node.files w in call_stepped p w a (stepped h.side.linux w a) h
