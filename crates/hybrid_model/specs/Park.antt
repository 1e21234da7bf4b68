-- Park: a worker whose step isn't ready lets its request wait, or ends it where it was interrupted.
-- Source: this project's own, after the idea of IHK/McKernel.
use Rattle.file_model.specs.Files.{Files}
use Rattle.hybrid_model.specs.OneProcess.{one_step}
use Rattle.hybrid_model.specs.Pairs.{Here, with_node}
use Rattle.hybrid_model.specs.Sides.{Book, LinuxSide, served, serves, with_service, with_state}
use Rattle.hybrid_model.specs.Turns.{give_up_turn}
use Rattle.hybrid_model.specs.Workers.{is_free_to_act, kind_for, with_linux}
use Rattle.kernel_model.specs.Nodes.{set_files}
use Rattle.kernel_model.specs.Progress.{Progress, given_back, interrupted_answer, is_not_ready}
use Rattle.kernel_model.specs.declared.steps.Step.{Step}
use Rattle.kernel_model.specs.declared.steps.Step.TheVariants as Steps
use Rattle.mck_word.specs.Identifiers.{tid}
use Rattle.mck_word.specs.Maps.{cut}
use Rattle.request_book.specs.declared.ReqState.TheVariants.{Ended, Parked}
use Rattle.std.specs.Prelude.{Bool, List, false, true, ℕ, ◌&&◌}

abbrev pub may_park : LinuxSide → Book → Files → ℕ → Bool
may_park l b files w = is_free_to_act l b w && is_not_ready (kind_for l files w)

-- a request whose Interrupt was fetched ends here, with the bytes moved or -EINTR
unfoldable pub park_stops : LinuxSide → Book → ℕ → LinuxSide × Book
park_stops l b w =
    (with_service l (serves l w) (record (served l w) { answer = interrupted_answer (served l w).progress }), with_state b (serves l w) Ended)

unfoldable pub park_blocks : LinuxSide → Book → ℕ → LinuxSide × Book
park_blocks l b w = (record l { workers = cut l.workers w }, with_state b (serves l w) Parked)

abbrev pub parks : Bool → LinuxSide → Book → ℕ → LinuxSide × Book
parks true l b w = park_stops l b w
parks false l b w = park_blocks l b w

abbrev pub park : LinuxSide → Book → ℕ → LinuxSide × Book
park l b w = parks (served l w).interrupted l b w

abbrev pub files_if : Bool → Progress → Files → Files
files_if true p files = given_back p files
files_if false p files = files

abbrev pub files_after_park : LinuxSide → Files → ℕ → Files
files_after_park l files w = files_if (served l w).interrupted (served l w).progress files

unfoldable pub park_here : ℕ → ℕ → Here → Here
park_here p w h =
    with_node (with_linux (park h.side.linux h.side.book w) (give_up_turn p w h)) (set_files (files_after_park h.side.linux h.node.files w) h.node)

abbrev pub image_of_park : Bool → ℕ → List Step
image_of_park true t = one_step (Steps.Interrupted (tid t))
image_of_park false t = one_step (Steps.Block (tid t))
