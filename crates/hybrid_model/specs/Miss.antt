-- Miss: a worker finds no row in the mirror for its next piece, and faults.
-- Source: this project's own, after the idea of IHK/McKernel.
use Rattle.file_model.specs.Files.{Files}
use Rattle.hybrid_model.specs.Pairs.{Here, with_side}
use Rattle.hybrid_model.specs.Sides.{Book, LinuxSide, served, serves, with_state}
use Rattle.hybrid_model.specs.Turns.{give_up_turn}
use Rattle.hybrid_model.specs.Workers.{is_free_to_act, kind_for, row_for}
use Rattle.ikc_ring.specs.declared.Msg.{Msg}
use Rattle.ikc_ring.specs.declared.Msg.TheVariants.{Fault}
use Rattle.kernel_model.specs.Progress.{is_ready, needed_access, next_piece}
use Rattle.request_book.specs.declared.ReqState.TheVariants.{Faulted}
use Rattle.std.specs.Prelude.{Bool, [], is_none, ℕ, ◌&&◌, ◌++◌, ◌∷◌}

abbrev pub may_miss : LinuxSide → Book → Files → ℕ → Bool
may_miss l b files w = is_free_to_act l b w && is_ready (kind_for l files w) && is_none (row_for l w)

-- the fault of a worker, for the page and the access of its next piece
abbrev pub fault_of : LinuxSide → ℕ → Msg
fault_of l w = Fault w (next_piece (served l w).progress).page (needed_access (served l w).progress)

unfoldable pub miss : ℕ → ℕ → Here → Here
miss p w h = with_side (give_up_turn p w h)
    (record h.side { book = with_state h.side.book (serves h.side.linux w) Faulted; to_lwk = h.side.to_lwk ++ fault_of h.side.linux w ∷ [] })
