-- Unpark: a parked request that can go on waits for a worker again.
-- Source: this project's own, after the idea of IHK/McKernel.
use Rattle.file_model.specs.Files.{Files}
use Rattle.hybrid_model.specs.Pairs.{Here, with_side}
use Rattle.hybrid_model.specs.Sides.{Book, LinuxSide, Side, Turn, call_of, service_of, state_of, with_state}
use Rattle.hybrid_model.specs.Turns.{other_has_turn, pipe_end, with_turn}
use Rattle.hybrid_model.specs.Workers.{is_parked}
use Rattle.kernel_model.specs.Progress.{is_file_step, is_ready, next_kind}
use Rattle.mck_word.specs.Maps.{Map}
use Rattle.request_book.specs.declared.ReqState.TheVariants.{Waiting}
use Rattle.std.specs.Prelude.{Bool, [], cond, not, ℕ, ◌&&◌, ◌++◌, ◌||◌, ◌∷◌}

-- its step is ready, and no other request has the turn of that end
abbrev pub may_take_turn : ℕ → LinuxSide → Files → Map Turn → ℕ → Bool
may_take_turn p l files turns q =
    let k = service_of l.services q in
    is_ready (next_kind files k.progress) && not (other_has_turn turns (pipe_end files k.progress) p q)

abbrev pub may_unpark : ℕ → LinuxSide → Book → Files → Map Turn → ℕ → Bool
may_unpark p l b files turns q =
    let k = service_of l.services q in
    is_parked (state_of b q) && (k.interrupted || is_file_step (next_kind files k.progress) || may_take_turn p l files turns q)

unfoldable pub unpark : Book → ℕ → Book
unpark b q = record (with_state b q Waiting) { waiting = b.waiting ++ q ∷ [] }

unfoldable pub turns_after_unpark : ℕ → LinuxSide → Files → Map Turn → ℕ → Map Turn
turns_after_unpark p l files turns q =
    cond (may_take_turn p l files turns q) (with_turn p q (pipe_end files (service_of l.services q).progress) turns) turns

unfoldable pub unpark_here : ℕ → ℕ → Here → Here
unpark_here p q h =
    record (with_side h (record h.side { book = unpark h.side.book q })) { turns = turns_after_unpark p h.side.linux h.node.files h.turns q }

abbrev pub thread_of_request : Side → ℕ → ℕ
thread_of_request s q = (call_of s.book q).tid.0
