-- A worker of a proxy and its request: what several events of the Linux side ask and do.
-- Source: this project's own, after the idea of IHK/McKernel.
use Rattle.file_model.specs.Files.{Files}
use Rattle.file_model.specs.declared.operations.Readiness.{Readiness}
use Rattle.hybrid_model.specs.Pairs.{Here, with_node, with_side}
use Rattle.hybrid_model.specs.Sides.{Book, LinuxSide, Row, Service, looked_up, served, serves, state_of, with_service, with_state}
use Rattle.hybrid_model.specs.Turns.{give_up_turn}
use Rattle.kernel_model.specs.Nodes.{set_files}
use Rattle.kernel_model.specs.Progress.{After, needed_access, next_kind, next_piece}
use Rattle.mck_word.specs.Maps.{at}
use Rattle.request_book.specs.declared.ReqState.{ReqState}
use Rattle.request_book.specs.declared.ReqState.TheVariants.{Ended, Held, Parked, Replied}
use Rattle.std.specs.Prelude.{Bool, None, Option, Some, false, is_none, is_some, nat_lt, not, true, ℕ, ℤ, ◌&&◌}

-- the worker serves a request that is Held
abbrev pub is_held : ReqState → Bool
is_held Held = true
is_held _ = false

abbrev pub is_parked : ReqState → Bool
is_parked Parked = true
is_parked _ = false

abbrev pub is_ended_request : ReqState → Bool
is_ended_request Ended = true
is_ended_request _ = false

-- Ended or Replied
abbrev pub is_ended_or_replied : ReqState → Bool
is_ended_or_replied Ended = true
is_ended_or_replied Replied = true
is_ended_or_replied _ = false

abbrev pub is_idle : LinuxSide → ℕ → Bool
is_idle l w = is_none (at l.workers w)

abbrev pub holds : LinuxSide → Book → ℕ → Bool
holds l b w = is_some (at l.workers w) && is_held (state_of b (serves l w))

abbrev pub has_pin : LinuxSide → ℕ → Bool
has_pin l w = is_some (at l.pins w)

-- the worker holds a request and has no pin
abbrev pub is_free_to_act : LinuxSide → Book → ℕ → Bool
is_free_to_act l b w = holds l b w && not (has_pin l w)

abbrev pub kind_for : LinuxSide → Files → ℕ → Readiness
kind_for l files w = next_kind files (served l w).progress

-- the mirror's row for the next piece of the worker's request
abbrev pub row_for : LinuxSide → ℕ → Option Row
row_for l w = looked_up (at l.mirror (next_piece (served l w).progress).page) (needed_access (served l w).progress)

abbrev pub state_if : Option ℤ → ReqState
state_if None = Held
state_if (Some answer) = Ended

abbrev pub answer_if : Option ℤ → ℤ → ℤ
answer_if None before = before
answer_if (Some answer) before = answer

abbrev pub stepped_service : Service → After → Service
stepped_service k a = record k { progress = a.progress; answer = answer_if a.ended k.answer }

abbrev pub stepped : LinuxSide → ℕ → After → LinuxSide
stepped l w a = with_service l (serves l w) (stepped_service (served l w) a)

abbrev pub stepped_book : LinuxSide → Book → ℕ → After → Book
stepped_book l b w a = with_state b (serves l w) (state_if a.ended)

abbrev pub has_worker : Here → ℕ → Bool
has_worker h w = nat_lt w h.workers

abbrev pub with_linux : LinuxSide × Book → Here → Here
with_linux x h = with_side h (record h.side { linux = x.0; book = x.1 })

-- the request and the files after a step of the call of worker w
abbrev pub call_stepped : ℕ → ℕ → After → LinuxSide → Here → Here
call_stepped p w a l h =
    with_node (with_side (give_up_turn p w h) (record h.side { linux = l; book = stepped_book h.side.linux h.side.book w a })) (set_files a.files h.node)
