-- Assign: an idle worker takes the oldest of the requests that wait.
-- Source: this project's own, after the idea of IHK/McKernel.
use Rattle.hybrid_model.specs.Sides.{Book, LinuxSide, service_of, with_state}
use Rattle.hybrid_model.specs.Spaces.{first_number, rest_numbers}
use Rattle.hybrid_model.specs.Workers.{is_idle}
use Rattle.mck_word.specs.Maps.{put}
use Rattle.request_book.specs.declared.ReqState.TheVariants.{Held}
use Rattle.std.specs.Prelude.{Bool, length, not, ℕ, ◌&&◌, ◌==◌}

abbrev pub may_assign : LinuxSide → Book → ℕ → Bool
may_assign l b w = is_idle l w && not (length b.waiting == 0)

unfoldable pub assign : LinuxSide → Book → ℕ → LinuxSide × Book
assign l b w =
    let q = first_number b.waiting in (
      record l { workers = put l.workers w q; services = put l.services q (record (service_of l.services q) { worker = w }) },
      record (with_state b q Held) { waiting = rest_numbers b.waiting },
    )
