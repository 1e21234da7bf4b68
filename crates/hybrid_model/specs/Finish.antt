-- Finish: a worker replies to its request, which has ended.
-- Source: this project's own, after the idea of IHK/McKernel.
use Rattle.hybrid_model.specs.Pairs.{Here, with_side}
use Rattle.hybrid_model.specs.Sides.{Book, LinuxSide, served, serves, state_of}
use Rattle.hybrid_model.specs.Workers.{has_pin, is_ended_request}
use Rattle.ikc_ring.specs.declared.Msg.{Msg}
use Rattle.ikc_ring.specs.declared.Msg.TheVariants.{Reply}
use Rattle.mck_word.specs.Maps.{at, cut}
use Rattle.std.specs.Prelude.{Bool, [], is_some, not, ℕ, ◌&&◌, ◌++◌, ◌∷◌}

abbrev pub may_finish : LinuxSide → Book → ℕ → Bool
may_finish l b w = is_some (at l.workers w) && is_ended_request (state_of b (serves l w)) && not (has_pin l w)

unfoldable pub finish : LinuxSide → Book → ℕ → LinuxSide × Book
finish l b w =
    (record l { workers = cut l.workers w; services = cut l.services (serves l w) }, record b { rows = cut b.rows (serves l w) })

abbrev pub reply_of : LinuxSide → ℕ → Msg
reply_of l w = Reply (record { 0 = serves l w }) (served l w).answer

unfoldable pub finish_here : ℕ → Here → Here
finish_here w h =
    let x = finish h.side.linux h.side.book w in
    with_side h (record h.side { linux = x.0; book = x.1; to_lwk = h.side.to_lwk ++ reply_of h.side.linux w ∷ [] })
