-- AckClear: the proxy acknowledges a clear, once no pin lies in its range.
-- Source: this project's own, after the idea of IHK/McKernel.
use Rattle.clear_rounds.specs.declared.Phase.TheVariants.{Acked, Taken}
use Rattle.hybrid_model.specs.Pairs.{Here, with_side}
use Rattle.hybrid_model.specs.Sides.{LinuxSide, Round, with_phase}
use Rattle.ikc_ring.specs.declared.Msg.TheVariants.{Ack}
use Rattle.mck_word.specs.Maps.{Map, each_row}
use Rattle.mck_word.specs.Pages.{in_range}
use Rattle.mck_word.specs.declared.PageRange.{PageRange}
use Rattle.page_pins.specs.declared.Pin.{Pin}
use Rattle.std.specs.Prelude.{Bool, Option, Some, [], false, not, ◌++◌, ◌∷◌}

abbrev pub no_pin_in : PageRange → Map Pin → Bool
no_pin_in r pins = each_row (λ w (x : Pin). not (in_range r x.page)) pins

abbrev pub clear_in : Option Round → LinuxSide → Bool
clear_in (Some (Taken, r)) l = no_pin_in r l.pins
clear_in _ l = false

abbrev pub may_ack_clear : LinuxSide → Option Round → Bool
may_ack_clear l o = clear_in o l

unfoldable pub ack_clear : Here → Here
ack_clear h = with_side h (record h.side { round = with_phase h.side.round Acked; to_lwk = h.side.to_lwk ++ Ack ∷ [] })
