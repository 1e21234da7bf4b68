use Rattle.std.proofs.Common.{Bool, not, true, false, refl, ◌≡◌, ap, ◌∙◌, sym}
use Rattle.mck_word.specs.Pages.{in_range}
use Rattle.page_pins.specs.Pins.{no_pin_in}
use Rattle.page_pins.proofs.Slotted.{each-slots}
use Rattle.page_pins.proofs.Pins.in_range.Goals as goal

twice : (b : Bool) → not (not b) ≡ b
twice true = refl
twice false = refl

pub returns : goal.returns
returns c =
    twice c.all_miss.result ∙ c.all_miss.ensures ∙ sym (each-slots (λ p. not (in_range (record { lo = c.args.lo; hi = c.args.hi }) p.page)) c.self.inside.slots)
    ∙ ap (no_pin_in (record { lo = c.args.lo; hi = c.args.hi })) c.self.view_is
