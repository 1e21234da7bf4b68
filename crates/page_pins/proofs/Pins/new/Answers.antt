use Rattle.page_pins.proofs.Slotted.{empty-slots}
use Rattle.page_pins.proofs.Pins.new.Goals as goal

pub returns : goal.returns
returns c = empty-slots 4
