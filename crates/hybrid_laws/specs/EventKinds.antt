-- Which events are of the Linux side, and which of the lightweight kernel give no page a frame.
use Rattle.hybrid_model.specs.declared.events.Event.TheVariants as Events
use Rattle.hybrid_model.specs.declared.events.Event.{Event}
use Rattle.std.specs.Prelude.{Bool, false, true}

-- the events of the proxy's side
abbrev pub is_of_linux : Event → Bool
is_of_linux (Events.Run core t n) = false
is_of_linux (Events.Trap t) = false
is_of_linux (Events.Deliver t) = false
is_of_linux (Events.Intake q) = false
is_of_linux (Events.Answer q w) = false
is_of_linux (Events.BeginVm t) = false
is_of_linux (Events.Interrupt t) = false
is_of_linux (Events.Wait t) = false
is_of_linux (Events.Reap q) = false
is_of_linux (Events.Script i) = false
is_of_linux (Events.Fetch q r) = true
is_of_linux (Events.Assign q w) = true
is_of_linux (Events.Miss q w) = true
is_of_linux (Events.Pin q w) = true
is_of_linux (Events.Copy q w) = true
is_of_linux (Events.Unpin q w) = true
is_of_linux (Events.Act q w) = true
is_of_linux (Events.Park q w) = true
is_of_linux (Events.Unpark q n) = true
is_of_linux (Events.Finish q w) = true
is_of_linux (Events.AckClear q) = true

-- Run, Deliver, Answer, BeginVm, Interrupt, Wait, Reap and Script
abbrev pub is_quiet_lwk : Event → Bool
is_quiet_lwk (Events.Run core t n) = true
is_quiet_lwk (Events.Trap t) = false
is_quiet_lwk (Events.Deliver t) = true
is_quiet_lwk (Events.Intake q) = false
is_quiet_lwk (Events.Answer q w) = true
is_quiet_lwk (Events.BeginVm t) = true
is_quiet_lwk (Events.Interrupt t) = true
is_quiet_lwk (Events.Wait t) = true
is_quiet_lwk (Events.Reap q) = true
is_quiet_lwk (Events.Script i) = true
is_quiet_lwk (Events.Fetch q r) = false
is_quiet_lwk (Events.Assign q w) = false
is_quiet_lwk (Events.Miss q w) = false
is_quiet_lwk (Events.Pin q w) = false
is_quiet_lwk (Events.Copy q w) = false
is_quiet_lwk (Events.Unpin q w) = false
is_quiet_lwk (Events.Act q w) = false
is_quiet_lwk (Events.Park q w) = false
is_quiet_lwk (Events.Unpark q n) = false
is_quiet_lwk (Events.Finish q w) = false
is_quiet_lwk (Events.AckClear q) = false
