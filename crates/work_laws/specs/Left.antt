-- What is left to do, as one number of the state.
use Rattle.hybrid_laws.specs.Stopped.{stops}
use Rattle.hybrid_model.specs.Events.{after}
use Rattle.hybrid_model.specs.Run.{left_of_limit}
use Rattle.hybrid_model.specs.Pairs.{Pair}
use Rattle.hybrid_model.specs.Shown.{one}
use Rattle.hybrid_model.specs.declared.events.Event.{Event}
use Rattle.kernel_model.specs.Nodes.{Node, most_processes}
use Rattle.mck_word.specs.Maps.{total}
use Rattle.run_model.specs.Work.{counts_as_work, if_so, pays}
use Rattle.std.specs.Prelude.{ℕ, length, ◌*◌, ◌+◌, ◌≤◌}
use Rattle.work_laws.specs.KernelLeft.{Prices, kernel_left}
use Rattle.work_laws.specs.Weights.{any_change, of_change, sides_left}

-- for given prices: of the one-kernel state that is shown, and of the sides
abbrev pub left_in : Prices → Pair → ℕ
left_in k pair = kernel_left k (one pair) + sides_left pair

-- The prices for so many processes at most. A step of a call, a change of memory and the end of a process each pay for what the sides may count more by it.
abbrev pub prices : ℕ → Prices
prices most = record { step = any_change * most + 1; change = of_change 4; process = any_change * most + 2 }

abbrev pub left_to_do : ℕ → Pair → ℕ
left_to_do most pair = left_in (prices most) pair

-- what a trap, or a line of the script, may add at most
abbrev pub price_of_trap : ℕ → ℕ
price_of_trap most = 65_536 * most

-- an event that is work lessens it, and one that is paid adds so much at most
abbrev pub Lessens : ℕ → Pair → Event → Type 0
Lessens most pair e = left_to_do most (after pair e) + if_so (counts_as_work e) ≤ left_to_do most pair + price_of_trap most * pays e

-- the threads that are Stopped, each of which may trap, and the lines of the script that are unsent
abbrev pub may_be_paid : Node → ℕ
may_be_paid node = total stops node.threads + length node.unsent

-- With what may still be added. An instruction that is left of the limit may stop a thread, which then traps.
abbrev pub left : Pair → ℕ
left pair =
    (price_of_trap most_processes + 1) * left_of_limit pair.node
    + price_of_trap most_processes * may_be_paid pair.node
    + left_to_do most_processes pair
