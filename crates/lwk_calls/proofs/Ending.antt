-- exit, over the number of the process and the address that it clears.
use Rattle.kernel_model.specs.LocalCalls.{exits}
use Rattle.kernel_model.specs.Nodes.{thread_of}
use Rattle.kernel_model.specs.Signals.{View, on_node}
use Rattle.lwk_calls.specs.Words.{cleared, leaves}
use Rattle.std.specs.Prelude.{ℕ, ◌≡◌}

pub exits_is : (t code p address : ℕ) (v : View) → p ≡ (thread_of v.node t).process → address ≡ (thread_of v.node t).clear_address
    → on_node (leaves t p code) (cleared p address v) ≡ exits t code v
exits_is t code p address v e h = λ i. on_node (leaves t (e i) code) (cleared (e i) (h i) v)
