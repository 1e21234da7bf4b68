-- The actions of a process, from signal 1 on.
use Rattle.kernel_model.specs.Nodes.{no_action}
use Rattle.kernel_model.specs.declared.Action.{Action}
use Rattle.std.specs.Prelude.{List, replicate, slice_index_or, slice_set, ℕ, ◌-◌}

abbrev pub signals : ℕ
signals = 64

abbrev pub no_actions : List Action
no_actions = replicate signals no_action

abbrev pub action_at : List Action → ℕ → Action
action_at actions signal = slice_index_or actions (signal - 1) no_action

abbrev pub with_action_at : List Action → ℕ → Action → List Action
with_action_at actions signal a = slice_set actions (signal - 1) a
