use Rattle.kernel_model.specs.Layout.{strings}
use Rattle.std.specs.Prelude.{drop, length, ◌+◌, ◌≡◌}
use Rattle.one_memory.proofs.stack.first_string.Given as goal

-- the strings from the index on are left
abbrev pub invariant-loop-argument : goal.invariant-loop-argument
invariant-loop-argument l = l.len + length (strings (drop l.argument-index l.arguments)) ≡ length (strings l.arguments)
