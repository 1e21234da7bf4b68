use Rattle.kernel_model.specs.Layout.{strings}
use Rattle.std.specs.Prelude.{drop, ◌++◌, ◌≡◌}
use Rattle.one_memory.proofs.stack.string_bytes.Given as goal

-- the strings from the index on are left
abbrev pub invariant-loop-argument : goal.invariant-loop-argument
invariant-loop-argument l = l.bytes.items ++ strings (drop l.argument-index l.arguments) ≡ strings l.arguments
