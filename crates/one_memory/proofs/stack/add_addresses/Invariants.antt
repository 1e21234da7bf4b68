use Rattle.kernel_model.specs.Layout.{addresses_from, strings}
use Rattle.std.specs.Prelude.{drop, length, ◌+◌, ◌++◌, ◌≡◌}
use Rattle.one_memory.proofs.stack.add_addresses.Given as goal

-- the addresses from the index on are left
abbrev pub invariant-loop-argument : goal.invariant-loop-argument
invariant-loop-argument l = record {
  left : l.words.items ++ addresses_from l.address (drop l.argument-index l.arguments) ≡ l.fn.words.items ++ addresses_from l.first l.arguments;
  address : l.address + length (strings (drop l.argument-index l.arguments)) ≡ l.first + length (strings l.arguments);
}
