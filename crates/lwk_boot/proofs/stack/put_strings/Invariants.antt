use Rattle.frame_mem.specs.Pages.{written}
use Rattle.kernel_model.specs.Layout.{strings}
use Rattle.std.specs.Prelude.{drop, length, ◌+◌, ◌≡◌}
use Rattle.lwk_boot.proofs.stack.put_strings.Given as goal

-- the strings from the index on are left
abbrev pub invariant-loop-argument : goal.invariant-loop-argument
invariant-loop-argument l = record {
  left : written l.page l.at (strings (drop l.argument-index l.arguments)) ≡ written l.fn.page l.place (strings l.arguments);
  place : l.at + length (strings (drop l.argument-index l.arguments)) ≡ l.place + length (strings l.arguments);
  long : length l.page ≡ length l.fn.page;
}
