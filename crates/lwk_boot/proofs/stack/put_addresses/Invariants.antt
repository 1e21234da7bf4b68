use Rattle.frame_mem.specs.Pages.{written}
use Rattle.kernel_model.specs.Layout.{addresses_from, strings}
use Rattle.mck_word.specs.Words.{little_endian}
use Rattle.std.specs.Prelude.{drop, flat_map, length, ◌*◌, ◌+◌, ◌≡◌}
use Rattle.lwk_boot.proofs.stack.put_addresses.Given as goal

-- the addresses from the index on are left
abbrev pub invariant-loop-argument : goal.invariant-loop-argument
invariant-loop-argument l = record {
  left : written l.page l.at (flat_map (little_endian 8) (addresses_from l.address (drop l.argument-index l.arguments))) ≡ written l.fn.page l.place (flat_map (little_endian 8) (addresses_from l.first l.arguments));
  place : l.at ≡ l.place + 8 * l.argument-index;
  address : l.address + length (strings (drop l.argument-index l.arguments)) ≡ l.first + length (strings l.arguments);
  long : length l.page ≡ length l.fn.page;
}
