use Rattle.frame_mem.specs.Pages.{written}
use Rattle.mck_word.specs.Words.{little_endian}
use Rattle.std.specs.Prelude.{drop, flat_map, length, ◌*◌, ◌+◌, ◌≡◌}
use Rattle.lwk_boot.proofs.stack.put_words.Given as goal

-- the words from the index on are left
abbrev pub invariant-loop-word : goal.invariant-loop-word
invariant-loop-word l = record {
  left : written l.page l.at (flat_map (little_endian 8) (drop l.word-index l.words)) ≡ written l.fn.page l.place (flat_map (little_endian 8) l.words);
  place : l.at ≡ l.place + 8 * l.word-index;
  long : length l.page ≡ length l.fn.page;
}
