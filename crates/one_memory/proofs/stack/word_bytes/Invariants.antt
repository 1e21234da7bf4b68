use Rattle.mck_word.specs.Words.{little_endian}
use Rattle.std.specs.Prelude.{drop, flat_map, ◌++◌, ◌≡◌}
use Rattle.one_memory.proofs.stack.word_bytes.Given as goal

-- the words from the index on are left
abbrev pub invariant-loop-word : goal.invariant-loop-word
invariant-loop-word l = l.bytes.items ++ flat_map (little_endian 8) (drop l.word-index l.words) ≡ flat_map (little_endian 8) l.words
