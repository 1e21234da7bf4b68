use Rattle.std.proofs.Common.{drop}
use Rattle.mck_word.specs.Words.{little_endian}
use Rattle.lwk_signals.proofs.FrameWords.{frame-parts}
use Rattle.lwk_signals.proofs.frames.push_frame.Goals as goal

pub returns : goal.returns
returns c = frame-parts (little_endian 8) c.args.r.now.pc c.args.mask.0 0 (drop 1 c.args.r.now.x) _ _ _ _ c.put_word.ensures c.put_registers.ensures c.put_word-2.ensures c.put_word-3.ensures
