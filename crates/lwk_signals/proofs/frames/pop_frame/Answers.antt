use Rattle.std.proofs.Common.{drop, append-nil, ◌∙◌, ◌∷◌}
use Rattle.lwk_signals.proofs.FrameWords.{words-take}
use Rattle.lwk_signals.proofs.frames.pop_frame.Goals as goal

pub returns-clause-registers : goal.returns-clause-registers
returns-clause-registers c = λ i. record { pc = c.word_in-pc.ensures i; x = 0 ∷ (append-nil c.get_words.new.into ∙ c.get_words.ensures ∙ words-take 31 (drop 8 c.args.from.now)) i }
