use Rattle.std.proofs.Common.{length, ◌≡◌, ap, arith, ◌∙◌}
use Rattle.kernel_model.specs.Signals.{words_in}
use Rattle.lwk_signals.proofs.FrameWords.{words-read}
use Rattle.lwk_signals.proofs.frames.get_words.Goals as goal

pub returns : goal.returns
returns c =
    let long : length c.read_u64_into.new.dst ≡ length c.args.into.now = omega arith in
    words-read c.args.from.now c.read_u64_into.new.dst (omega arith) c.read_u64_into.ensures ∙ ap (λ n. words_in n c.args.from.now) long
