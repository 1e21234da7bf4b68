use Rattle.std.proofs.Common.{[], ap, ◌++◌, ◌∙◌, ◌∷◌}
use Rattle.mck_report.proofs.Lines.{line_bytes}
use Rattle.mck_report.proofs.writing.add_line.Goals as goal

pub returns : goal.returns
returns c = c.in_ok-push.ensures.ok ∙ (ap (λ text. text ++ 10 ∷ []) c.in_ok-add_words.ensures ∙ line_bytes c.args.text.now c.args.word.now c.args.more.now)
