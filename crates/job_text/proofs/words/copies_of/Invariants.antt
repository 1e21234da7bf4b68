use Rattle.std.proofs.Common.{◌≡◌, map, take}
use Rattle.job_text.proofs.words.copies_of.Given as goal

abbrev pub invariant-loop-word : goal.invariant-loop-word
invariant-loop-word l = l.args ≡ map (λ x. x.now) (take l.word-index l.words)
