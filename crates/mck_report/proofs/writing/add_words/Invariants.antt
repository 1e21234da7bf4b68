use Rattle.std.proofs.Common.{◌≡◌, ◌++◌, flat_map, take}
use Rattle.mck_report.specs.Writing.{spaced_token}
use Rattle.mck_report.proofs.writing.add_words.Given as goal

abbrev pub invariant-loop-token : goal.invariant-loop-token
invariant-loop-token l = l.text ≡ l.fn.text ++ l.word ++ flat_map spaced_token (take l.token-index l.more)
