use Rattle.mck_word.proofs.PieceLists.{pieces-are}
use Rattle.mck_word.proofs.cut.Pieces.over.Goals as goal

pub returns : goal.returns
returns c = pieces-are c.args.addr c.args.len
