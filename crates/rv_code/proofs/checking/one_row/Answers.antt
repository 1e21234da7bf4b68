use Rattle.rv_code.proofs.Laws.{same-op}
use Rattle.rv_code.proofs.checking.one_row.Goals as goal

pub returns : goal.returns
returns c = same-op
