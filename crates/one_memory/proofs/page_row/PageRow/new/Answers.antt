use Rattle.isa_model.specs.Memory.{Page}
use Rattle.std.proofs.Common.{ap, List, ℕ}
use Rattle.one_memory.proofs.page_row.PageRow.new.Goals as goal

pub returns : goal.returns
returns c = ap (λ (b : List ℕ). let g : Page = record { rights = c.args.rights; bytes = b } in g) c.in_ok-bytes.ensures.ok
