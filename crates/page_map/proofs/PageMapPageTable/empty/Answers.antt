use Rattle.key_rows.specs.Table.{Table}
use Rattle.page_map.specs.Tables.{IsBelow}
use Rattle.page_map.proofs.Below.{Below-none}
use Rattle.std.proofs.Common.{ap, subst, sym}
use Rattle.page_map.proofs.PageMapPageTable.empty.Goals as goal

pub invariant_of-result : goal.invariant_of-result
invariant_of-result c = subst (λ t. IsBelow t.map) (sym c.new.ensures) Below-none
