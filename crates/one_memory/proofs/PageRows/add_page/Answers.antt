use Rattle.one_memory.proofs.Paging.{low-add}
use Rattle.one_memory.specs.Pages.{AreLow}
use Rattle.std.proofs.Common.{arith, subst, sym}
use Rattle.one_memory.proofs.PageRows.add_page.Goals as goal

pub invariant_of-self : goal.invariant_of-self
invariant_of-self c = record {
  room = omega (arith, c.in-Some.ensures.cases, c.put.ensures.takes, c.self.invariant.room);
  low = subst AreLow (sym c.put.ensures.row) (low-add c.self.inside.rows.map c.args.page _ c.requires.below c.self.invariant.low);
}
