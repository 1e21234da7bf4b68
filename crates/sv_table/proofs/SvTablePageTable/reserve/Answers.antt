use Rattle.std.proofs.Common.{None, get_or, sym, subst}
use Rattle.sv_table.proofs.SvTablePageTable.reserve.Goals as goal
use Rattle.sv_table.specs.Trees.{IsTree}

pub invariant_of-self : goal.invariant_of-self
invariant_of-self c = record {
  tree = subst (λ s. IsTree (λ key. get_or s key None)) (sym c.grow.ensures.same) c.self.invariant.tree;
  few = c.grow.ensures.few;
}
