use Rattle.one_kernel.proofs.summary.ends.Goals as goal
use Rattle.hybrid_laws.proofs.memory.Written.{each-entry}
use Rattle.hybrid_model.specs.Tallies.{Each}
use Rattle.kernel_tables.specs.declared.process_rows.Process.{Process}
use Rattle.mck_word.specs.Maps.{at}
use Rattle.one_kernel.proofs.Summed.{ends-all}
use Rattle.one_kernel.specs.Summed.{end_at}
use Rattle.std.proofs.Common.{Some, map, subst, sym, ℕ, ◌++◌, ◌∙◌, ◌≡◌}

pub loop-row-init : goal.loop-row-init
loop-row-init c = record {
  left = (λ i. c.new-ends.ensures i ++ map end_at (c.rows-rest.ensures.rows i));
  found = subst (Each (λ (e : ℕ × Process). at c.args.processes.now.map e.0 ≡ Some e.1)) (sym c.rows-rest.ensures.rows) (each-entry c.args.processes.now.map);
}

pub returns : goal.returns
returns c = ends-all c.loop-row.ends c.loop-row.rest.now c.in_default.ensures.cases ∙ c.loop-row.invariant.left
