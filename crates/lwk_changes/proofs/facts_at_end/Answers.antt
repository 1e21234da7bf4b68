use Rattle.kernel_model.specs.MemoryCalls.{count_present}
use Rattle.lwk_changes.proofs.Shown.{memory-shown}
use Rattle.lwk_space.specs.Lacks.{memory}
use Rattle.std.proofs.Common.{◌≡◌, ap, subst, sym, ◌∙◌}
use Rattle.lwk_changes.proofs.facts_at_end.Goals as goal

pub returns-clause-describes : goal.returns-clause-describes
returns-clause-describes g c = λ p m pages b e. record {
  program_break = b;
  present = c.count_present.ensures m (memory-shown (g.T.PageTable.rows c.table.result.now) pages m (subst (λ t. m ≡ memory (g.T.PageTable.rows t) pages) (sym c.table.ensures) e)) ∙ ap (λ r. count_present m r) c.change_range.ensures;
}
