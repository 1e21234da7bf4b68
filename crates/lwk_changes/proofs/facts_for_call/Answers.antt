use Rattle.kernel_model.specs.MemoryCalls.{any_lessened, count_present}
use Rattle.lwk_changes.proofs.Shown.{memory-shown}
use Rattle.lwk_space.specs.Lacks.{memory}
use Rattle.std.proofs.Common.{◌≡◌, ap, subst, sym, ◌∙◌}
use Rattle.lwk_changes.proofs.facts_for_call.Goals as goal

pub returns-clause-describes : goal.returns-clause-describes
returns-clause-describes g c = λ p m pages b h e.
    let shows = memory-shown (g.T.PageTable.rows c.table.result.now) pages m (subst (λ t. m ≡ memory (g.T.PageTable.rows t) pages) (sym c.table.ensures) e) in
    let shows-next = memory-shown (g.T.PageTable.rows c.table-2.result.now) pages m (subst (λ t. m ≡ memory (g.T.PageTable.rows t) pages) (sym c.table-2.ensures) e) in
    record {
      program_break = b;
      base = h;
      present = c.count_present.ensures m shows ∙ ap (λ r. count_present m r) c.call_range-range.ensures;
      lessened = λ l. c.call_lessens.ensures m shows-next l ∙ (λ j. any_lessened m (c.call_range-range.ensures j) (c.rights_of-rights.ensures j));
      gap = c.gap_for.ensures.gap m (memory-shown (g.T.PageTable.rows c.args.own.now.table) pages m e);
    }
