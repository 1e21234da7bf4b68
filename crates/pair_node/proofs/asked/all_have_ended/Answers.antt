use Rattle.kernel_model.specs.Nodes.{has_ended}
use Rattle.kernel_tables.specs.declared.process_rows.Process.{Process}
use Rattle.pair_node.proofs.Shows.{all-ended}
use Rattle.pair_node.proofs.asked.all_have_ended.Goals as goal
use Rattle.std.proofs.Common.{ap, sym, ◌∙◌}
use Rattle.std.specs.List.{list_all}
use Rattle.std.specs.Prelude.{ℕ}

pub returns : goal.returns
returns g c =
    c.all_ended.ensures ∙ ap (list_all (λ (e : ℕ × Process). has_ended e.1.life)) c.rows.ensures.rows
    ∙ sym (all-ended g.T.PageTable.rows g.F.FileStore.files c.args.parts.now)
