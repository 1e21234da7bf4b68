use Rattle.kernel_tables.specs.declared.script_lines.ScriptLine.{ScriptLine}
use Rattle.pair_node.proofs.Shows.{unsent-at}
use Rattle.pair_node.proofs.asked.unsent.Goals as goal
use Rattle.std.proofs.Common.{ap, sym, ◌∙◌}
use Rattle.std.specs.Prelude.{List, option_map, slice_get}

pub returns-clause-value : goal.returns-clause-value
returns-clause-value g c =
    c.index_at.ensures.value ∙ ap (λ (ls : List ScriptLine). option_map (λ (l : ScriptLine). l.index) (slice_get ls c.args.place)) c.deref.ensures.value
    ∙ sym (unsent-at g.T.PageTable.rows g.F.FileStore.files c.args.parts.now c.args.place)
