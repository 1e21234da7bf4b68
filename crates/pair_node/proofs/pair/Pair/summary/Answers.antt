use Rattle.kernel_tables.specs.Shown.{node_of}
use Rattle.kernel_tables.specs.declared.script_lines.ScriptLine.{ScriptLine}
use Rattle.pair_core.specs.Shown.{pair_of}
use Rattle.pair_node.proofs.Summed.{ends-are, lines-are}
use Rattle.pair_node.proofs.pair.Pair.summary.Goals as goal
use Rattle.std.proofs.Common.{ap, ◌∙◌}
use Rattle.std.specs.Prelude.{map}

pub returns : goal.returns
unfolding pair_of node_of
returns g c =
    let pair = pair_of g.T.PageTable.rows g.F.FileStore.files c.args.self.now.parts in
    let files = g.F.FileStore.files c.args.self.now.parts.files in
    λ i. record {
      ends = (c.in_ok-ends.ensures ∙ ends-are pair.node c.pids.result.now c.pids.ensures) i;
      outputs = c.in_ok-outputs.ensures i;
      paths = c.in_ok-paths.ensures i;
      unsent = (c.in_ok-lines_of.ensures ∙ ap (map (λ (l : ScriptLine). l.line)) c.deref.ensures.value ∙ lines-are c.args.self.now.parts.lwk.node.unsent.items) i;
      instructions = c.instructions_in_all.ensures.is files i;
      free = c.free.ensures i;
    }
