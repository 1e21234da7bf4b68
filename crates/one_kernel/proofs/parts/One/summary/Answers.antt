use Rattle.kernel_tables.specs.Shown.{node_of}
use Rattle.kernel_tables.specs.declared.script_lines.ScriptLine.{ScriptLine}
use Rattle.one_files.specs.Seen.{seen}
use Rattle.one_kernel.proofs.Summed.{ends-are, lines-are}
use Rattle.one_kernel.proofs.parts.One.summary.Goals as goal
use Rattle.one_kernel.specs.Parts.{one_of}
use Rattle.std.proofs.Common.{ap, ◌∙◌}
use Rattle.std.specs.Prelude.{map}

pub returns : goal.returns
unfolding one_of node_of
returns c =
    let x = c.args.self.now in
    λ i. record {
      ends = (c.in_ok-ends.ensures ∙ ends-are x.node.processes.map) i;
      outputs = c.in_ok-outputs.ensures i;
      paths = c.in_ok-paths.ensures i;
      unsent = (c.in_ok-lines_of.ensures ∙ ap (map (λ (l : ScriptLine). l.line)) c.deref.ensures.value ∙ lines-are x.node.unsent.items) i;
      instructions = c.instructions_in_all.ensures.is (seen x.files) i;
      free = x.free;
    }
