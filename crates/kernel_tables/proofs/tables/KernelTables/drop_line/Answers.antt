use Rattle.kernel_tables.proofs.Lines.{rest_stays, unsent_are}
use Rattle.kernel_tables.specs.declared.script_lines.ScriptLine.{ScriptLine}
use Rattle.std.proofs.Common.{not, refl, rules, ◌==◌}
use Rattle.std.proofs.lemmas.Fn.{filter_same}
use Rattle.kernel_tables.proofs.tables.KernelTables.drop_line.Goals as goal

pub returns-clause-node : goal.returns-clause-node
returns-clause-node c = λ files. unsent_are c.args.self.now _ files c.args.k
    (filter_same _ (λ (x : ScriptLine). not (x.index == c.args.k)) _ (λ x b f' k. search rules) _ _ c.retain.ensures.filtered)
    (rest_stays c.args.self.now _ files refl refl refl refl refl)
