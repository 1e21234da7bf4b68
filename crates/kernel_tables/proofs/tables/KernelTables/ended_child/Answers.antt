use Rattle.kernel_tables.proofs.Passing.{child_shown, child_small, ended}
use Rattle.kernel_tables.specs.declared.process_rows.Process.{Process}
use Rattle.std.proofs.Common.{ap, List, sym, ℕ, ◌∙◌}
use Rattle.std.proofs.Math.Facts.{to_z-of_z}
use Rattle.std.specs.Prelude.{find, option_map}
use Rattle.kernel_tables.proofs.tables.KernelTables.ended_child.Goals as goal

pub overflow_cast-result : goal.overflow_cast-result
overflow_cast-result c =
    let found = simp (to_z-of_z c.ranges.pid) at c.in-Some.ensures in
    let rows = ap (λ (es : List (ℕ × Process)). option_map (λ (e : ℕ × Process). e.0) (find (ended c.args.p.0 c.args.pid) es)) c.rows-rows.ensures.rows in
    record { fits = child_small c.args.p.0 c.args.pid c.args.self.now.processes.map c.in-Some.number c.rows-rows.ensures.small (found ∙ rows) }

pub returns-in-Some : goal.returns-in-Some
returns-in-Some c = λ files.
    let found = simp (to_z-of_z c.ranges.pid) at c.in-Some.ensures in
    let rows = ap (λ (es : List (ℕ × Process)). option_map (λ (e : ℕ × Process). e.0) (find (ended c.args.p.0 c.args.pid) es)) c.rows-rows.ensures.rows in
    found ∙ rows ∙ sym (child_shown c.args.self.now files c.args.p.0 c.args.pid)
