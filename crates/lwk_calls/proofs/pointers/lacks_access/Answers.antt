use Rattle.lwk_calls.specs.SignalWords.{writable}
use Rattle.lwk_space.specs.Lacks.{memory}
use Rattle.std.proofs.Common.{ap, not, sym, ◌∙◌}
use Rattle.std.specs.Prelude.{◌||◌}
use Rattle.lwk_calls.proofs.pointers.lacks_access.Goals as goal

pub returns-then-readable : goal.returns-then-readable
returns-then-readable g c = λ pages.
    let m = memory (g.T.PageTable.rows c.args.space.now.table) pages in
    ap not (c.writable.ensures pages) ∙ sym (ap (λ b. not b || not (writable m c.args.write c.args.len)) (sym (c.readable.ensures pages) ∙ c.if-readable.true))

pub returns-else-readable : goal.returns-else-readable
returns-else-readable g c = λ pages.
    let m = memory (g.T.PageTable.rows c.args.space.now.table) pages in
    sym (ap (λ b. not b || not (writable m c.args.write c.args.len)) (sym (c.readable.ensures pages) ∙ c.if-readable.false))
