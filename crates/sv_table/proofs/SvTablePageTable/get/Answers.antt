use Rattle.mck_word.specs.Maps.{at}
use Rattle.slab.specs.Slab.{get}
use Rattle.std.proofs.Common.{sym, ap, ◌∙◌}
use Rattle.sv_table.proofs.SvTablePageTable.get.Goals as goal
use Rattle.sv_table.proofs.Walked.{at-rows_high, at-rows_low}
use Rattle.sv_table.specs.Walks.{rows_of}

pub returns-then-page-lt-PAGES-clause-row : goal.returns-then-page-lt-PAGES-clause-row
returns-then-page-lt-PAGES-clause-row c =
    c.look_up.ensures ∙ sym (at-rows_low (get c.self.inside.nodes) c.args.page c.if-page-lt-PAGES.true) ∙ ap (λ s. at (rows_of (get s)) c.args.page) c.self.view_is

pub returns-else-page-lt-PAGES-clause-row : goal.returns-else-page-lt-PAGES-clause-row
returns-else-page-lt-PAGES-clause-row c = sym (at-rows_high (get c.args.self.now) c.args.page c.if-page-lt-PAGES.false)
