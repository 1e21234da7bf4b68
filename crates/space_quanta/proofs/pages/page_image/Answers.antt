use Rattle.mck_word.specs.Maps.{at}
use Rattle.space_quanta.proofs.Looked.{page-absent, page-there, page_of}
use Rattle.std.proofs.Common.{Some, ap, sym, ◌∙◌, ◌≡◌}
use Rattle.space_quanta.proofs.pages.page_image.Goals as goal

pub returns-in-Some-clause-page : goal.returns-in-Some-clause-page
returns-in-Some-clause-page g c =
    let rows = g.T.PageTable.rows c.args.space.now.table in
    let f = c.in-Some.frame in
    let r = c.in-Some.rights in
    let there : at rows c.args.page ≡ Some (f, r) = ap (λ t. at (g.T.PageTable.rows t) c.args.page) (sym c.table.ensures) ∙ sym c.in-Some.ensures.row in
    ap (λ b. Some (page_of r b)) c.array.ensures.page ∙ sym (page-there rows c.args.frames.now c.args.page (f, r) c.requires there)

pub returns-in-None-clause-page : goal.returns-in-None-clause-page
returns-in-None-clause-page g c =
    let rows = g.T.PageTable.rows c.args.space.now.table in
    let gone = ap (λ t. at (g.T.PageTable.rows t) c.args.page) (sym c.table.ensures) ∙ sym c.in-None.ensures.row in
    sym (page-absent rows c.args.frames.now c.args.page gone)
