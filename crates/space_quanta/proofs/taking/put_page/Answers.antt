use Rattle.hybrid_model.specs.Sides.{Row}
use Rattle.mck_word.specs.Maps.{at}
use Rattle.space_quanta.proofs.Put.{put-absent, put-there}
use Rattle.std.proofs.Common.{None, Some, ap, sym, ◌∙◌, ◌≡◌}
use Rattle.space_quanta.proofs.taking.put_page.Goals as goal

pub returns-in-Some-clause-pages : goal.returns-in-Some-clause-pages
returns-in-Some-clause-pages g c =
    let rows = g.T.PageTable.rows c.args.space.now.table in
    let i = c.args.image.now in
    let w : Row = (c.in-Some.frame, c.in-Some.field-0-1) in
    let there : at rows i.page ≡ Some w = ap (λ t. at (g.T.PageTable.rows t) i.page) (sym c.table.ensures) ∙ sym c.in-Some.ensures.row in
    put-there rows c.args.frames.now i c.requires.same w c.requires.inside c.requires.apart there

pub returns-in_default-clause-pages : goal.returns-in_default-clause-pages
returns-in_default-clause-pages g c =
    let rows = g.T.PageTable.rows c.args.space.now.table in
    let i = c.args.image.now in
    let gone : at rows i.page ≡ None = ap (λ t. at (g.T.PageTable.rows t) i.page) (sym c.table.ensures) ∙ sym c.in_default.ensures.row in
    put-absent rows c.args.frames.now i c.requires.same gone
