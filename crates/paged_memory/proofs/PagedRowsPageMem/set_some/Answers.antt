use Rattle.std.proofs.Common.{◌<◌, length, List, ℕ, sym, ap, ◌∙◌, subst}
use Rattle.isa_model.specs.Memory.{Page}
use Rattle.mck_word.specs.Maps.{change}
use Rattle.rv64i_user.specs.Places.{page_put}
use Rattle.paged_memory.specs.Rows.{pages_of}
use Rattle.paged_memory.proofs.RowPages.{same-place, row-changed}
use Rattle.paged_memory.proofs.PagedRowsPageMem.set_some.Goals as goal

pub returns-clause-memory : goal.returns-clause-memory
returns-clause-memory c =
    let rows = c.args.self.now.rows.items in
    let place = same-place rows c.args.k c.args.page c.requires.held in
    let row = c.index_mut-row.result.now in
    let inside = subst (λ i. i < length rows) (sym place.0) place.1 in
    let wrote = ap (λ (b : List ℕ). let g : Page = record { rights = row.rights; bytes = b } in g) c.write_some.ensures in
    row-changed rows c.args.k row (record { rights = row.rights; bytes = c.write_some.new.b }) (page_put c.args.off c.args.size c.args.v) inside c.index_mut-row.ensures.value wrote
    ∙ ap (λ i. change (pages_of rows) i (page_put c.args.off c.args.size c.args.v)) place.0
