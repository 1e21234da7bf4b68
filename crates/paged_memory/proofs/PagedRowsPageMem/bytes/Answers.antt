use Rattle.std.proofs.Common.{slice_index_or, option_map, ap, ◌∙◌}
use Rattle.isa_model.specs.Memory.{Page}
use Rattle.paged_memory.proofs.RowPages.{same-place, page-at}
use Rattle.paged_memory.proofs.PagedRowsPageMem.bytes.Goals as goal

pub returns : goal.returns
returns c =
    let rows = c.args.self.now.rows.items in
    let place = same-place rows c.args.k c.args.page c.requires in
    let row = c.index.result.now in
    ap (option_map (λ (page : Page). page.bytes)) (page-at rows c.args.page row place.1 (c.index.ensures ∙ ap (λ i. slice_index_or rows i row) place.0))
