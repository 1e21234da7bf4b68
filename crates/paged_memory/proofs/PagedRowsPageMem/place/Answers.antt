use Rattle.std.proofs.Common.{◌≡◌, not, slice_index_or, length, sym, ap, ◌∙◌, subst, ◌<◌, ◌≤◌}
use Rattle.paged_memory.proofs.RowPages.{lacks-at, lacks-past}
use Rattle.paged_memory.proofs.PagedRowsPageMem.place.Goals as goal

pub returns-then-allows-clause-lacks : goal.returns-then-allows-clause-lacks
returns-then-allows-clause-lacks c =
    let rows = c.args.self.now.rows.items in
    let row = c.in-Some.row.now in
    let l = c.in-Some.ensures.lookup in
    let inside = subst (λ xs. c.args.page < length xs) c.deref.ensures.value l.3.0 in
    let here = subst (λ xs. row ≡ slice_index_or xs c.args.page row) c.deref.ensures.value l.1 in
    sym (lacks-at rows c.args.access c.args.page row inside here ∙ ap not (sym c.allows.ensures ∙ c.if-allows.true))

pub returns-else-allows-clause-lacks : goal.returns-else-allows-clause-lacks
returns-else-allows-clause-lacks c =
    let rows = c.args.self.now.rows.items in
    let row = c.in-Some.row.now in
    let l = c.in-Some.ensures.lookup in
    let inside = subst (λ xs. c.args.page < length xs) c.deref.ensures.value l.3.0 in
    let here = subst (λ xs. row ≡ slice_index_or xs c.args.page row) c.deref.ensures.value l.1 in
    sym (lacks-at rows c.args.access c.args.page row inside here ∙ ap not (sym c.allows.ensures ∙ c.if-allows.false))

pub returns-in-None-clause-lacks : goal.returns-in-None-clause-lacks
returns-in-None-clause-lacks c =
    let rows = c.args.self.now.rows.items in
    let past = subst (λ xs. length xs ≤ c.args.page) c.deref.ensures.value c.in-None.ensures.lookup.3 in
    sym (lacks-past rows c.args.access c.args.page past)
