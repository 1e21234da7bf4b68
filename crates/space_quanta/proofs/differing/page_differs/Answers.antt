use Rattle.mck_word.specs.Maps.{at}
use Rattle.isa_model.specs.Memory.{page_at}
use Rattle.lwk_space.specs.Lacks.{memory}
use Rattle.rv_quantum.specs.Images.{seen}
use Rattle.space_quanta.proofs.Looked.{holds, holds-not, none-seen, none-there, other-bytes, other-rights, page-absent, page-there, same-page, same-rights}
use Rattle.std.proofs.Common.{Some, [], ap, refl, slice_index_or, sym, ◌∙◌, ◌≡◌}
use Rattle.space_quanta.proofs.differing.page_differs.Goals as goal

pub returns-then-not-has_rights : goal.returns-then-not-has_rights
returns-then-not-has_rights g c =
    let rows = g.T.PageTable.rows c.args.space.now.table in
    let frames = c.args.frames.now in
    let i = c.args.image.now in
    let f = c.in-Some.frame in
    let r = c.in-Some.rights in
    let there : at rows i.page ≡ Some (f, r) = ap (λ t. at (g.T.PageTable.rows t) i.page) (sym c.table.ensures) ∙ sym c.in-Some.ensures.row in
    let now = page-there rows frames i.page (f, r) c.requires there in
    (refl, other-rights (seen i) (page_at (memory rows frames) i.page) r (slice_index_or frames f.0 []) now (holds-not c.has_rights.result c.has_rights.ensures c.if-not-has_rights.true))

pub returns-then-not-has_bytes : goal.returns-then-not-has_bytes
returns-then-not-has_bytes g c =
    let rows = g.T.PageTable.rows c.args.space.now.table in
    let frames = c.args.frames.now in
    let i = c.args.image.now in
    let f = c.in-Some.frame in
    let r = c.in-Some.rights in
    let there : at rows i.page ≡ Some (f, r) = ap (λ t. at (g.T.PageTable.rows t) i.page) (sym c.table.ensures) ∙ sym c.in-Some.ensures.row in
    let now = page-there rows frames i.page (f, r) c.requires there in
    let rights : i.rights ≡ Some r = holds c.has_rights.result c.has_rights.ensures c.if-not-has_rights.false in (
      refl,
      same-rights (seen i) (page_at (memory rows frames) i.page) r (slice_index_or frames f.0 []) now rights,
      other-bytes (seen i) (page_at (memory rows frames) i.page) r (slice_index_or frames f.0 []) now rights (holds-not c.has_bytes.result c.has_bytes.ensures c.if-not-has_bytes.true),
    )

pub returns-else-not-has_bytes : goal.returns-else-not-has_bytes
returns-else-not-has_bytes g c =
    let rows = g.T.PageTable.rows c.args.space.now.table in
    let frames = c.args.frames.now in
    let i = c.args.image.now in
    let f = c.in-Some.frame in
    let r = c.in-Some.rights in
    let there : at rows i.page ≡ Some (f, r) = ap (λ t. at (g.T.PageTable.rows t) i.page) (sym c.table.ensures) ∙ sym c.in-Some.ensures.row in
    let now = page-there rows frames i.page (f, r) c.requires there in
    same-page (seen i) (page_at (memory rows frames) i.page) r (slice_index_or frames f.0 []) now
    (holds c.has_rights.result c.has_rights.ensures c.if-not-has_rights.false) (holds c.has_bytes.result c.has_bytes.ensures c.if-not-has_bytes.false)

pub returns-in-Some-rights : goal.returns-in-Some-rights
returns-in-Some-rights g c =
    let rows = g.T.PageTable.rows c.args.space.now.table in
    let frames = c.args.frames.now in
    let i = c.args.image.now in
    let gone = ap (λ t. at (g.T.PageTable.rows t) i.page) (sym c.table.ensures) ∙ sym c.in-None.ensures.row in
    (refl, none-there (seen i) (page_at (memory rows frames) i.page) c.in-Some-rights.field-0 (page-absent rows frames i.page gone) c.in-Some-rights.is)

pub returns-in-None-rights : goal.returns-in-None-rights
returns-in-None-rights g c =
    let rows = g.T.PageTable.rows c.args.space.now.table in
    let frames = c.args.frames.now in
    let i = c.args.image.now in
    let gone = ap (λ t. at (g.T.PageTable.rows t) i.page) (sym c.table.ensures) ∙ sym c.in-None.ensures.row in
    none-seen (seen i) (page_at (memory rows frames) i.page) (page-absent rows frames i.page gone) c.in-None-rights.is
