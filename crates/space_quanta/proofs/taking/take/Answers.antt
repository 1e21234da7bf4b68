use Rattle.isa_model.specs.Memory.{page_at}
use Rattle.lwk_space.specs.Lacks.{memory}
use Rattle.rv_quantum.specs.Differing.{FirstPage}
use Rattle.rv_quantum.specs.Images.{left, seen}
use Rattle.rv_quantum.specs.Promised.{Agrees}
use Rattle.rv_quantum.specs.Told.{first_regs, images, pages_seen}
use Rattle.space_quanta.proofs.Looked.{holds}
use Rattle.space_quanta.proofs.Taken.{page-first, took}
use Rattle.std.proofs.Common.{map, refl, subst, ℕ, ◌∙◌, ◌≡◌}
use Rattle.space_quanta.proofs.taking.take.Goals as goal

pub returns-in-Some : goal.returns-in-Some
returns-in-Some g c =
    let q = c.args.quanta.now in
    let m = memory (g.T.PageTable.rows c.args.space.now.table) c.args.frames.now in
    let d = c.in-Some.differs in
    let same = holds c.are_same.result c.are_same.ensures c.if-not-are_same.false ∙ c.first.ensures in
    let first : FirstPage (pages_seen q) m d = subst (λ is. FirstPage (map seen is) m d) c.images.ensures c.in-Some.ensures in
    (refl, page-first (first_regs q) c.args.regs.now (pages_seen q) m d same first)

pub returns : goal.returns
returns g c =
    let q = c.args.quanta.now in
    let rows = g.T.PageTable.rows c.args.space.now.table in
    let before = c.args.frames.now in
    let after = c.put_pages.new.frames in
    let same = holds c.are_same.result c.are_same.ensures c.if-not-are_same.false ∙ c.first.ensures in
    let agrees : Agrees (pages_seen q) (memory rows before) = subst (λ is. Agrees (map seen is) (memory rows before)) c.images.ensures c.in_default.ensures in
    let put : (p : ℕ) → page_at (memory rows after) p ≡ left (images q) p (page_at (memory rows before) p) =
    subst (λ is. (p : ℕ) → page_at (memory rows after) p ≡ left is p (page_at (memory rows before) p)) c.images-2.ensures c.put_pages.ensures.left in
    took q c.args.regs.now rows before after c.quanta_lead.ensures.promised same agrees c.requires.inside c.put_pages.ensures.stays put
