use Rattle.hybrid_model.specs.Spaces.{Space, copied_pages}
use Rattle.lwk_boot.proofs.Copies.{some-pages}
use Rattle.lwk_boot.proofs.Loading.{fill-behind, fill-free}
use Rattle.lwk_boot.specs.Guests.{from_page}
use Rattle.lwk_space.specs.Frames.{space}
use Rattle.mck_word.specs.Maps.{at, entries}
use Rattle.std.proofs.Common.{◌≡◌, ◌+◌, ◌-◌, ap, arith, length, sym, ◌∙◌}
use Rattle.lwk_boot.proofs.load.map_next.Goals as goal

pub returns-clause-left : goal.returns-clause-left
returns-clause-left g c = λ m h.
    let r = c.args.r.now in
    let sp = space (g.T.PageTable.rows c.args.guest.now.table) c.args.mem.now c.args.pool.now in
    let end : r.lo + (r.hi - r.lo) ≡ r.hi = omega (arith, c.requires.order) in
    let after = sym c.map_bytes.ensures.after in
    some-pages (r.hi - r.lo) r.lo m c.args.rights c.args.start c.args.bytes.now sp (λ q a b. h q a (omega (arith, end, b)))
    ∙ (λ i. copied_pages (entries (from_page m (end i))) (after i))

pub returns-clause-behind : goal.returns-clause-behind
returns-clause-behind g c = λ p a.
    let r = c.args.r.now in
    let sp = space (g.T.PageTable.rows c.args.guest.now.table) c.args.mem.now c.args.pool.now in
    ap (λ (s : Space). at s.table p) c.map_bytes.ensures.after
    ∙ (fill-behind c.args.rights c.args.start c.args.bytes.now (r.hi - r.lo) r.lo sp p (omega (arith, c.requires.order, a))
    ∙ c.requires.behind p (omega (arith, c.requires.order, a)))

pub returns-clause-free : goal.returns-clause-free
returns-clause-free g c =
    let r = c.args.r.now in
    let sp = space (g.T.PageTable.rows c.args.guest.now.table) c.args.mem.now c.args.pool.now in
    let less = ap (λ (s : Space). length s.free) c.map_bytes.ensures.after ∙ fill-free c.args.rights c.args.start c.args.bytes.now (r.hi - r.lo) r.lo sp in
    omega (arith, less, c.requires.enough)
