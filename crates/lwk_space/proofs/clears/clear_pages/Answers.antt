use Rattle.frame_pool.specs.Pools.{Pool}
use Rattle.hybrid_model.specs.Sides.{Row}
use Rattle.hybrid_model.specs.Spaces.{freed}
use Rattle.lwk_space.proofs.Lowest.{fewer, freed-lowest, freed-none, no-key, no-some, row-of}
use Rattle.lwk_space.proofs.RowSets.{apart-cut, taken-cut}
use Rattle.lwk_space.specs.Rows.{FramesApart, FramesTaken}
use Rattle.mck_word.specs.Lists.{insert_by, member}
use Rattle.mck_word.specs.Maps.{Map, count, cut}
use Rattle.mck_word.specs.declared.Frame.{Frame}
use Rattle.page_map.specs.NextLaws.{next-some}
use Rattle.std.proofs.Common.{ap, arith, false, subst, sym, ◌∙◌, ◌≡◌}
use Rattle.std.specs.Prelude.{nat_lt, ◌<◌}
use Rattle.lwk_space.proofs.clears.clear_pages.Goals as goal

pub remove-f-requires : goal.remove-f-requires
remove-f-requires g c = (next-some (g.T.PageTable.rows c.loop-page.table) 0 c.in-Some.page (sym c.in-Some.ensures)).there

pub give-requires-clause-below : goal.give-requires-clause-below
give-requires-clause-below g c =
    let row = row-of (g.T.PageTable.rows c.loop-page.table) c.in-Some.page c.remove-f.result c.remove-f.ensures.frame in
    subst (λ (f : Frame). f.0 < c.loop-page.pool.frames) row.2 (c.loop-page.invariant.taken c.in-Some.page row.0 row.1).0

pub give-requires-clause-taken : goal.give-requires-clause-taken
give-requires-clause-taken g c =
    let row = row-of (g.T.PageTable.rows c.loop-page.table) c.in-Some.page c.remove-f.result c.remove-f.ensures.frame in
    subst (λ (f : Frame). member f.0 c.loop-page.pool.free ≡ false) row.2 (c.loop-page.invariant.taken c.in-Some.page row.0 row.1).1

pub loop-page-smaller : goal.loop-page-smaller
loop-page-smaller g c =
    let rows = g.T.PageTable.rows c.loop-page.table in
    let row = row-of rows c.in-Some.page c.remove-f.result c.remove-f.ensures.frame in
    subst (λ (m : Map Row). count m < count rows) (sym c.remove-f.ensures.rest) (fewer rows c.in-Some.page row.0 row.1)

pub loop-page-preserved : goal.loop-page-preserved
loop-page-preserved g c =
    let was = c.loop-page.invariant in
    let rows = g.T.PageTable.rows c.loop-page.table in
    let page = c.in-Some.page in
    let next = next-some rows 0 page (sym c.in-Some.ensures) in
    let row = row-of rows page c.remove-f.result c.remove-f.ensures.frame in
    let given = c.give.ensures ∙ ap (λ (f : Frame). record c.loop-page.pool { free = insert_by nat_lt f.0 c.loop-page.pool.free }) (sym row.2) in
    record {
      left = (λ i. freed (c.remove-f.ensures.rest i) (given i).free) ∙ freed-lowest rows page row.0 c.loop-page.pool.free row.1 (λ j l. next.least j (omega arith) l) ∙ was.left;
      taken = subst (λ m. FramesTaken m c.give.new.self) (sym c.remove-f.ensures.rest) (subst (λ p. FramesTaken (cut rows page) p) (sym given) (taken-cut rows page c.loop-page.pool row.0 was.taken was.apart row.1));
      apart = subst (λ m. FramesApart m) (sym c.remove-f.ensures.rest) (apart-cut rows page was.apart);
      pool = ap (λ (p : Pool). p.frames) c.give.ensures ∙ was.pool;
    }

pub returns-clause-rows : goal.returns-clause-rows
returns-clause-rows g c = no-key (g.T.PageTable.rows c.loop-page.table) (sym c.next.ensures ∙ no-some c.next.result c.in_default.not-Some)

pub returns-clause-free : goal.returns-clause-free
returns-clause-free g c =
    let empty = no-key (g.T.PageTable.rows c.loop-page.table) (sym c.next.ensures ∙ no-some c.next.result c.in_default.not-Some) in
    sym (freed-none c.loop-page.pool.free) ∙ ap (λ (m : Map Row). freed m c.loop-page.pool.free) (sym empty) ∙ c.loop-page.invariant.left
