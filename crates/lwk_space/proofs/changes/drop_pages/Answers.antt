use Rattle.frame_pool.specs.Pools.{Pool}
use Rattle.hybrid_model.specs.Sides.{Row}
use Rattle.hybrid_model.specs.Spaces.{drop_page}
use Rattle.kernel_model.specs.Spaces.{each_page}
use Rattle.lwk_space.proofs.OnePage.{dropped, drop-none, each-more, each-step}
use Rattle.lwk_space.proofs.RowSets.{apart-cut, pages-end, pages-shrink, present-cut, taken-cut}
use Rattle.lwk_space.specs.Frames.{frames_map, space}
use Rattle.lwk_space.specs.Rows.{FramesApart, FramesTaken}
use Rattle.mck_word.specs.Maps.{Map, at, cut}
use Rattle.mck_word.specs.Lists.{insert_by, member}
use Rattle.mck_word.specs.declared.Frame.{Frame}
use Rattle.page_map.specs.NextLaws.{next-none, next-some}
use Rattle.std.proofs.Common.{◌≡◌, ◌+◌, ◌-◌, ◌<◌, arith, ap, false, refl, subst, suc, sym, ◌∙◌}
use Rattle.std.specs.Prelude.{None, Option, Some, is_some, nat_lt, option_map, ℕ}
use Rattle.lwk_space.proofs.changes.drop_pages.Goals as goal

pub remove-f-requires : goal.remove-f-requires
remove-f-requires g c = (next-some (g.T.PageTable.rows c.loop-page.table) c.loop-page.from c.in-Some.page (sym c.in-Some.ensures)).there

-- the row whose frame was answered
row-of : (rows : Map Row) (page : ℕ) (f : Frame) → option_map (λ (w : Row). w.0) (at rows page) ≡ Some f → (w : Row) × (at rows page ≡ Some w) × (w.0 ≡ f)
row-of rows page f e = by_row (at rows page) refl e
  where
    by_row : (o : Option Row) → at rows page ≡ o → option_map (λ (w : Row). w.0) o ≡ Some f → (w : Row) × (at rows page ≡ Some w) × (w.0 ≡ f)
    by_row None is e = absurd (cc)
    by_row (Some w) is e = (w, is, cc)

pub give-requires-clause-below : goal.give-requires-clause-below
give-requires-clause-below g c =
    let row = row-of (g.T.PageTable.rows c.loop-page.table) c.in-Some.page c.remove-f.result c.remove-f.ensures.frame in
    subst (λ (f : Frame). f.0 < c.loop-page.pool.frames) row.2 (c.loop-page.invariant.taken c.in-Some.page row.0 row.1).0

pub give-requires-clause-taken : goal.give-requires-clause-taken
give-requires-clause-taken g c =
    let row = row-of (g.T.PageTable.rows c.loop-page.table) c.in-Some.page c.remove-f.result c.remove-f.ensures.frame in
    subst (λ (f : Frame). member f.0 c.loop-page.pool.free ≡ false) row.2 (c.loop-page.invariant.taken c.in-Some.page row.0 row.1).1

pub loop-page-smaller : goal.loop-page-smaller
loop-page-smaller g c =
    let next = next-some (g.T.PageTable.rows c.loop-page.table) c.loop-page.from c.in-Some.page (sym c.in-Some.ensures) in
    omega (arith, next.low)

pub loop-page-preserved : goal.loop-page-preserved
loop-page-preserved g c =
    let was = c.loop-page.invariant in
    let rows = g.T.PageTable.rows c.loop-page.table in
    let page = c.in-Some.page in
    let from = c.loop-page.from in
    let next = next-some rows from page (sym c.in-Some.ensures) in
    let row = row-of rows page c.remove-f.result c.remove-f.ensures.frame in
    let e : c.args.r.now.hi - from ≡ (page - from) + suc (c.args.r.now.hi - (page + 1)) = omega (arith, next.low) in
    let there : from + (page - from) ≡ page = omega (arith, next.low) in
    let given = c.give.ensures ∙ ap (λ (f : Frame). record c.loop-page.pool { free = insert_by nat_lt f.0 c.loop-page.pool.free }) (sym row.2) in
    record {
      low = omega (arith, next.low, was.low);
      high = omega arith;
      left = λ pages.
          let sp = space rows pages c.loop-page.pool in
          let step = (λ j. space (c.remove-f.ensures.rest j) pages (given j)) ∙ dropped page rows (frames_map pages) c.loop-page.pool.free row.0 row.1 in
          let skipped = drop-none (page - from) from sp (λ k a b. next.least k a (omega arith)) in
          ap (each_page drop_page (c.args.r.now.hi - (page + 1)) (page + 1)) step
          ∙ (sym (each-step drop_page (suc (c.args.r.now.hi - (page + 1))) _ page sp refl)
          ∙ (sym (ap (λ k. each_page drop_page k from sp) e ∙ (each-more drop_page (page - from) (suc (c.args.r.now.hi - (page + 1))) from sp
          ∙ (λ j. each_page drop_page (suc (c.args.r.now.hi - (page + 1))) (there j) (skipped j))))
          ∙ was.left pages));
      taken = subst (λ m. FramesTaken m c.give.new.self) (sym c.remove-f.ensures.rest) (subst (λ p. FramesTaken (cut rows page) p) (sym given) (taken-cut rows page c.loop-page.pool row.0 was.taken was.apart row.1));
      apart = subst (λ m. FramesApart m) (sym c.remove-f.ensures.rest) (apart-cut rows page was.apart);
      pool = ap (λ (p : Pool). p.frames) c.give.ensures ∙ was.pool;
      keeps = λ rs h. c.remove-f.ensures.keeps rs (was.keeps rs h);
      pages = λ p. ap (λ m. is_some (at m p)) c.remove-f.ensures.rest ∙ (present-cut rows page p
          ∙ pages-shrink _ _ c.args.r.now.lo from page p was.low next.low (was.pages p) (λ a b. ap is_some (next.least p a b)));
    }

pub returns-then-page-r-clause-after : goal.returns-then-page-r-clause-after
returns-then-page-r-clause-after g c = λ pages.
    let rows = g.T.PageTable.rows c.loop-page.table in
    let next = next-some rows c.loop-page.from c.in-Some.page (sym c.in-Some.ensures) in
    sym (drop-none (c.args.r.now.hi - c.loop-page.from) c.loop-page.from (space rows pages c.loop-page.pool) (λ k a b. next.least k a (let h = c.loop-page.invariant.high in omega arith)))
    ∙ c.loop-page.invariant.left pages

pub returns-then-page-r-clause-pages : goal.returns-then-page-r-clause-pages
returns-then-page-r-clause-pages g c = λ p.
    let rows = g.T.PageTable.rows c.loop-page.table in
    let next = next-some rows c.loop-page.from c.in-Some.page (sym c.in-Some.ensures) in
    let was = c.loop-page.invariant in
    pages-end _ _ c.args.r.now.lo c.loop-page.from c.args.r.now.hi p was.low was.high (was.pages p) (λ a b. ap is_some (next.least p a (omega arith)))

no-some : (o : Option ℕ) → ((x : ℕ) → o ≡ Some x → ⊥) → o ≡ None
no-some None h = refl
no-some (Some x) h = absurd (h x refl)

pub returns-in_default-clause-after : goal.returns-in_default-clause-after
returns-in_default-clause-after g c = λ pages.
    let rows = g.T.PageTable.rows c.loop-page.table in
    let none = next-none rows c.loop-page.from (sym c.next.ensures ∙ no-some c.next.result c.in_default.not-Some) in
    sym (drop-none (c.args.r.now.hi - c.loop-page.from) c.loop-page.from (space rows pages c.loop-page.pool) (λ k a b. none k a)) ∙ c.loop-page.invariant.left pages

pub returns-in_default-clause-pages : goal.returns-in_default-clause-pages
returns-in_default-clause-pages g c = λ p.
    let rows = g.T.PageTable.rows c.loop-page.table in
    let none = next-none rows c.loop-page.from (sym c.next.ensures ∙ no-some c.next.result c.in_default.not-Some) in
    let was = c.loop-page.invariant in
    pages-end _ _ c.args.r.now.lo c.loop-page.from c.args.r.now.hi p was.low was.high (was.pages p) (λ a b. ap is_some (none p a))
