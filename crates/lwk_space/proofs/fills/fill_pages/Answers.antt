use Rattle.frame_pool.specs.Pools.{Pool}
use Rattle.lwk_space.specs.Fills.{fill_page}
use Rattle.kernel_model.specs.Spaces.{each_page}
use Rattle.lwk_space.proofs.Filled.{filled}
use Rattle.lwk_space.proofs.OnePage.{each-step}
use Rattle.lwk_space.proofs.RowSets.{at-other, pages-grow, present-put}
use Rattle.lwk_space.specs.Frames.{space}
use Rattle.mck_word.specs.Maps.{at}
use Rattle.std.proofs.Common.{◌≡◌, ◌+◌, ◌-◌, ◌<◌, arith, ap, length, suc, sym, ◌∙◌}
use Rattle.std.specs.Prelude.{Some, is_some, slice_get}
use Rattle.std.proofs.Math.ListN.{length-set}
use Rattle.std.proofs.lemmas.List.{length-drop}
use Rattle.lwk_space.proofs.fills.fill_pages.Goals as goal

pub loop-page-preserved : goal.loop-page-preserved
loop-page-preserved g c =
    let was = c.loop-page.invariant in
    let page = c.loop-page.page in
    let rows = g.T.PageTable.rows c.loop-page.table in
    let f = c.in-Some.f.0 in
    let first : slice_get c.loop-page.pool.free 0 ≡ Some f = sym c.in-Some.ensures.lowest in
    let inside : f < length c.loop-page.mem = omega (arith, c.in-Some.ensures.below, was.pool, was.mem, c.requires.frames) in
    let e : c.args.r.now.hi - page ≡ suc (c.args.r.now.hi - (page + 1)) = omega arith in
    let step = (λ j. space (c.insert.ensures.row j) (c.fill_frame.ensures j) (c.take.ensures.rest j)) ∙ filled c.args.rights c.args.start c.args.bytes.now page f rows c.loop-page.mem c.loop-page.pool.free first inside in
    record {
      left = ap (each_page (fill_page c.args.rights c.args.start c.args.bytes.now) (c.args.r.now.hi - (page + 1)) (page + 1)) step
          ∙ sym (each-step (fill_page c.args.rights c.args.start c.args.bytes.now) _ _ page (space rows c.loop-page.mem c.loop-page.pool) e) ∙ was.left;
      absent = λ k a b. ap (λ m. at m k) c.insert.ensures.row ∙ (at-other rows page k (c.in-Some.f, c.args.rights) (λ (x : k ≡ page). absurd (omega arith)) ∙ was.absent k (omega arith) b);
      enough = let less = ap (λ (p : Pool). length p.free) c.take.ensures.rest in omega (arith, length-drop 1 c.loop-page.pool.free, was.enough);
      pool = ap (λ (p : Pool). p.frames) c.take.ensures.rest ∙ was.pool;
      mem = ap length c.fill_frame.ensures ∙ (length-set c.loop-page.mem f _ ∙ was.mem);
      room = let room = was.room in (room.0, c.insert.ensures.keeps room.0 (room.2 page (omega arith) (omega arith)) room.1, room.2);
      keeps = λ rs lies h. c.insert.ensures.keeps rs (lies page (omega arith) (omega arith)) (was.keeps rs lies h);
      pages = λ p. ap (λ m. is_some (at m p)) c.insert.ensures.row ∙ (present-put rows page p (c.in-Some.f, c.args.rights) ∙ pages-grow _ _ c.args.r.now.lo page p (omega arith) (was.pages p));
    }
