use Rattle.frame_pool.specs.Pools.{Pool}
use Rattle.hybrid_model.specs.Sides.{Row}
use Rattle.hybrid_model.specs.Spaces.{copied_pages}
use Rattle.lwk_space.proofs.Copied.{absent-above, copied-all, copied-more, copied-none, copied-pages, copied-step, from-zero, inside-put, less-left, none-copied, none-free, not-first, others-kept, taken-tail}
use Rattle.lwk_space.proofs.Lowest.{no-some}
use Rattle.lwk_space.proofs.copies.copy_pages.Goals as goal
use Rattle.lwk_space.specs.Copies.{from_on}
use Rattle.lwk_space.specs.Frames.{space}
use Rattle.lwk_space.specs.Lacks.{memory}
use Rattle.lwk_space.specs.Rows.{FramesIn, FramesTaken}
use Rattle.mck_word.specs.MapLaws.{at-none}
use Rattle.mck_word.specs.declared.Frame.{Frame}
use Rattle.mck_word.specs.Maps.{Map, at, count, entries}
use Rattle.page_map.specs.NextLaws.{next-none, next-some}
use Rattle.std.proofs.Common.{ap, arith, refl, subst, sym, ◌∙◌}
use Rattle.std.proofs.Math.ListN.{length-set}
use Rattle.std.proofs.lemmas.List.{length-drop}
use Rattle.std.specs.Prelude.{Some, [], is_some, length, option_map, slice_get, slice_index_or, ◌+◌, ◌<◌, ◌^◌, ◌≡◌}

pub loop-page-init : goal.loop-page-init
loop-page-init g c =
    let rows = g.T.PageTable.rows c.args.from.now in
    record {
      left = copied-none rows c.args.mem.now (space (g.T.PageTable.rows c.args.table.now) c.args.mem.now c.args.pool.now)
          ∙ ap (λ (m : Map Row). copied_pages (entries (memory rows c.args.mem.now)) (space m c.args.mem.now c.args.pool.now)) c.requires.empty;
      kept = λ k w e. refl;
      taken = c.requires.taken;
      enough = (let a = ap (λ (m : Map Row). count m) (from-zero rows) in let b = c.requires.enough in omega (arith, a, b));
      room = c.requires.room;
      pages = λ p. ap (λ (m : Map Row). is_some (at m p)) c.requires.empty ∙ ap is_some (at-none {V = Row} p) ∙ sym (none-copied (is_some (at rows p)) p);
      inside = λ k w e. absurd (let off = sym (ap (λ (m : Map Row). at m k) c.requires.empty ∙ at-none {V = Row} k) ∙ e in cc);
      pool = refl;
      mem = refl;
    }

pub unreachable-requires : goal.unreachable-requires
unreachable-requires g c =
    let next = next-some (g.T.PageTable.rows c.args.from.now) c.loop-page.low c.in-Some.page (sym c.next.ensures ∙ c.in-Some.is) in
    let on = next.there in
    let off = ap is_some (sym c.get.ensures.row ∙ c.in_default-get.is) in
    cc

pub unreachable-requires-in_default-take : goal.unreachable-requires-in_default-take
unreachable-requires-in_default-take g c =
    let rows = g.T.PageTable.rows c.args.from.now in
    let next = next-some rows c.loop-page.low c.in-Some.page (sym c.next.ensures ∙ c.in-Some.is) in
    let less = less-left c.loop-page.low c.in-Some.page rows (c.in-Some-get.f, c.in-Some-get.rights) (sym c.get.ensures.row ∙ c.in-Some-get.is) next.low next.least in
    let none = none-free c.loop-page.pool.free (sym c.take.ensures.lowest ∙ ap (option_map (λ (f : Frame). f.0)) c.in_default-take.is) in
    let enough = c.loop-page.invariant.enough in
    omega (arith, less, none, enough)

pub insert-requires-clause-absent : goal.insert-requires-clause-absent
insert-requires-clause-absent g c =
    let rows = g.T.PageTable.rows c.args.from.now in
    let next = next-some rows c.loop-page.low c.in-Some.page (sym c.next.ensures ∙ c.in-Some.is) in
    absent-above (g.T.PageTable.rows c.loop-page.table) rows c.loop-page.low c.loop-page.invariant.pages c.in-Some.page next.low

pub loop-page-smaller : goal.loop-page-smaller
loop-page-smaller g c =
    let next = next-some (g.T.PageTable.rows c.args.from.now) c.loop-page.low c.in-Some.page (sym c.next.ensures ∙ c.in-Some.is) in
    let low = next.low in
    let below : c.in-Some.page < 2 ^ 27 = c.in-Some-get.ensures.below refl in
    omega (arith, low, below)

pub loop-page-preserved : goal.loop-page-preserved
loop-page-preserved g c =
    let was = c.loop-page.invariant in
    let rows = g.T.PageTable.rows c.args.from.now in
    let table = g.T.PageTable.rows c.loop-page.table in
    let low = c.loop-page.low in
    let page = c.in-Some.page in
    let w : Row = (c.in-Some-get.f, c.in-Some-get.rights) in
    let f = c.in-Some-take.to.0 in
    let there : at rows page ≡ Some w = sym c.get.ensures.row ∙ c.in-Some-get.is in
    let next = next-some rows low page (sym c.next.ensures ∙ c.in-Some.is) in
    let first : slice_get c.loop-page.pool.free 0 ≡ Some f = sym c.in-Some-take.ensures.lowest in
    let frames : f < length c.loop-page.mem = (let a = c.in-Some-take.ensures.below in let b = was.pool in let d = was.mem in let e = c.requires.frames in omega (arith, a, b, d, e)) in
    let inside = c.requires.inside page w there in
    record {
      left = ap (copied_pages (entries (from_on (page + 1) (memory rows c.args.mem.now)))) (λ j. space (c.insert.ensures.row j) (c.copy_frame.ensures j) (c.take.ensures.rest j))
          ∙ copied-step rows c.args.mem.now low page f w table c.loop-page.mem c.loop-page.pool.free there next.low next.least first frames inside (was.kept page w there) ∙ was.left;
      kept = λ k v e. ap (λ pages. slice_index_or pages v.0.0 []) c.copy_frame.ensures
          ∙ others-kept c.loop-page.mem f v.0.0 (slice_index_or c.loop-page.mem w.0.0 []) (not-first c.loop-page.pool.free f v.0.0 first (was.taken k v e).1) ∙ was.kept k v e;
      taken = subst (λ p. FramesTaken rows p) (sym c.take.ensures.rest) (taken-tail rows c.loop-page.pool was.taken);
      enough = (let a = less-left low page rows w there next.low next.least in let b = was.enough in let d = ap (λ (p : Pool). length p.free) c.take.ensures.rest in let e = length-drop 1 c.loop-page.pool.free in omega (arith, a, b, d, e));
      room = (let room = was.room in (room.0, c.insert.ensures.keeps room.0 (room.2 page (ap is_some there)) room.1, room.2));
      pages = λ p. ap (λ (m : Map Row). is_some (at m p)) c.insert.ensures.row ∙ copied-more table rows low was.pages page (record { 0 = f }, w.1) next.low (ap is_some there) next.least p;
      inside = subst (λ (m : Map Row). FramesIn m c.copy_frame.new.mem) (sym c.insert.ensures.row)
          (inside-put table c.loop-page.mem c.copy_frame.new.mem page (record { 0 = f }, w.1) (sym (ap length c.copy_frame.ensures ∙ length-set c.loop-page.mem f (slice_index_or c.loop-page.mem w.0.0 []))) frames was.inside);
      pool = ap (λ (p : Pool). p.frames) c.take.ensures.rest ∙ was.pool;
      mem = ap length c.copy_frame.ensures ∙ length-set c.loop-page.mem f (slice_index_or c.loop-page.mem w.0.0 []) ∙ was.mem;
    }

pub returns-clause-after : goal.returns-clause-after
returns-clause-after g c =
    let rows = g.T.PageTable.rows c.args.from.now in
    let none = next-none rows c.loop-page.low (sym c.next.ensures ∙ no-some c.next.result c.in_default.not-Some) in
    sym (copied-all rows c.args.mem.now c.loop-page.low (space (g.T.PageTable.rows c.loop-page.table) c.loop-page.mem c.loop-page.pool) none) ∙ c.loop-page.invariant.left

pub returns-clause-pages : goal.returns-clause-pages
returns-clause-pages g c =
    let rows = g.T.PageTable.rows c.args.from.now in
    let none = next-none rows c.loop-page.low (sym c.next.ensures ∙ no-some c.next.result c.in_default.not-Some) in
    copied-pages (g.T.PageTable.rows c.loop-page.table) rows c.loop-page.low c.loop-page.invariant.pages none
