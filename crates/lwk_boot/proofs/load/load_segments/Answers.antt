use Rattle.hybrid_model.specs.Spaces.{copied_pages}
use Rattle.isa_model.specs.Memory.{Memory}
use Rattle.job_model.specs.declared.image.Segment.{Segment}
use Rattle.kernel_model.specs.Pages.{pages_count, pages_of}
use Rattle.lwk_boot.proofs.Copies.{from-zero}
use Rattle.lwk_boot.proofs.InOrder.{at-place, before-next, ends-at, one-less}
use Rattle.lwk_boot.proofs.LeftOver.{left-none, ones-left}
use Rattle.lwk_boot.proofs.Loading.{copied-end, copied-next, has-in}
use Rattle.lwk_boot.specs.Guests.{first_page, from_page, last_end, segment_at}
use Rattle.lwk_boot.specs.Order.{AreBefore, IsNext, NoneLeft, left, one_each, pages_each}
use Rattle.lwk_space.specs.Frames.{space}
use Rattle.mck_word.specs.MapLaws.{at-none}
use Rattle.mck_word.specs.Maps.{Map, at, entries}
use Rattle.mck_word.specs.declared.PageRange.{PageRange}
use Rattle.hybrid_model.specs.Sides.{Row}
use Rattle.std.proofs.Common.{◌≡◌, ◌<◌, ◌≤◌, List, ap, arith, length, refl, subst, sym, ◌∙◌}
use Rattle.lwk_boot.proofs.load.load_segments.Goals as goal

pub loop-k-init : goal.loop-k-init
loop-k-init g c =
    let segments = c.args.image.now.segments in
    let ones = ones-left segments in
    record {
      same = c.as_slice-segments.ensures;
      low = omega arith;
      before = λ j l f. absurd (omega arith);
      copied = λ m has. ap (λ (x : Memory). copied_pages (entries x) (space (g.T.PageTable.rows c.args.guest.now.table) c.args.mem.now c.args.pool.now)) (from-zero m);
      behind = λ p a. ap (λ (x : Map Row). at x p) c.requires.empty ∙ at-none p;
      room = c.requires.room;
      spare = omega (arith, ones, c.requires.spare);
      enough = c.requires.enough;
      free = refl;
      brk = refl;
      pool = refl;
      mem = refl;
    }

pub map_next-requires-clause-enough : goal.map_next-requires-clause-enough
map_next-requires-clause-enough g c =
    let image = c.args.image.now in
    let page = c.loop-k.from in
    let k = c.in-Some.k in
    let was = c.loop-k.invariant in
    let range = c.segment_range-range.result in
    let next = subst (λ (ss : List Segment). IsNext ss page k) was.same c.in-Some.ensures in
    let at = at-place c.as_slice-segments.result.now image.segments k c.index-segments-k.result was.same next.inside c.index-segments-k.is in
    let same = c.segment_range-range.ensures ∙ ap (λ (s : Segment). pages_of s.addr s.mem) at in
    let many = ap (λ (r : PageRange). pages_count r) same in
    let less = one-less image c.requires.image page k next pages_each in
    let fact : pages_count range ≤ length c.loop-k.pool.free = omega (arith, many, less, was.enough) in
    fact

pub loop-k-smaller : goal.loop-k-smaller
loop-k-smaller g c =
    let image = c.args.image.now in
    let page = c.loop-k.from in
    let k = c.in-Some.k in
    let was = c.loop-k.invariant in
    let next = subst (λ (ss : List Segment). IsNext ss page k) was.same c.in-Some.ensures in
    let at = at-place c.as_slice-segments.result.now image.segments k c.index-segments-k.result was.same next.inside c.index-segments-k.is in
    let end : c.segment_range-range.result.hi ≡ last_end (segment_at image.segments k) = ap (λ (r : PageRange). r.hi) c.segment_range-range.ensures ∙ ap (λ (s : Segment). last_end s) at in
    let less = one-less image c.requires.image page k next one_each in
    let there = ap (λ p. left one_each p image.segments) end in
    let fact : left one_each c.segment_range-range.result.hi image.segments < left one_each page image.segments = omega (arith, less, there) in
    fact

pub loop-k-preserved : goal.loop-k-preserved
loop-k-preserved g c =
    let image = c.args.image.now in
    let page = c.loop-k.from in
    let k = c.in-Some.k in
    let was = c.loop-k.invariant in
    let range = c.segment_range-range.result in
    let s = c.index-segments-k.result in
    let sp = space (g.T.PageTable.rows c.loop-k.guest.table) c.loop-k.mem c.loop-k.pool in
    let next = subst (λ (ss : List Segment). IsNext ss page k) was.same c.in-Some.ensures in
    let at = at-place c.as_slice-segments.result.now image.segments k s was.same next.inside c.index-segments-k.is in
    let same = c.segment_range-range.ensures ∙ ap (λ (x : Segment). pages_of x.addr x.mem) at in
    let lo : range.lo ≡ first_page (segment_at image.segments k) = ap (λ (r : PageRange). r.lo) same in
    let hi : range.hi ≡ last_end (segment_at image.segments k) = ap (λ (r : PageRange). r.hi) same in
    let many = ap (λ (r : PageRange). pages_count r) same in
    let some = ends-at image c.requires.image k next.inside in
    let one = one-less image c.requires.image page k next one_each in
    let all = one-less image c.requires.image page k next pages_each in
    let ones = ap (λ p. left one_each p image.segments) hi in
    let pages = ap (λ p. left pages_each p image.segments) hi in
    record {
      same = was.same;
      low = omega (arith, hi, some.most);
      before = subst (λ p. AreBefore image.segments p) (sym hi) (before-next image c.requires.image page k next was.before);
      copied = λ m has. was.copied m has ∙ (copied-next image c.requires.image page k next was.before m has sp
          ∙ (ap (λ p. copied_pages (entries (from_page m p)) sp) (sym lo)
          ∙ c.map_next.ensures.left m (has-in image.segments m k s range c.as_slice.result.now has next.inside at c.segment_range-range.ensures c.as_slice.ensures)));
      behind = c.map_next.ensures.behind;
      room = (was.room.0, c.map_next.ensures.keeps was.room.0 (λ p a b. was.room.2.each k next.inside p (omega (arith, lo, a)) (omega (arith, hi, b))) was.room.1, was.room.2);
      spare = omega (arith, one, ones, was.spare, c.map_next.ensures.spare);
      enough = omega (arith, many, all, pages, was.enough, c.map_next.ensures.free);
      free = omega (arith, many, all, pages, was.free, c.map_next.ensures.free);
      brk = c.map_next.ensures.brk ∙ was.brk;
      pool = c.map_next.ensures.pool ∙ was.pool;
      mem = c.map_next.ensures.mem ∙ was.mem;
    }

pub returns-clause-left : goal.returns-clause-left
returns-clause-left g c = λ m has.
    let image = c.args.image.now in
    let was = c.loop-k.invariant in
    let none = subst (λ (ss : List Segment). NoneLeft ss c.loop-k.from) was.same c.in_default.ensures in
    was.copied m has ∙ copied-end image.segments c.loop-k.from none was.before (omega (arith, was.low)) m has (space (g.T.PageTable.rows c.loop-k.guest.table) c.loop-k.mem c.loop-k.pool)

pub returns-clause-free : goal.returns-clause-free
returns-clause-free g c =
    let image = c.args.image.now in
    let was = c.loop-k.invariant in
    let none = subst (λ (ss : List Segment). NoneLeft ss c.loop-k.from) was.same c.in_default.ensures in
    let gone = left-none pages_each c.loop-k.from image.segments none in
    omega (arith, gone, was.free)
