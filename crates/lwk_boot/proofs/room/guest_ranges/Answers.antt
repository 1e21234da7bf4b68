use Rattle.job_model.specs.declared.image.Segment.{Segment}
use Rattle.kernel_model.specs.Pages.{pages_of}
use Rattle.lwk_boot.proofs.InOrder.{at-place, ends-at, lie-all, lie-next, one-less, rise-all, rise-more}
use Rattle.lwk_boot.specs.Guests.{first_page, last_end, segment_at}
use Rattle.lwk_boot.specs.Order.{IsNext, NoneLeft, left, one_each}
use Rattle.lwk_boot.specs.Rooms.{LieBelow, LieIn, RiseTo, top_range}
use Rattle.mck_word.specs.declared.PageRange.{PageRange}
use Rattle.page_map.specs.Tables.{AreRanges}
use Rattle.std.proofs.Common.{◌≡◌, ◌<◌, ◌++◌, ◌∷◌, [], List, ap, arith, subst, sym, ◌∙◌}
use Rattle.lwk_boot.proofs.room.guest_ranges.Goals as goal

pub loop-k-smaller : goal.loop-k-smaller
loop-k-smaller c =
    let image = c.args.image.now in
    let page = c.loop-k.from in
    let k = c.in-Some.k in
    let next = subst (λ (ss : List Segment). IsNext ss page k) c.loop-k.invariant.same c.in-Some.ensures in
    let at = at-place c.as_slice-segments.result.now image.segments k c.index-segments-k.result c.loop-k.invariant.same next.inside c.index-segments-k.is in
    let end : c.segment_range-range.result.hi ≡ last_end (segment_at image.segments k) = ap (λ (r : PageRange). r.hi) c.segment_range-range.ensures ∙ ap (λ (s : Segment). last_end s) at in
    let less = one-less image c.requires page k next one_each in
    let there = ap (λ p. left one_each p image.segments) end in
    let fact : left one_each c.segment_range-range.result.hi image.segments < left one_each page image.segments = omega (arith, less, there) in
    fact

pub loop-k-preserved : goal.loop-k-preserved
loop-k-preserved c =
    let image = c.args.image.now in
    let page = c.loop-k.from in
    let k = c.in-Some.k in
    let was = c.loop-k.invariant in
    let range = c.segment_range-range.result in
    let next = subst (λ (ss : List Segment). IsNext ss page k) was.same c.in-Some.ensures in
    let at = at-place c.as_slice-segments.result.now image.segments k c.index-segments-k.result was.same next.inside c.index-segments-k.is in
    let same = c.segment_range-range.ensures ∙ ap (λ (s : Segment). pages_of s.addr s.mem) at in
    let lo : range.lo ≡ first_page (segment_at image.segments k) = ap (λ (r : PageRange). r.lo) same in
    let hi : range.hi ≡ last_end (segment_at image.segments k) = ap (λ (r : PageRange). r.hi) same in
    let some = ends-at image c.requires k next.inside in
    let pushed = sym c.in_ok-push.ensures.items in
    record {
      same = was.same;
      low = omega (arith, hi, some.most);
      rise = subst (λ rs. RiseTo 0 rs range.hi) pushed
          (rise-more 0 c.loop-k.ranges.items page range was.rise (omega (arith, lo, next.low)) (omega (arith, lo, hi, some.some)) (omega (arith, hi, some.most)));
      lie = subst (λ p. LieBelow image.segments p c.push.new.self.items) (sym hi)
          (subst (λ rs. LieBelow image.segments (last_end (segment_at image.segments k)) rs) pushed (lie-next image c.requires page k next c.loop-k.ranges.items range same was.lie));
    }

pub returns-clause-rise : goal.returns-clause-rise
returns-clause-rise c =
    subst (λ rs. AreRanges rs) (sym c.in_ok-push-2.ensures.items)
    (rise-all 0 (c.loop-k.ranges.items ++ top_range ∷ []) 0x4000000 (rise-more 0 c.loop-k.ranges.items c.loop-k.from top_range c.loop-k.invariant.rise (omega (arith, c.loop-k.invariant.low)) (omega arith) (omega arith)))

pub returns-clause-lie : goal.returns-clause-lie
returns-clause-lie c =
    let image = c.args.image.now in
    let none = subst (λ (ss : List Segment). NoneLeft ss c.loop-k.from) c.loop-k.invariant.same c.in_default.ensures in
    subst (λ rs. LieIn image.segments rs) (sym c.in_ok-push-2.ensures.items) (lie-all image.segments c.loop-k.from c.loop-k.ranges.items none c.loop-k.invariant.lie)
