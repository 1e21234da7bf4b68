use Rattle.job_model.specs.Images.{IsSegment}
use Rattle.job_model.specs.declared.image.Segment.{Segment}
use Rattle.lwk_boot.proofs.LeftOver.{drop-here, drop-past, pages-step, pages_of_all}
use Rattle.std.proofs.Common.{◌+◌, ap, arith, length, subst, sym, ◌∙◌}
use Rattle.std.specs.Prelude.{drop, slice_index_or}
use Rattle.lwk_boot.proofs.sizes.needed_frames.Goals as goal

pub loop-s-preserved : goal.loop-s-preserved
loop-s-preserved c =
    let items = c.as_slice-s-items.result.now in
    let i = c.loop-s.s-index in
    let x = c.s-item.result in
    let here = ap (λ ss. length (pages_of_all ss)) (drop-here items i x (omega arith) c.s-item.is) ∙ pages-step x (drop (i + 1) items) in
    let hi = ap (λ r. r.hi) c.segment_range-pages.ensures in
    let lo = ap (λ r. r.lo) c.segment_range-pages.ensures in
    let s : IsSegment x =
    subst (λ (y : Segment). IsSegment y) (ap (λ ss. slice_index_or ss i x) (sym c.as_slice-s-items.ensures) ∙ sym c.s-item.is)
    (c.requires.kept i x (let e = ap length c.as_slice-s-items.ensures in omega arith)) in
    record { left = omega (arith, here, hi, lo, c.loop-s.invariant.left); below = omega (arith, hi, lo, s.range) }

pub returns : goal.returns
returns c =
    let items = c.as_slice-s-items.result.now in
    let none = ap (λ ss. length (pages_of_all ss)) (drop-past items c.loop-s.s-index (omega arith)) in
    let all = ap (λ ss. length (pages_of_all ss)) c.as_slice-s-items.ensures in
    omega (arith, none, all, c.loop-s.invariant.left)
