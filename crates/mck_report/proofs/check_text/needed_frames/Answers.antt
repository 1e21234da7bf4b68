use Rattle.job_model.specs.Images.{IsSegment}
use Rattle.mck_report.proofs.Frames.{all_first, all_rest, first_counted, first_shorter, needed, pages_of_segments}
use Rattle.mck_report.proofs.check_text.needed_frames.Goals as goal
use Rattle.std.proofs.Common.{ap, arith, length, ◌≡◌}

pub loop-segment-init : goal.loop-segment-init
loop-segment-init c =
    let whole = needed c.args.image.now in
    let few : length c.as_slice-rest.result.now ≡ length c.args.image.now.segments = ap length c.as_slice-rest.ensures in
    let same : pages_of_segments c.as_slice-rest.result.now ≡ pages_of_segments c.args.image.now.segments = ap pages_of_segments c.as_slice-rest.ensures in
    record {
      value = omega (arith, whole, same);
      bound = omega (arith, few, c.requires.headers, c.requires.counted);
      kept = rw c.as_slice-rest.ensures c.requires.kept;
    }

pub pages-needed-requires : goal.pages-needed-requires
pages-needed-requires c = all_first IsSegment c.loop-segment.rest.now c.in-Some.more.now c.in-Some.segment.now c.in-Some.ensures.cases.0 c.loop-segment.invariant.kept

pub loop-segment-preserved : goal.loop-segment-preserved
loop-segment-preserved c = record {
  value = omega (arith, c.loop-segment.invariant.value, c.pages-needed.ensures.value, first_counted c.loop-segment.rest.now c.in-Some.more.now c.in-Some.segment.now c.in-Some.ensures.cases.0);
  bound = omega (arith, c.loop-segment.invariant.bound, c.pages-needed.ensures.bound, first_shorter c.loop-segment.rest.now c.in-Some.more.now c.in-Some.segment.now c.in-Some.ensures.cases.0);
  kept = all_rest IsSegment c.loop-segment.rest.now c.in-Some.more.now c.in-Some.segment.now c.in-Some.ensures.cases.0 c.loop-segment.invariant.kept;
}
