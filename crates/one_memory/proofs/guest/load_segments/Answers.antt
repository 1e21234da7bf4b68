use Rattle.isa_model.specs.Memory.{Memory}
use Rattle.job_model.specs.Images.{IsSegment}
use Rattle.kernel_model.specs.Layout.{add_segment}
use Rattle.kernel_model.specs.Pages.{pages_in}
use Rattle.one_memory.proofs.GuestPages.{all-first, all-rest, content, with_pages}
use Rattle.std.proofs.Common.{ap, fold, sym, ◌∙◌}
use Rattle.one_memory.proofs.guest.load_segments.Goals as goal

pub segment_range-pages-requires : goal.segment_range-pages-requires
segment_range-pages-requires c = all-first IsSegment c.loop-s.rest.now c.in-Some.more.now c.in-Some.s.now c.in-Some.ensures.cases.0 c.loop-s.invariant.kept

pub loop-s-preserved : goal.loop-s-preserved
loop-s-preserved c =
    let split = c.in-Some.ensures.cases.0 in
    let more = c.in-Some.more.now in
    let s = c.in-Some.s.now in
    record {
      left = ap (λ (m : Memory). fold add_segment m more)
          (c.add_pages.ensures ∙ (λ i. with_pages (content s) (c.reserve.ensures.same i) (pages_in (c.segment_range-pages.ensures.pages i))))
          ∙ (ap (fold add_segment c.loop-s.memory.map) (sym split) ∙ c.loop-s.invariant.left);
      kept = all-rest IsSegment c.loop-s.rest.now more s split c.loop-s.invariant.kept;
    }
