use Rattle.job_model.specs.declared.image.Segment.{Segment}
use Rattle.kernel_model.specs.Layout.{segment_end}
use Rattle.one_memory.proofs.GuestStack.{drop-past}
use Rattle.std.proofs.Common.{◌+◌, ◌*◌, ◌/◌, ap, arith, sym, ◌∙◌}
use Rattle.std.specs.Prelude.{fold, max, ℕ}
use Rattle.one_memory.proofs.guest.heap_base.Goals as goal

pub returns : goal.returns
returns c =
    let f = λ (a : ℕ) (s : Segment). max a (segment_end s) in
    let items = c.as_slice-s-items.result.now in
    let end = sym (ap (fold f c.loop-s.end) (drop-past items c.loop-s.s-index (omega arith))) ∙ (c.loop-s.invariant.left ∙ ap (fold f 0) c.as_slice-s-items.ensures) in
    ap (λ e. (e + 4095) / 4096 * 4096) end
