use Rattle.lwk_space.proofs.Filled.{filled-frame}
use Rattle.std.proofs.Common.{◌≡◌, ◌+◌, ◌-◌, arith, drop, take, ◌∙◌}
use Rattle.std.specs.Prelude.{slice_index_or, slice_set, []}
use Rattle.frame_mem.specs.Pages.{written}
use Rattle.lwk_space.proofs.fills.fill_frame.Goals as goal

pub returns : goal.returns
returns c =
    let bytes = c.args.bytes.now in
    let off = c.min-off.result in
    let from = c.min-from.result in
    let len = c.min-len.result in
    let some : from + len - from ≡ len = omega arith in
    c.copy_in.ensures.written
    ∙ ((λ i. slice_set (c.zero.ensures.zero i) c.args.f.0 (written (slice_index_or (c.zero.ensures.zero i) c.args.f.0 []) off (take (some i) (drop from bytes))))
    ∙ filled-frame c.args.mem.now c.args.f.0 c.args.start bytes c.args.page off from len c.requires.frame (omega arith) (omega arith) (omega arith))
