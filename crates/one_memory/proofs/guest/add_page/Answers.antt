use Rattle.kernel_model.specs.Layout.{page_with}
use Rattle.kernel_model.specs.Pages.{zero_page}
use Rattle.mck_word.specs.Maps.{put}
use Rattle.one_memory.proofs.GuestPages.{segment-bytes}
use Rattle.one_memory.specs.Pages.{written}
use Rattle.std.proofs.Common.{◌≡◌, ◌+◌, ◌-◌, ap, arith, drop, length, take, ◌∙◌}
use Rattle.std.specs.Prelude.{List, ℕ}
use Rattle.one_memory.proofs.guest.add_page.Goals as goal

pub returns-clause-page : goal.returns-clause-page
returns-clause-page c =
    let s = c.args.s.now in
    let off = c.min-off.result in
    let from = c.min-from.result in
    let len = c.min-len.result in
    let some : from + len - from ≡ len = omega arith in
    let long = ap length c.as_slice-bytes.ensures in
    c.add_page.ensures.page
    ∙ ap (λ (bytes : List ℕ). put c.args.memory.now.map c.args.page (page_with s.rights bytes))
    ((λ i. written zero_page off (take (some i) (drop from (c.as_slice-bytes.ensures i)))) ∙ segment-bytes s c.args.page off from len (omega arith) (omega (arith, long)) (omega (arith, long)))
