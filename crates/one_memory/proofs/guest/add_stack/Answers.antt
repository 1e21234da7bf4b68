use Rattle.kernel_model.specs.Layout.{page_with}
use Rattle.kernel_model.specs.Pages.{zero_page}
use Rattle.one_memory.proofs.GuestPages.{pages-end, pages-next, stack_page, zero-written}
use Rattle.one_memory.specs.Pages.{written}
use Rattle.std.proofs.Common.{[], arith, refl, ◌∙◌}
use Rattle.one_memory.proofs.guest.add_stack.Goals as goal

pub loop-page-preserved : goal.loop-page-preserved
loop-page-preserved c = record {
  left = pages-next stack_page c.loop-page.memory.map c.add_page.new.self.map c.loop-page.page 0x3ffffff (page_with (record { 0 = 3 }) (written zero_page 0 [])) (omega arith) c.add_page.ensures.page
      (zero-written (record { 0 = 3 }) refl)
      ∙ c.loop-page.invariant.left;
  spare = omega (arith, c.add_page.ensures.spare, c.loop-page.invariant.spare);
}

pub returns-clause-stack : goal.returns-clause-stack
returns-clause-stack c = pages-end stack_page c.loop-page.memory.map c.loop-page.page 0x3ffffff (omega arith) ∙ c.loop-page.invariant.left
