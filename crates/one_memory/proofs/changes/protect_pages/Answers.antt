use Rattle.isa_model.specs.Memory.{Page}
use Rattle.one_memory.proofs.Paging.{low-change, protect-next}
use Rattle.one_memory.specs.Pages.{AreLow}
use Rattle.std.proofs.Common.{arith, subst, sym, ◌∙◌}
use Rattle.one_memory.proofs.changes.protect_pages.Goals as goal

pub loop-page-preserved : goal.loop-page-preserved
loop-page-preserved c =
    let was = c.loop-page.invariant in
    let page = c.loop-page.page in
    record {
      left = λ free. protect-next c.loop-page.rows.map c.protect_one.new.rows.map free page c.args.r.now.hi c.args.rights (omega arith) c.protect_one.ensures.page ∙ was.left free;
      room = c.protect_one.ensures.room ∙ was.room;
      low = subst AreLow (sym c.protect_one.ensures.page) (low-change c.loop-page.rows.map page (λ (x : Page). record x { rights = c.args.rights }) was.low);
    }
