use Rattle.hybrid_model.specs.Spaces.{protect_page}
use Rattle.kernel_model.specs.Spaces.{each_page}
use Rattle.lwk_space.proofs.OnePage.{each-step, protected}
use Rattle.lwk_space.proofs.RowSets.{present-change}
use Rattle.lwk_space.specs.Frames.{space}
use Rattle.std.proofs.Common.{◌≡◌, ◌+◌, ◌-◌, arith, ap, suc, sym, ◌∙◌}
use Rattle.lwk_space.proofs.changes.protect_pages.Goals as goal

pub loop-page-preserved : goal.loop-page-preserved
loop-page-preserved g c =
    let was = c.loop-page.invariant in
    let page = c.loop-page.page in
    let e : c.args.r.now.hi - page ≡ suc (c.args.r.now.hi - (page + 1)) = omega arith in
    record {
      left = λ pages pool. rw c.set_rights.ensures.row
          (ap (each_page (protect_page c.args.rights) (c.args.r.now.hi - (page + 1)) (page + 1)) (protected c.args.rights page (space (g.T.PageTable.rows c.loop-page.table) pages pool))
          ∙ sym (each-step (protect_page c.args.rights) _ _ page (space (g.T.PageTable.rows c.loop-page.table) pages pool) e) ∙ was.left pages pool);
      keeps = λ rs h. c.set_rights.ensures.keeps rs (was.keeps rs h);
      pages = λ p. rw c.set_rights.ensures.row (present-change (g.T.PageTable.rows c.loop-page.table) page p _ ∙ was.pages p);
    }
