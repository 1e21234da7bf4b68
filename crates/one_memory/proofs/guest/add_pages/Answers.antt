use Rattle.one_memory.proofs.GuestPages.{content, pages-end, pages-next}
use Rattle.std.proofs.Common.{arith, refl, ◌∙◌}
use Rattle.one_memory.proofs.guest.add_pages.Goals as goal

pub loop-page-preserved : goal.loop-page-preserved
loop-page-preserved c =
    let s = c.args.s.now in
    let page = c.loop-page.page in
    record {
      left = pages-next (content s) c.loop-page.memory.map c.add_page.new.memory.map page c.args.r.now.hi (content s page) (omega arith) c.add_page.ensures.page refl ∙ c.loop-page.invariant.left;
      room = omega (arith, c.add_page.ensures.spare, c.loop-page.invariant.room);
    }

pub returns : goal.returns
returns c = pages-end (content c.args.s.now) c.loop-page.memory.map c.loop-page.page c.args.r.now.hi (omega arith) ∙ c.loop-page.invariant.left
