use Rattle.kernel_model.specs.Spaces.{add_page, each_page}
use Rattle.kernel_model.specs.Pages.{zero_page}
use Rattle.one_memory.proofs.Paging.{add-next, low-add}
use Rattle.one_memory.specs.Changing.{spaced}
use Rattle.one_memory.specs.Pages.{AreLow}
use Rattle.std.proofs.Common.{◌≡◌, ◌+◌, ◌-◌, ap, arith, subst, sym, ◌∙◌}
use Rattle.one_memory.proofs.changes.add_pages.Goals as goal

pub loop-page-init : goal.loop-page-init
loop-page-init c = record {
  left = λ free. let e : free - (c.args.r.now.lo - c.args.r.now.lo) ≡ free = omega arith in ap (λ n. each_page (add_page c.args.rights) (c.args.r.now.hi - c.args.r.now.lo) c.args.r.now.lo (spaced c.args.rows.now.map n)) e;
  unused = omega arith;
  room = c.requires.room;
  low = c.requires.low;
}

pub loop-page-preserved : goal.loop-page-preserved
loop-page-preserved c =
    let was = c.loop-page.invariant in
    let page = c.loop-page.page in
    let unused = was.unused in
    let taken = c.add_one.ensures.unused in
    let below = c.requires.below in
    record {
      left = λ free. (let e : free - (page + 1 - c.args.r.now.lo) ≡ free - (page - c.args.r.now.lo + 1) = omega arith in
          ap (λ n. each_page (add_page c.args.rights) (c.args.r.now.hi - (page + 1)) (page + 1) (spaced c.add_one.new.rows.map n)) e
          ∙ add-next c.loop-page.rows.map c.add_one.new.rows.map free page c.args.r.now.hi (page - c.args.r.now.lo) c.args.rights (omega arith) c.add_one.ensures.page ∙ was.left free);
      unused = omega (arith, unused, taken);
      room = c.add_one.ensures.room;
      low = subst AreLow (sym c.add_one.ensures.page) (low-add c.loop-page.rows.map page (record { rights = c.args.rights; bytes = zero_page }) (omega (arith, below)) was.low);
    }

pub add_one-requires-clause-some : goal.add_one-requires-clause-some
add_one-requires-clause-some c = let unused = c.loop-page.invariant.unused in let some = c.requires.some in omega (arith, unused, some)

pub add_one-requires-clause-room : goal.add_one-requires-clause-room
add_one-requires-clause-room c = c.loop-page.invariant.room
