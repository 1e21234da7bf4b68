use Rattle.std.proofs.Common.{◌+◌, ◌^◌}
use Rattle.time_tables.proofs.Steps.{cut-absent, cut-there}
use Rattle.time_tables.proofs.unmap_pages.Goals as goal

pub loop-page-preserved : goal.loop-page-preserved
loop-page-preserved g c =
    let rows = g.T.PageTable.rows in
    let was = c.loop-page.invariant in
    let page = c.loop-page.page in
    record {
      absent = cut-absent (rows c.loop-page.table) (rows c.remove.new.self) page c.remove.ensures.rest (2 ^ 20) was.absent;
      there = cut-there (rows c.loop-page.table) (rows c.remove.new.self) page c.remove.ensures.rest (2 ^ 20 + c.args.count) was.there;
    }
