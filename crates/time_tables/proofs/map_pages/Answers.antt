use Rattle.std.proofs.Common.{arith, ◌+◌, ◌-◌, ◌^◌}
use Rattle.time_tables.proofs.Steps.{one_range, put-absent, put-there}
use Rattle.time_tables.proofs.map_pages.Goals as goal

pub loop-page-preserved : goal.loop-page-preserved
loop-page-preserved g c =
    let rows = g.T.PageTable.rows in
    let was = c.loop-page.invariant in
    let page = c.loop-page.page in
    record {
      room = c.insert.ensures.keeps _ (one_range (2 ^ 20) (2 ^ 20 + c.args.count) page (omega arith) (omega arith)) was.room;
      absent = put-absent (rows c.loop-page.table) (rows c.insert.new.self) page (record { 0 = page - 2 ^ 20 }, record { 0 = 3 }) c.insert.ensures.row (2 ^ 20 + c.args.count) was.absent;
      there = put-there (rows c.loop-page.table) (rows c.insert.new.self) page (record { 0 = page - 2 ^ 20 }, record { 0 = 3 }) c.insert.ensures.row (2 ^ 20) was.there;
    }
