use Rattle.rows_spaces.proofs.Frames.{in_all, in_more, next_low}
use Rattle.rows_spaces.proofs.checks.frames_in.Goals as goal
use Rattle.std.proofs.Common.{ap, arith, length, sym, ◌<◌, ◌∙◌}
use Rattle.std.specs.Prelude.{is_some, ◌^◌}

pub loop-page-smaller : goal.loop-page-smaller
loop-page-smaller g c =
    let rows = g.T.PageTable.rows c.args.table.now in
    let low = next_low rows (length c.args.mem.now) c.loop-page.from c.loop-page.invariant c.in-Some.page (sym c.next.ensures ∙ c.in-Some.is) in
    let high : c.in-Some.page < 2 ^ 27 = c.get.ensures.below (ap is_some c.in-Some-get.is) in
    omega arith

pub loop-page-preserved : goal.loop-page-preserved
loop-page-preserved g c =
    let rows = g.T.PageTable.rows c.args.table.now in
    in_more rows (length c.args.mem.now) c.loop-page.from c.loop-page.invariant c.in-Some.page (c.in-Some-get.f, c.in-Some-get.field-0-1) (sym c.next.ensures ∙ c.in-Some.is) (sym c.get.ensures.row ∙ c.in-Some-get.is)
    (let count = c.len.ensures in let fits = c.if-f-len.false in omega arith)

pub returns : goal.returns
returns g c = λ _.
    in_all (g.T.PageTable.rows c.args.table.now) (length c.args.mem.now) c.loop-page.from c.loop-page.invariant (sym c.next.ensures ∙ c.in_default.is)
