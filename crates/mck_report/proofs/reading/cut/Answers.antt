use Rattle.std.proofs.Common.{Some, drop, take, ◌≡◌, ◌∙◌, ap, sym}
use Rattle.mck_report.proofs.Cuts.{cut_at_place, no_cut}
use Rattle.mck_report.specs.Reading.{Halves, cut_at}
use Rattle.mck_report.proofs.reading.cut.Goals as goal

pub returns-in-Some : goal.returns-in-Some
returns-in-Some c =
    let whole = cut_at_place c.args.mark c.args.bytes.now c.in-Some.at (sym c.in-Some.ensures.value) in
    rw (c.split_at.ensures.front, c.split_at-in-Some.ensures.back, c.split_at.ensures.back) whole

pub returns-in-None : goal.returns-in-None
returns-in-None c = no_cut c.args.mark c.args.bytes.now (sym c.in-None.ensures.value)
