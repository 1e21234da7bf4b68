use Rattle.mck_report.proofs.Entered.{line_of}
use Rattle.mck_report.proofs.Journals.{entry_none, entry_not_first}
use Rattle.mck_report.proofs.reading.read_entry.Goals as goal
use Rattle.mck_report.proofs.reading.read_entry.Goals.{else-version-eq1-via-then-version-eq1+else-not-is_of_first, else-version-eq1-via-else-version-eq1}
use Rattle.std.proofs.Common.{sym}

pub returns-in_default-clause-none : goal.returns-in_default-clause-none
returns-in_default-clause-none c = entry_none c.args.line.now c.args.version (sym c.in_default.ensures)

pub returns-then-not-is_of_first-clause-none : goal.returns-then-not-is_of_first-clause-none
returns-then-not-is_of_first-clause-none c =
    entry_not_first c.args.line.now c.args.version c.in-Some.event (sym c.in-Some.ensures) c.if-version-eq1.true (sym c.if-not-is_of_first.ensures)

pub returns-clause-line : goal.returns-clause-line
returns-clause-line c = (line_of c.args.line.now c.in-Some.event (sym c.in-Some.ensures)).text

pub returns-clause-entry : goal.returns-clause-entry
returns-clause-entry c =
    let fits = (line_of c.args.line.now c.in-Some.event (sym c.in-Some.ensures)).fits in
    elim c.else-version-eq1.branch [
      | else-version-eq1-via-then-version-eq1+else-not-is_of_first w ↦ record { fits = fits; first = λ e. sym w.if-not-is_of_first.ensures }
      | else-version-eq1-via-else-version-eq1 w ↦ record { fits = fits; first = λ e. absurd (w.if-version-eq1.false e) }
    ]
