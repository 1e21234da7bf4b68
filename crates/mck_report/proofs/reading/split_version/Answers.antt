use Rattle.mck_report.proofs.Journals.{first_cut, names, no_version_cut, no_version_named}
use Rattle.mck_report.proofs.reading.split_version.Goals as goal
use Rattle.std.proofs.Common.{sym}

pub returns-in_default-clause-none : goal.returns-in_default-clause-none
returns-in_default-clause-none c = no_version_cut c.args.bytes.now c.in_default.ensures

pub returns-in_default-version_of-clause-none : goal.returns-in_default-version_of-clause-none
returns-in_default-version_of-clause-none c = no_version_named c.args.bytes.now c.in-Some.first.now c.in-Some.rest.now c.in-Some.ensures (sym c.in_default-version_of.ensures)

pub returns-clause-some : goal.returns-clause-some
returns-clause-some c =
    let named = names c.in-Some.first.now c.in-Some-version_of.version (sym c.in-Some-version_of.ensures) in
    (named.is, first_cut c.args.bytes.now c.in-Some.first.now c.in-Some.rest.now c.in-Some-version_of.version c.in-Some.ensures named)
