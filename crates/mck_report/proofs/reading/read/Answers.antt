use Rattle.mck_report.proofs.Cuts.{cut}
use Rattle.mck_report.proofs.Journals.{broken, cut_shorter, entries_fit, first_cut, named_length, names, no_named, no_version, spells}
use Rattle.mck_report.proofs.reading.read.Goals as goal
use Rattle.mck_report.specs.Reading.{Halves, NoVersion}
use Rattle.mck_report.specs.declared.reading.TraceError.TheVariants.{Line}
use Rattle.std.proofs.Common.{Err, None, Some, ap, arith, length, refl, sym, ℕ, ◌≡◌}
use Rattle.std.proofs.lemmas.Result.{err_from_is_err_and}

pub returns-in_default-clause-broken : goal.returns-in_default-clause-broken
returns-in_default-clause-broken c n e =
    let one : n ≡ 1 = cc in
    let none : Halves = None in
    NoVersion one (no_version c.args.bytes.now none c.in_default.ensures (λ first rest h. cc))

pub returns-in_default-version_of-clause-broken : goal.returns-in_default-version_of-clause-broken
returns-in_default-version_of-clause-broken c n e =
    let one : n ≡ 1 = cc in
    let first = c.in-Some.first.now in
    let rest = c.in-Some.rest.now in
    let halves : Halves = Some (first, rest) in
    NoVersion one (no_version c.args.bytes.now halves c.in-Some.ensures (λ f r h. no_named first rest f r halves refl (sym c.in_default-version_of.ensures) h))

pub read_events-requires-clause-room : goal.read_events-requires-clause-room
read_events-requires-clause-room c =
    let named = names c.in-Some.first.now c.in-Some-version_of.version (sym c.in-Some-version_of.ensures) in
    omega (arith, cut_shorter c.args.bytes.now c.in-Some.first.now c.in-Some.rest.now c.in-Some.ensures, named_length c.in-Some.first.now c.in-Some-version_of.version named)

pub returns-in_err-read_events-clause-broken : goal.returns-in_err-read_events-clause-broken
returns-in_err-read_events-clause-broken c n e =
    let named = names c.in-Some.first.now c.in-Some-version_of.version (sym c.in-Some-version_of.ensures) in
    let p = err_from_is_err_and c.from_residual.result c.from_residual.ensures.1 in
    let s : c.in_err-read_events.field-0.0 ≡ Line n = cc (p.1, p.2, e) in
    broken c.args.bytes.now c.in-Some.rest.now c.in-Some-version_of.version n c.read_events.new.journal named.is
    (first_cut c.args.bytes.now c.in-Some.first.now c.in-Some.rest.now c.in-Some-version_of.version c.in-Some.ensures named)
    c.in_err-read_events.ensures.entries (c.in_err-read_events.ensures.broken n (ap (λ x. Err x) s))

pub returns-clause-spells : goal.returns-clause-spells
returns-clause-spells c =
    let named = names c.in-Some.first.now c.in-Some-version_of.version (sym c.in-Some-version_of.ensures) in
    spells c.args.bytes.now c.in-Some.rest.now c.in-Some-version_of.version c.read_events.new.journal named.is
    (first_cut c.args.bytes.now c.in-Some.first.now c.in-Some.rest.now c.in-Some-version_of.version c.in-Some.ensures named)
    c.in_ok-read_events.ensures.spelled c.in_ok-read_events.ensures.entries

pub returns-clause-fits : goal.returns-clause-fits
returns-clause-fits c = entries_fit c.in-Some-version_of.version c.read_events.new.journal c.in_ok-read_events.ensures.entries
