use Rattle.mck_report.proofs.Journals.{entry_cut, no_feed, other_line}
use Rattle.mck_report.proofs.reading.split_entry.Goals as goal

pub returns-in_default-clause-none : goal.returns-in_default-clause-none
returns-in_default-clause-none c e more h s = no_feed c.args.bytes.now e more c.in_default.ensures h.fits s

pub returns-in_default-read_entry-clause-none : goal.returns-in_default-read_entry-clause-none
returns-in_default-read_entry-clause-none c e more h s =
    other_line c.args.bytes.now c.in-Some.line.now c.in-Some.rest.now e more c.in-Some.ensures (c.in_default-read_entry.ensures.none e h) h.fits s

pub returns-clause-some : goal.returns-clause-some
returns-clause-some c =
    (c.in-Some-read_entry.ensures.entry, entry_cut c.args.bytes.now c.in-Some.line.now c.in-Some.rest.now c.in-Some-read_entry.event c.in-Some.ensures c.in-Some-read_entry.ensures.line)
