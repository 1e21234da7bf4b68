use Rattle.mck_report.proofs.Journals.{completes}
use Rattle.mck_report.proofs.reading.read_trace.Goals as goal

pub returns-clause-complete : goal.returns-clause-complete
returns-clause-complete c = completes c.args.bytes.now c.read.result c.read.ensures.spells c.read.ensures.fits c.read.ensures.broken
