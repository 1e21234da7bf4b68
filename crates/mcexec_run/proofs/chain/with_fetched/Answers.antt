use Rattle.mcexec_run.proofs.Gathered.{prepared_of}
use Rattle.mcexec_run.proofs.chain.with_fetched.Goals as goal

pub returns-clause-prepared : goal.returns-clause-prepared
returns-clause-prepared c = prepared_of c.args.job c.args.fetched c.requires.job c.requires.filled c.requires.count
