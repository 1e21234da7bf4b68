use Rattle.linux_files.proofs.Settles.{suspects-used}
use Rattle.linux_files.specs.Steps.{is_suspect}
use Rattle.linux_files.proofs.parts.Parts.settle_descriptions.Goals as goal

pub returns-else-self-clause-used : goal.returns-else-self-clause-used
returns-else-self-clause-used c =
    suspects-used c.args.self.now c.settle_some.new.self (is_suspect c.args.suspects.now) c.requires.used c.if-self.false c.settle_some.ensures.follows c.settle_some.ensures.used
