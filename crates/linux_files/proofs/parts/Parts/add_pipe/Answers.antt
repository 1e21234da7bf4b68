use Rattle.std.proofs.Common.{refl}
use Rattle.linux_files.proofs.Keeps.{pipe-changed}
use Rattle.linux_files.proofs.parts.Parts.add_pipe.Goals as goal

pub returns-clause-store : goal.returns-clause-store
returns-clause-store c = pipe-changed c.args.self.now _ refl refl refl refl refl refl refl c.args.pipe _ c.add_bytes.ensures.map refl c.requires.store
