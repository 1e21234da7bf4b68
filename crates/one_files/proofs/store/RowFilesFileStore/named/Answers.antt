use Rattle.std.proofs.Common.{sym}
use Rattle.one_files.proofs.Rows.{named-none}
use Rattle.one_files.proofs.store.RowFilesFileStore.named.Goals as goal

pub returns-in-None : goal.returns-in-None
returns-in-None c = sym (named-none c.args.self.now.descriptors.map c.args.pid.0 c.args.fd (sym c.in-None.ensures))
