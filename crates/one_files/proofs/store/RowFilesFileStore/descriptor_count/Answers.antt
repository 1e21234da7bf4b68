use Rattle.std.proofs.Common.{sym}
use Rattle.one_files.proofs.Counts.{count-no-row}
use Rattle.one_files.proofs.store.RowFilesFileStore.descriptor_count.Goals as goal

pub returns-in-None : goal.returns-in-None
returns-in-None c = sym (count-no-row c.args.self.now.descriptors.map c.args.pid.0 (sym c.in-None.ensures))
