use Rattle.one_files.proofs.Rows.{has-row}
use Rattle.one_files.proofs.RowFiles.cut_descriptor.Goals as goal

pub row_mut-requires : goal.row_mut-requires
row_mut-requires c = has-row c.args.self.now.descriptors.map c.args.pid.0 c.args.fd c.requires
