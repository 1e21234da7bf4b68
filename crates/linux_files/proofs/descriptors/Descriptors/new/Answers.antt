use Rattle.linux_files.proofs.Slots.{empty-slots}
use Rattle.linux_files.proofs.descriptors.Descriptors.new.Goals as goal

pub returns : goal.returns
returns c = empty-slots 64
