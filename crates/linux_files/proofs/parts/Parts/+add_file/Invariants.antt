use Rattle.std.proofs.Common.{length}
use Rattle.linux_files.proofs.parts.Parts.+add_file.Given as goal

abbrev pub decreases-add_file : goal.decreases-add_file
decreases-add_file l = length l.path.now
