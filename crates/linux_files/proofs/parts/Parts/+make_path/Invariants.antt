use Rattle.std.proofs.Common.{length}
use Rattle.linux_files.proofs.parts.Parts.+make_path.Given as goal

abbrev pub decreases-make_path : goal.decreases-make_path
decreases-make_path l = length l.path.now
