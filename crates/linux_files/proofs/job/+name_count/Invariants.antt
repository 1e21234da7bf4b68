use Rattle.std.proofs.Common.{length}
use Rattle.linux_files.proofs.job.+name_count.Given as goal

abbrev pub decreases-name_count : goal.decreases-name_count
decreases-name_count l = length l.path.now
