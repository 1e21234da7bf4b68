use Rattle.std.proofs.Common.{length}
use Rattle.file_calls.proofs.records.+put_number.Given as goal

abbrev pub decreases-put_number : goal.decreases-put_number
decreases-put_number l = length l.into.now
