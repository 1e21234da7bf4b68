use Rattle.std.proofs.Common.{ap, ◌∙◌}
use Rattle.file_model.specs.Files.{Files}
use Rattle.mck_word.specs.MapLaws.{at-none}
use Rattle.mck_word.specs.Maps.{at}
use Rattle.rows_file_calls.proofs.both.Both.with_process.Goals as goal

-- src/both.rt:40:9
pub process-requires : goal.process-requires
process-requires g c = ap (λ (files : Files). at files.descriptors c.args.pid.0) c.requires.first ∙ at-none c.args.pid.0

-- src/both.rt:41:9
pub process-requires-2 : goal.process-requires-2
process-requires-2 g c = ap (λ (files : Files). at files.descriptors c.args.pid.0) c.requires.second ∙ at-none c.args.pid.0
