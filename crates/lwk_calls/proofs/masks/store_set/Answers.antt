use Rattle.lwk_calls.specs.SignalWords.{put_at}
use Rattle.lwk_space.specs.Lacks.{memory}
use Rattle.std.proofs.Common.{ap, ◌∙◌}
use Rattle.lwk_calls.proofs.masks.store_set.Goals as goal

pub returns-clause-memory : goal.returns-clause-memory
returns-clause-memory g c = c.store_at.ensures.memory ∙ ap (λ bytes. put_at c.args.old bytes (memory (g.T.PageTable.rows c.args.space.now.table) c.args.mem.now)) c.put_set.ensures
