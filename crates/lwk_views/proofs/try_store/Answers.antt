use Rattle.lwk_space.proofs.BytesRead.{not-allowed}
use Rattle.lwk_space.specs.Lacks.{memory}
use Rattle.lwk_views.proofs.Reading.{tried_not}
use Rattle.mck_word.specs.declared.Access.TheVariants.{Write}
use Rattle.std.proofs.Common.{ap, length, sym, ◌∙◌}
use Rattle.lwk_views.proofs.try_store.Goals as goal

pub returns-in-Err-clause-may : goal.returns-in-Err-clause-may
returns-in-Err-clause-may g c = sym (not-allowed _ Write c.args.address (length c.args.bytes.now) _ c.in-Err.ensures.lack)

pub returns-in-Err-clause-memory : goal.returns-in-Err-clause-memory
returns-in-Err-clause-memory g c =
    let rows = g.T.PageTable.rows c.args.space.now.table in
    ap (memory rows) c.in-Err.ensures.unwritten ∙ tried_not (memory rows c.args.mem.now) c.args.address c.args.bytes.now _ c.in-Err.ensures.lack
