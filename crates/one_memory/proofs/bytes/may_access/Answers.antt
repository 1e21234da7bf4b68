use Rattle.one_memory.proofs.BytesRead.{decided}
use Rattle.one_memory.proofs.bytes.may_access.Goals as goal

pub returns-clause-may : goal.returns-clause-may
returns-clause-may c = decided c.args.rows.now.map c.args.a c.args.address c.args.len c.pages_touched.result c.all_have.result c.pages_touched.ensures.some c.pages_touched.ensures.none c.all_have.ensures
