use Rattle.isa_model.specs.Memory.{Page}
use Rattle.key_rows.specs.Table.{Table}
use Rattle.one_memory.proofs.BytesWritten.{some-kept}
use Rattle.rv64i_user.specs.Places.{page_put}
use Rattle.std.proofs.Common.{ap}
use Rattle.one_memory.proofs.running.PageRowsPageMem.set_some.Goals as goal

pub returns-clause-held : goal.returns-clause-held
returns-clause-held c = λ j p h. some-kept c.args.self.now.map c.put_number.new.self.map c.args.page (page_put c.args.off c.args.size c.args.v) (ap (λ (t : Table Page). t.map) c.put_number.ensures) p h
