use Rattle.isa_model.specs.Memory.{Page}
use Rattle.key_rows.specs.Table.{Table}
use Rattle.mck_word.specs.Maps.{at}
use Rattle.one_memory.proofs.BytesWritten.{low-put}
use Rattle.std.proofs.Common.{ap, ◌∙◌}
use Rattle.std.specs.Prelude.{is_some}
use Rattle.one_memory.proofs.PageRows.put_number.Goals as goal

pub invariant_of-self : goal.invariant_of-self
invariant_of-self c = record {
  room = c.self.invariant.room;
  low = low-put c.self.inside.rows.map c.args.page _ (ap (λ (t : Table Page). is_some (at t.map c.args.page)) c.self.view_is ∙ c.requires.there) c.self.invariant.low;
}
