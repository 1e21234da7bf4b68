use Rattle.key_rows.specs.Table.{Table}
use Rattle.isa_model.specs.Memory.{Page}
use Rattle.one_memory.proofs.BytesWritten.{low-none}
use Rattle.one_memory.specs.Pages.{AreLow}
use Rattle.std.proofs.Common.{arith, subst, sym}
use Rattle.one_memory.proofs.PageRows.new.Goals as goal

pub invariant_of-result : goal.invariant_of-result
invariant_of-result c = record { room = omega arith; low = subst (λ (t : Table Page). AreLow t.map) (sym c.new.ensures) low-none }
