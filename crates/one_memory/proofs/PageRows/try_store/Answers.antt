use Rattle.one_memory.proofs.BytesWritten.{low-written}
use Rattle.std.proofs.Common.{arith}
use Rattle.one_memory.proofs.PageRows.try_store.Goals as goal

pub invariant_of-self : goal.invariant_of-self
invariant_of-self c = record {
  room = let spare = c.write.ensures.spare in let room = c.self.invariant.room in omega (arith, spare, room);
  low = low-written c.args.bytes.now c.self.inside.rows.map c.write.new.rows.map c.args.address c.write.ensures.memory c.self.invariant.low;
}
