use Rattle.rv_quantum.proofs.Grown.{begun}
use Rattle.rv_quantum.proofs.batch.Batch.begin.Goals as goal

pub invariant_of-self : goal.invariant_of-self
invariant_of-self c = record { promised = begun c.args.regs c.renew.new.self.rows.items c.renew.ensures.fresh }
