use Rattle.rv_quantum.proofs.Grown.{begun}
use Rattle.rv_quantum.specs.Images.{AreFresh}
use Rattle.std.proofs.Common.{length, subst, sym}
use Rattle.rv_quantum.proofs.batch.Batch.forget.Goals as goal

pub invariant_of-self : goal.invariant_of-self
invariant_of-self c = record { promised = begun c.args.self.now.regs c.forget.new.self.rows.items (subst (λ is. AreFresh (length is) is) (sym c.forget.ensures) tt) }
