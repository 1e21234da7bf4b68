use Rattle.rv_quantum.proofs.Grown.{begun}
use Rattle.rv_quantum.specs.Images.{AreFresh}
use Rattle.std.proofs.Common.{length, subst, sym}
use Rattle.rv_quantum.proofs.batch.Batch.new.Goals as goal

pub invariant_of-result : goal.invariant_of-result
invariant_of-result c = record { promised = begun _ c.in_ok-images.images.rows.items (subst (λ is. AreFresh (length is) is) (sym c.in_ok-images.ensures) tt) }
