use Rattle.rv_quantum.proofs.Grown.{one-more}
use Rattle.rv_quantum.specs.Promised.{Promised}
use Rattle.rv_quantum.specs.declared.image.Image.{Image}
use Rattle.std.proofs.Common.{List, [], subst, sym, ◌++◌, ◌∷◌, ◌≡◌}
use Rattle.rv_quantum.proofs.batch.Batch.keep.Goals as goal

pub invariant_of-self : goal.invariant_of-self
invariant_of-self g c =
    let s = c.args.self.now in
    let more : List Image = s.images.rows.items ++ c.asked.result ∷ [] in
    let back : more ≡ c.add.new.self.rows.items = sym {A = List Image} c.add.ensures in
    record {
      promised = subst (λ is. Promised s.first s.done is s.regs s.stop) back
          (one-more s.first s.done s.images.rows.items c.asked.result s.regs s.stop c.asked.ensures.fresh s.promised);
    }
