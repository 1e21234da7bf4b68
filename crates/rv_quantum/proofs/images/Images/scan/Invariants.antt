use Rattle.rv_quantum.specs.declared.image.Image.{Image}
use Rattle.std.proofs.Common.{slice_index_or, ℕ, ◌<◌}
use Rattle.std.specs.Prelude.{◌≢◌}
use Rattle.rv_quantum.proofs.images.Images.scan.Given as goal

abbrev pub invariant-loop-k : goal.invariant-loop-k
invariant-loop-k l = (j : ℕ) (d : Image) → j < l.k → (slice_index_or l.self.rows.items j d).page ≢ l.page
