-- A call that is ready, or that isn't, has a piece left.
use Rattle.kernel_model.specs.CallPhases as CallPhases
use Rattle.file_model.specs.Files.{Files}
use Rattle.kernel_model.specs.CallPhases.{Phase}
use Rattle.kernel_model.specs.Progress.{Progress, has_piece, is_ready, kind_of_phase, next_kind}
use Rattle.std.proofs.Common.{arith, refl}
use Rattle.std.specs.Prelude.{Bool, false, get_or, true, ◌≡◌}

pub ready-piece : (files : Files) (p : Progress) → is_ready (next_kind files p) ≡ true → has_piece p ≡ true
ready-piece files p e = go (get_or p.phases 0 CallPhases.Act) (has_piece p) refl e
  where
    go : (phase : Phase) (b : Bool) → has_piece p ≡ b → is_ready (kind_of_phase files p phase) ≡ true → has_piece p ≡ true
    go (CallPhases.Gather rs) true f u = f
    go (CallPhases.Gather rs) false f u = absurd (let k = rw f at u in grind (arith, k))
    go CallPhases.Act b f u = absurd (grind (arith, u))
    go (CallPhases.Scatter rs) true f u = f
    go (CallPhases.Scatter rs) false f u = absurd (let k = rw f at u in grind (arith, k))
    go (CallPhases.Stream rs) true f u = f
    go (CallPhases.Stream rs) false f u = absurd (let k = rw f at u in grind (arith, k))
