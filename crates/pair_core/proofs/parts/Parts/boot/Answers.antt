use Rattle.hybrid_model.specs.Pairs.{Pair}
use Rattle.job_model.specs.Prepared.{HasArguments}
use Rattle.kernel_model.specs.OneKernel.{guests_from}
use Rattle.pair_core.proofs.BootFolds.{boots, whole-shortage}
use Rattle.pair_core.proofs.BootNode.{begins-before}
use Rattle.pair_core.proofs.parts.Parts.boot.Goals as goal
use Rattle.node_machine.specs.Booting.{BootFails}
use Rattle.pair_core.specs.Booting.{IsBefore, pair_with}
use Rattle.pair_core.specs.Shown.{pair_of}
use Rattle.std.proofs.Common.{All, ap, arith, fold, subst, sym, ◌∙◌, ◌≡◌}

pub add_guests-requires-clause-workers : goal.add_guests-requires-clause-workers
unfolding pair_of
add_guests-requires-clause-workers g c =
    let same : c.in_ok-parts.parts.workers ≡ c.args.job.now.workers = ap (λ (p : Pair). p.workers) c.in_ok-parts.ensures.state in
    omega (arith, same, c.requires.workers.1)

pub add_guests-requires-clause-before : goal.add_guests-requires-clause-before
add_guests-requires-clause-before g c = subst (λ (p : Pair). IsBefore 1 p.node) (sym c.in_ok-parts.ensures.state) (begins-before c.args.job.now)

pub add_guests-requires-clause-arguments : goal.add_guests-requires-clause-arguments
add_guests-requires-clause-arguments g c = subst (All HasArguments) (sym c.as_slice.ensures) c.requires.guest_lines

pub returns-in-Err-clause-frames : goal.returns-in-Err-clause-frames
unfolding pair_of
returns-in-Err-clause-frames g c =
    subst (BootFails c.in-Err.e)
    (whole-shortage c.args.job.now c.args.images.now (pair_of g.T.PageTable.rows g.F.FileStore.files c.in_ok-parts.parts) c.as_slice.result.now c.in_ok-parts.ensures.state c.as_slice.ensures) c.in-Err.ensures.frames

pub returns-in-Ok-clause-state : goal.returns-in-Ok-clause-state
returns-in-Ok-clause-state g c =
    c.in-Ok.ensures.state
    ∙ ((λ i. fold pair_with (c.in_ok-parts.ensures.state i) (guests_from 1 (c.as_slice.ensures i) c.args.images.now)) ∙ boots c.args.job.now c.args.images.now)

pub returns-in-Ok-clause-frames : goal.returns-in-Ok-clause-frames
unfolding pair_of
returns-in-Ok-clause-frames g c =
    sym (whole-shortage c.args.job.now c.args.images.now (pair_of g.T.PageTable.rows g.F.FileStore.files c.in_ok-parts.parts) c.as_slice.result.now c.in_ok-parts.ensures.state c.as_slice.ensures)
    ∙ c.in-Ok.ensures.frames
