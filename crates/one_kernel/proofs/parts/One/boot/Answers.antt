use Rattle.job_boot.proofs.Nodes.{begins-before}
use Rattle.job_boot.specs.Guests.{IsBefore}
use Rattle.job_model.specs.Prepared.{HasArguments}
use Rattle.kernel_model.specs.OneKernel.{OneKernel, guests_from}
use Rattle.one_kernel.proofs.BootFolds.{boots}
use Rattle.one_kernel.proofs.parts.One.boot.Goals as goal
use Rattle.one_kernel.specs.Booting.{one_with}
use Rattle.std.proofs.Common.{All, fold, subst, sym, ◌∙◌}

pub add_guests-requires-clause-before : goal.add_guests-requires-clause-before
add_guests-requires-clause-before c = subst (λ (o : OneKernel). IsBefore 1 o.node) (sym c.in_ok-one.ensures) (begins-before c.args.job.now)

pub add_guests-requires-clause-arguments : goal.add_guests-requires-clause-arguments
add_guests-requires-clause-arguments c = subst (All HasArguments) (sym c.as_slice.ensures) c.requires.guest_lines

pub returns : goal.returns
returns c =
    c.in_ok-add_guests.ensures
    ∙ ((λ i. fold one_with (c.in_ok-one.ensures i) (guests_from 1 (c.as_slice.ensures i) c.args.images.now)) ∙ boots c.args.job.now c.args.images.now)
