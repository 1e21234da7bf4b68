use Rattle.job_boot.proofs.Lists.{all-first, all-rest}
use Rattle.job_boot.proofs.Nodes.{before-more}
use Rattle.job_boot.specs.Guests.{IsBefore, guest_at}
use Rattle.job_model.specs.Images.{IsImage}
use Rattle.job_model.specs.Prepared.{HasArguments}
use Rattle.kernel_model.specs.Layout.{guest_regs, heap_base_of}
use Rattle.kernel_model.specs.OneKernel.{OneKernel, guests_from}
use Rattle.one_kernel.proofs.parts.One.add_guests.Goals as goal
use Rattle.one_kernel.specs.Booting.{one_with}
use Rattle.one_kernel.specs.Parts.{one_of}
use Rattle.std.proofs.Common.{ap, arith, fold, length, subst, sym, ◌+◌, ◌∙◌}

pub add_guest-requires-clause-image : goal.add_guest-requires-clause-image
add_guest-requires-clause-image c =
    all-first IsImage c.loop-line.left.now c.in-Some-split_first.others.now c.in-Some-split_first.image.now c.in-Some-split_first.ensures.cases.0 c.loop-line.invariant.images

pub loop-line-preserved : goal.loop-line-preserved
loop-line-preserved c =
    let was = c.loop-line.invariant in
    let made = c.in_ok-add_guest.ensures in
    let lines = c.in-Some.ensures.cases.0 in
    let images = c.in-Some-split_first.ensures.cases.0 in
    let n = c.loop-line.number in
    let more = c.in-Some.more.now in
    let others = c.in-Some-split_first.others.now in
    let guest = guest_at n c.in-Some.line.now c.in-Some-split_first.image.now in
    let x = one_of c.loop-line.self in
    let long = ap length lines in
    record {
      state = ap (λ (o : OneKernel). fold one_with o (guests_from (n + 1) more others)) made
          ∙ ((λ i. fold one_with x (guests_from n (sym lines i) (sym images i))) ∙ was.state);
      before = subst (λ (o : OneKernel). IsBefore (n + 1) o.node) (sym made) (before-more n (guest_regs guest.image guest.arguments) (heap_base_of guest.image) x.node was.before);
      most = omega (arith, was.most, long);
      arguments = all-rest HasArguments c.loop-line.rest.now more c.in-Some.line.now lines was.arguments;
      images = all-rest IsImage c.loop-line.left.now others c.in-Some-split_first.image.now images was.images;
    }
