use Rattle.std.proofs.Common.{[], ◌∷◌, ◌++◌, ◌∙◌, ap, arith}
use Rattle.guest_asm.specs.Growing.{grow_image}
use Rattle.guest_asm.proofs.Counting.{counted_more}
use Rattle.guest_asm.proofs.growing.grow_images.Goals as goal

pub loop-guest-preserved : goal.loop-guest-preserved
loop-guest-preserved c =
    record {
      value = counted_more grow_image c.loop-guest.guest c.loop-guest.images c.push.new.self c.loop-guest.invariant.some c.loop-guest.invariant.value
          (c.in_ok-push.ensures.ok ∙ ap (λ x. c.loop-guest.images ++ x ∷ []) c.in_ok-grow_image.ensures);
      some = omega arith;
      most = omega arith;
    }
