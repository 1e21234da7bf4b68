use Rattle.std.proofs.Common.{[], ◌∷◌, ◌++◌, ◌∙◌, ap, arith}
use Rattle.guest_asm.specs.Growing.{grow_guest}
use Rattle.guest_asm.proofs.Counting.{counted_more}
use Rattle.guest_asm.proofs.growing.grow_guests.Goals as goal

pub loop-guest-preserved : goal.loop-guest-preserved
loop-guest-preserved c =
    record {
      value = counted_more grow_guest c.loop-guest.guest c.loop-guest.guests c.push.new.self c.loop-guest.invariant.some c.loop-guest.invariant.value
          (c.in_ok-push.ensures.ok ∙ ap (λ x. c.loop-guest.guests ++ x ∷ []) c.in_ok-guest_line.ensures);
      some = omega arith;
      most = omega arith;
    }
