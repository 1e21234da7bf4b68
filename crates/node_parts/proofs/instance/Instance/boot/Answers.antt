use Rattle.ihk_parts.specs.Walking.{LeavesLess}
use Rattle.node_parts.proofs.instance.Instance.boot.Goals as goal
use Rattle.std.proofs.Common.{subst, sym}

pub begin-requires : goal.begin-requires
begin-requires g c =
    subst LeavesLess (sym c.in-Ok.ensures.state)
    (λ journal e legal may. c.every_event_leaves_less.ensures.always c.args.job.now c.args.images.now journal e
    c.requires (c.in-Ok.ensures.frames, legal) may)
