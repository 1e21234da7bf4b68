use Rattle.node_parts.proofs.Whole.{whole}
use Rattle.node_parts.proofs.instance.Instance.into_released.Goals as goal
use Rattle.std.proofs.Common.{map}

pub returns : goal.returns
returns g c =
    let s = c.self.inside in
    let made = c.into_parts-machine.ensures in
    whole s.job.value (map (λ x. x.value) s.images) s.walk c.args.self (g.M.Offers.pair c.into_parts-machine.result.0)
    c.into_parts-machine.result.1
    c.self.view_is c.self.invariant c.requires made.pair made.journal made.legal made.state
