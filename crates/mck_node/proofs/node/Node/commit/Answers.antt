use Rattle.hybrid_model.specs.Events.{after, may}
use Rattle.mck_node.proofs.Longer.{one_more}
use Rattle.mck_node.proofs.node.Node.commit.Goals as goal
use Rattle.std.proofs.Common.{ap, sym, true, ◌∙◌, ◌≡◌}

pub invariant_of-self-2 : goal.invariant_of-self-2
invariant_of-self-2 g c =
    let e = c.args.event.now in
    let pair = g.M.Offers.pair c.self.inside.machine in
    let m : may pair e ≡ true = sym {a = true} {b = may pair e} c.if-not-may.ensures in
    let next : g.M.Offers.pair c.apply.new.self ≡ after pair e = c.apply.ensures.after ∙ ap (λ p. after p e) c.make_room.ensures.state in
    one_more g.B.Begun.start g.B.Begun.before pair (g.M.Offers.pair c.apply.new.self) c.self.inside.journal c.push.new.self e c.self.invariant m next c.in_ok-push.ensures.ok
