use Rattle.ihk_parts.proofs.Passed.{leads_first, leads_found, leads_on, leads_to_end}
use Rattle.ihk_parts.proofs.passing.pass_cores_from.Goals as goal
use Rattle.ihk_parts.specs.Passing.{cores_from}
use Rattle.run_model.specs.declared.actors.Actor.TheVariants.{Core}
use Rattle.std.proofs.Common.{arith, ◌<◌, ◌≤◌}

pub loop-core-init : goal.loop-core-init
loop-core-init g c = let pair = g.P.Offers.pair c.args.machine.now in leads_first pair (cores_from pair c.args.first) c.args.skip.now

pub loop-core-preserved : goal.loop-core-preserved
loop-core-preserved g c =
    let pair = g.P.Offers.pair c.args.machine.now in
    let h : c.loop-core.core < pair.cores = omega (arith, c.cores-cores.ensures.value) in
    leads_on pair (cores_from pair c.args.first) c.args.skip.now (λ n. Core n) c.loop-core.core pair.cores c.loop-core.skip c.pass_one.new.skip h c.loop-core.invariant c.in_default.ensures

pub returns-in-Some : goal.returns-in-Some
returns-in-Some g c =
    let pair = g.P.Offers.pair c.args.machine.now in
    let h : c.loop-core.core < pair.cores = omega (arith, c.cores-cores.ensures.value) in
    leads_found pair (cores_from pair c.args.first) c.args.skip.now (λ n. Core n) c.loop-core.core pair.cores c.loop-core.skip c.in-Some.choice c.pass_one.new.skip c.pass_one.new.skip h c.loop-core.invariant c.in-Some.ensures

pub returns : goal.returns
returns g c =
    let pair = g.P.Offers.pair c.args.machine.now in
    let h : pair.cores ≤ c.loop-core.core = omega (arith, c.cores-cores.ensures.value) in
    leads_to_end pair (cores_from pair c.args.first) c.args.skip.now (λ n. Core n) c.loop-core.core pair.cores c.loop-core.skip h c.loop-core.invariant
