use Rattle.pair_node.proofs.Lists.{listed-same}
use Rattle.pair_node.proofs.Walked.{gone_below, looked, looked-at-last}
use Rattle.pair_node.proofs.members.Members.take_gone.Goals as goal
use Rattle.pair_node.specs.Listed.{IsListed, owners, without_gone}
use Rattle.std.proofs.Common.{arith, subst, sym}
use Rattle.std.specs.Prelude.{ℕ, ◌+◌, ◌≤◌, ◌^◌}

pub returns-in_default-checked_add : goal.returns-in_default-checked_add
returns-in_default-checked_add c = λ f l.
    let p = c.args.p.0 in
    let now = owners c.args.table.now in
    let e = c.in_default-checked_add.ensures in
    let past : 2 ^ 32 ≤ c.in-Some.t + 1 = omega (arith, e) in
    listed-same (gone_below p now f (c.in-Some.t + 1)) (without_gone p now f) c.args.cores c.take_if_gone.new.self (looked-at-last p now f c.args.cores c.args.self.now l (c.in-Some.t + 1) past)
    (looked p now f c.args.cores c.loop-t.self c.loop-t.from (c.loop-t.invariant f l) c.in-Some.t c.in-Some.ensures c.take_if_gone.new.self c.take_if_gone.ensures)

pub loop-t-preserved : goal.loop-t-preserved
loop-t-preserved c = λ f l.
    let p = c.args.p.0 in
    let now = owners c.args.table.now in
    let e = c.in-Some-checked_add.ensures in
    subst (λ (k : ℕ). IsListed (gone_below p now f k) c.args.cores c.take_if_gone.new.self) (sym e.1)
    (looked p now f c.args.cores c.loop-t.self c.loop-t.from (c.loop-t.invariant f l) c.in-Some.t c.in-Some.ensures c.take_if_gone.new.self c.take_if_gone.ensures)
