use Rattle.std.proofs.Common.{◌≡◌, true, false, ◌*◌, ◌≤◌, ◌^◌, ◌+◌, ◌-◌, suc, arith, subst, sym}
use Rattle.frame_pool.specs.Trees.{marked}
use Rattle.frame_pool.proofs.Tree.{IsPath, path-inner, to-left, to-right}
use Rattle.frame_pool.proofs.marks.lowest.Goals.{then-not-nodes-k, else-not-nodes-k}
use Rattle.frame_pool.proofs.marks.lowest.Goals as goal

pub bounds-nodes-k : goal.bounds-nodes-k
bounds-nodes-k c =
    let e : c.args.height - c.loop-level._level ≡ suc (c.args.height - (c.loop-level._level + 1)) = omega arith in
    let i = path-inner c.args.nodes.now c.args.leaves c.requires.rule _ c.loop-level.k (subst (λ m. IsPath c.args.nodes.now c.args.leaves m c.loop-level.k) e c.loop-level.invariant) in
    omega arith

pub loop-level-preserved : goal.loop-level-preserved
loop-level-preserved c =
    let m = c.args.height - (c.loop-level._level + 1) in
    let e : c.args.height - c.loop-level._level ≡ suc m = omega arith in
    let h = subst (λ m. IsPath c.args.nodes.now c.args.leaves m c.loop-level.k) e c.loop-level.invariant in
    let t : c.loop-level.k * 2 ≡ 2 * c.loop-level.k = omega arith in
    elim c.if-not-nodes-k.branch [
      | then-not-nodes-k w ↦
          let k : c.if-not-nodes-k.k ≡ 2 * c.loop-level.k + 1 = omega (arith, w.k-is) in
          subst (IsPath c.args.nodes.now c.args.leaves m) (sym k)
          (to-right c.args.nodes.now c.args.leaves c.requires.rule m c.loop-level.k h (subst (λ x. marked c.args.nodes.now x ≡ false) t w.if-not-nodes-k.true))
      | else-not-nodes-k w ↦
          let k : c.if-not-nodes-k.k ≡ 2 * c.loop-level.k = omega (arith, w.k-is) in
          subst (IsPath c.args.nodes.now c.args.leaves m) (sym k)
          (to-left c.args.nodes.now c.args.leaves c.requires.rule m c.loop-level.k h (subst (λ x. marked c.args.nodes.now x ≡ true) t w.if-not-nodes-k.false))
    ]

pub returns-clause-leaf : goal.returns-clause-leaf
returns-clause-leaf c =
    let e : c.args.height - c.loop-level._level ≡ 0 = omega arith in
    let low = subst (λ m. c.args.leaves ≤ c.loop-level.k * 2 ^ m) e c.loop-level.invariant.low in
    omega arith
