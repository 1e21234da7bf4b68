use Rattle.std.proofs.Common.{◌≡◌, ◌<◌, ◌≤◌, ◌+◌, ◌*◌, ◌-◌, ◌^◌, suc, nat_lt, arith, ap, inl, inr, subst, sym, ◌∙◌, ℕ}
use Rattle.std.proofs.lemmas.Bool.{cases_lt}
use Rattle.std.proofs.Math.Nat.{pow-suc}
use Rattle.frame_pool.specs.Trees.{IsPool}
use Rattle.frame_pool.proofs.Changes.{all-free, first-pool}
use Rattle.frame_pool.proofs.Tree.{pow-up}
use Rattle.frame_pool.proofs.FramePool.new.Goals.{then-leaves-n, else-leaves-n}
use Rattle.frame_pool.proofs.FramePool.new.Goals as goal

-- 32 levels suffice for any number of frames
suffices : (leaves height level n : ℕ) → leaves ≡ 2 ^ height → (leaves < n → height ≡ level) → level ≡ 32 → n < 2 ^ 32 → n ≤ leaves
suffices leaves height level n power enough at small = elim (cases_lt leaves n) [
  | inl l ↦ let e = enough l ∙ at in let full = power ∙ ap (λ h. 2 ^ h) e in omega arith
  | inr g ↦ g
]

pub loop-level-preserved : goal.loop-level-preserved
loop-level-preserved c = elim c.if-leaves-n.branch [
  | then-leaves-n w ↦
      let was = c.loop-level.invariant in
      let full = was.enough w.if-leaves-n.true in
      let e : c.loop-level.height + (31 - c.loop-level.height) ≡ 31 = omega arith in
      let up = subst (λ n. 2 ^ c.loop-level.height ≤ 2 ^ n) e (pow-up c.loop-level.height (31 - c.loop-level.height)) in
      record {
        power = w.leaves-is ∙ ap (λ x. x * 2) was.power ∙ (sym (pow-suc 2 c.loop-level.height) ∙ ap (λ h. 2 ^ h) (let s : suc c.loop-level.height ≡ c.if-leaves-n.height = omega (arith, w.height-is) in s));
        small = omega (arith, w.leaves-is, was.power);
        low = omega (arith, w.height-is);
        enough = λ l. omega (arith, w.height-is);
      }
  | else-leaves-n w ↦
      let was = c.loop-level.invariant in
      record {
        power = w.leaves-is ∙ was.power ∙ ap (λ h. 2 ^ h) (sym w.height-is);
        small = omega (arith, w.leaves-is);
        low = omega (arith, w.height-is);
        enough = λ l. absurd (omega (arith, w.leaves-is, w.if-leaves-n.false));
      }
]

pub invariant_of-result : goal.invariant_of-result
invariant_of-result c =
    let is = c.loop-f.invariant in
    let n : c.loop-f.f ≡ c.args.n = omega arith in
    subst (IsPool c.loop-f.nodes.items c.loop-level.leaves c.loop-level.height c.args.n) (sym c.from.ensures)
    (first-pool c.loop-f.nodes.items c.loop-level.leaves c.loop-level.height c.args.n (suffices _ _ _ _ c.loop-level.invariant.power c.loop-level.invariant.enough (omega arith) (omega arith)) (λ k a. is.set k a ∙ ap (λ m. nat_lt k (c.loop-level.leaves + m)) n) is.size c.loop-level.invariant.power c.loop-level.invariant.small is.rule)

pub returns : goal.returns
returns c =
    let is = c.loop-f.invariant in
    let n : c.loop-f.f ≡ c.args.n = omega arith in
    let free = all-free c.loop-f.nodes.items c.loop-level.leaves c.loop-level.height c.args.n (suffices _ _ _ _ c.loop-level.invariant.power c.loop-level.invariant.enough (omega arith) (omega arith)) (λ k a. is.set k a ∙ ap (λ m. nat_lt k (c.loop-level.leaves + m)) n) in
    λ j. record { frames = c.args.n; free = free j }
