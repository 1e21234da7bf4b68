use Rattle.std.proofs.Common.{◌≡◌, ◌∙◌, ◌<◌, sym, ap, drop, suc, arith, add-one}
use Rattle.std.proofs.lemmas.List.{drop-drop}
use Rattle.guest_asm.proofs.Cuts.{cut_none, cut_found}
use Rattle.guest_asm.proofs.lines.cut.Goals as goal

pub returns-then-text-done : goal.returns-then-text-done
returns-then-text-done c =
    let behind : c.split_at-then-text-done.result.1.now ≡ drop (suc c.loop-done.done) c.args.text.now =
    c.split_at-then-text-done.ensures.back ∙ (ap (drop 1) c.split_at.ensures.back ∙ (drop-drop 1 c.loop-done.done c.args.text.now ∙ ap (λ n. drop n c.args.text.now) (add-one c.loop-done.done))) in
    let front = c.split_at.ensures.front in
    rw (front, behind) (sym (cut_found c.args.at c.args.text.now c.loop-done.done c.loop-done-test.true c.loop-done.invariant.none c.if-text-done.true))

pub returns : goal.returns
returns c = sym (cut_none c.args.at c.args.text.now (λ k i. let j : k < c.loop-done.done = omega arith in c.loop-done.invariant.none k j))
