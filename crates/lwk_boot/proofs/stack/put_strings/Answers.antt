use Rattle.frame_mem.specs.Pages.{written}
use Rattle.kernel_model.specs.Layout.{strings}
use Rattle.lwk_boot.proofs.TopLoops.{strings-here, strings-step}
use Rattle.std.proofs.Common.{◌≡◌, ◌+◌, ◌∷◌, [], ap, arith, drop, length, ◌∙◌}
use Rattle.lwk_boot.proofs.stack.put_strings.Goals as goal

pub loop-argument-preserved : goal.loop-argument-preserved
loop-argument-preserved c =
    let was = c.loop-argument.invariant in
    let all = c.args.arguments.now in
    let i = c.loop-argument.argument-index in
    let a = c.argument-item.result in
    let page = c.loop-argument.page in
    let at = c.loop-argument.at in
    let more = strings-here all i a (omega arith) c.argument-item.is in
    let first = c.put.ensures ∙ ap (written page at) c.as_slice.ensures in
    let both = c.put-in-loop-argument.ensures ∙ (λ j. written (first j) (at + c.len-at.ensures j) (0 ∷ [])) in
    let end : at + c.len-at.result + 1 ≡ at + length a + 1 = omega (arith, c.len-at.ensures) in
    record {
      left = (λ j. written (both j) (end j) (strings (drop (i + 1) all)))
          ∙ (strings-step page at all i a (omega arith) c.argument-item.is (omega (arith, was.place, was.long, c.requires)) ∙ was.left);
      place = omega (arith, more, was.place, end);
      long = omega (arith, was.long);
    }
