use Rattle.frame_mem.specs.Pages.{written}
use Rattle.kernel_model.specs.Layout.{addresses_from}
use Rattle.lwk_boot.proofs.LeftOver.{drop-here}
use Rattle.lwk_boot.proofs.TopLoops.{length-from, length-with-word, strings-here, words-step}
use Rattle.mck_word.specs.Words.{little_endian}
use Rattle.std.proofs.Common.{◌≡◌, ◌+◌, ap, arith, drop, length, sym, ◌∙◌}
use Rattle.std.proofs.lemmas.List.{length-drop}
use Rattle.std.specs.Prelude.{List, flat_map, ℕ}
use Rattle.lwk_boot.proofs.stack.put_addresses.Goals as goal

pub loop-argument-preserved : goal.loop-argument-preserved
loop-argument-preserved c =
    let was = c.loop-argument.invariant in
    let all = c.args.arguments.now in
    let i = c.loop-argument.argument-index in
    let a = c.argument-item.result in
    let from = c.loop-argument.address in
    let page = c.loop-argument.page in
    let at = c.loop-argument.at in
    let here = drop-here all i a (omega arith) c.argument-item.is in
    let more = strings-here all i a (omega arith) c.argument-item.is in
    let rest = length-drop (i + 1) all in
    let next : from + (c.len.result + 1) ≡ from + length a + 1 = omega (arith, c.len.ensures) in
    let some = length-from (from + length a + 1) (drop (i + 1) all) in
    record {
      left = (λ j. written (c.put_word.ensures j) (at + 8) (flat_map (little_endian 8) (addresses_from (next j) (drop (i + 1) all))))
          ∙ (words-step page at from (addresses_from (from + length a + 1) (drop (i + 1) all)) (omega (arith, rest, some, was.place, was.long, c.requires.room))
          ∙ (sym (ap (λ (ss : List (List ℕ)). written page at (flat_map (little_endian 8) (addresses_from from ss))) here) ∙ was.left));
      place = omega (arith, was.place);
      address = omega (arith, more, was.address, next);
      long = ap length c.put_word.ensures ∙ (length-with-word page at from (omega (arith, was.place, was.long, c.requires.room)) ∙ was.long);
    }
