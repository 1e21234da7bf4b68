use Rattle.frame_mem.specs.Pages.{written}
use Rattle.lwk_boot.proofs.TopLoops.{length-with-word, words-step}
use Rattle.mck_word.specs.Words.{little_endian}
use Rattle.std.proofs.Common.{◌≡◌, ◌+◌, ◌∷◌, ap, arith, drop, length, suc, sym, ◌∙◌}
use Rattle.std.proofs.Math.Seq.{drop-cons}
use Rattle.std.proofs.lemmas.List.{length-drop}
use Rattle.std.specs.Prelude.{flat_map, slice_index}
use Rattle.lwk_boot.proofs.stack.put_words.Goals as goal

pub loop-word-preserved : goal.loop-word-preserved
loop-word-preserved c =
    let was = c.loop-word.invariant in
    let ws = c.args.words.now in
    let i = c.loop-word.word-index in
    let e : suc i ≡ i + 1 = omega arith in
    let here = drop-cons ws i 0 (omega arith) ∙ ap (λ j. slice_index ws i ∷ drop j ws) e in
    let rest = length-drop (i + 1) ws in
    record {
      left = ap (λ p. written p (c.loop-word.at + 8) (flat_map (little_endian 8) (drop (i + 1) ws))) c.put_word.ensures
          ∙ (words-step c.loop-word.page c.loop-word.at (slice_index ws i) (drop (i + 1) ws) (omega (arith, rest, was.place, was.long, c.requires))
          ∙ (sym (ap (λ vs. written c.loop-word.page c.loop-word.at (flat_map (little_endian 8) vs)) here) ∙ was.left));
      place = omega (arith, was.place);
      long = ap length c.put_word.ensures ∙ (length-with-word c.loop-word.page c.loop-word.at (slice_index ws i) (omega (arith, was.place, was.long, c.requires)) ∙ was.long);
    }
