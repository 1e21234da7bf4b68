use Rattle.frame_mem.specs.Pages.{written}
use Rattle.kernel_model.specs.Layout.{addresses_from, strings, strings_address}
use Rattle.lwk_boot.proofs.GuestPages.{places}
use Rattle.lwk_boot.proofs.TopLoops.{length-from, words-three}
use Rattle.lwk_boot.specs.Top.{auxiliary_words, strings_place, top_page, words_place}
use Rattle.mck_word.specs.Words.{little_endian}
use Rattle.std.proofs.Common.{◌≡◌, ◌+◌, ◌-◌, ◌*◌, ap, arith, length, sym, ◌∙◌}
use Rattle.std.specs.Prelude.{flat_map}
use Rattle.lwk_boot.proofs.stack.stack_top.Goals as goal

pub overflow_sub-words : goal.overflow_sub-words
overflow_sub-words c = let p = places c.args.arguments.now c.requires in omega (arith, p.words_at, c.first_pointer.ensures)

pub overflow_sub-strings : goal.overflow_sub-strings
overflow_sub-strings c = let p = places c.args.arguments.now c.requires in omega (arith, p.strings_at, c.first_string-strings.ensures)

pub put_strings-requires : goal.put_strings-requires
put_strings-requires c = let p = places c.args.arguments.now c.requires in omega (arith, p.strings_at, p.strings_fit, c.first_string-strings.ensures, c.put.auto.page)

pub returns : goal.returns
unfolding top_page
returns c =
    let arguments = c.args.arguments.now in
    let p = places arguments c.requires in
    let text : c.first_string-strings.result - 0x3fffffe000 ≡ strings_place arguments = omega (arith, p.strings_at, c.first_string-strings.ensures) in
    let place : c.first_pointer.result - 0x3fffffe000 ≡ words_place arguments = ap (λ n. n - 0x3fffffe000) c.first_pointer.ensures in
    let page = c.put_strings.ensures ∙ (λ j. written (c.put.ensures j) (text j) (strings arguments)) in
    let one = c.put_word.ensures ∙ (λ j. written (page j) (place j) (little_endian 8 (length arguments))) in
    let two = c.put_addresses.ensures ∙ (λ j. written (one j) (place j + 8) (flat_map (little_endian 8) (addresses_from (c.first_string-strings.ensures j) arguments))) in
    let three = c.put_words.ensures ∙ (λ j. written (two j) (place j + 8 + 8 * length arguments) (flat_map (little_endian 8) (c.auxiliary.ensures j))) in
    let long = ap length page in
    three ∙ words-three _ (words_place arguments) (length arguments) (addresses_from (strings_address arguments) arguments) (auxiliary_words c.args.image.now) (length arguments)
    (sym (length-from (strings_address arguments) arguments)) (let some = length-from (strings_address arguments) arguments in omega (arith, long, some, p.words_fit, c.put.auto.page, c.put_strings.auto.page))
