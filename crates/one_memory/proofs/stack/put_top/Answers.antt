use Rattle.isa_model.specs.Memory.{Memory, lacks, write_bytes}
use Rattle.kernel_model.specs.Layout.{stack_pointer, stack_words, strings, strings_address}
use Rattle.mck_word.specs.Lists.{count_from}
use Rattle.mck_word.specs.Words.{little_endian}
use Rattle.mck_word.specs.declared.Access.TheVariants.{Write}
use Rattle.one_memory.proofs.GuestPages.{lacks-written}
use Rattle.one_memory.proofs.GuestStack.{places, stored-top}
use Rattle.one_memory.specs.Views.{tried}
use Rattle.std.proofs.Common.{ap, arith, ◌∙◌}
use Rattle.std.specs.Prelude.{flat_map}
use Rattle.one_memory.proofs.stack.put_top.Goals as goal

pub returns : goal.returns
returns c =
    let image = c.args.image.now in
    let arguments = c.args.arguments.now in
    let p = places image arguments c.requires.arguments in
    let m0 = c.args.memory.now.map in
    let m1 = c.try_store.new.self.map in
    let m2 = c.try_store-2.new.self.map in
    let texts = strings arguments in
    let words = flat_map (little_endian 8) (stack_words image arguments) in
    let first = strings_address arguments in
    let pointer = stack_pointer arguments in
    let text = c.deref-2.ensures.value ∙ c.in_ok-strings.ensures in
    let bytes = c.deref-3.ensures.value ∙ (c.in_ok-bytes.ensures ∙ ap (flat_map (little_endian 8)) (c.deref.ensures.value ∙ c.in_ok-words.ensures)) in
    let one = c.try_store.ensures.memory ∙ stored-top m0 0x3fffffeff0 (count_from 0 16) c.requires.there (omega arith) (omega arith) in
    let there = ap (λ (m : Memory). lacks m Write 0x3fffffe) one ∙ (lacks-written (count_from 0 16) m0 Write 0x3fffffeff0 0x3fffffe ∙ c.requires.there) in
    let two = c.try_store-2.ensures.memory ∙ ((λ i. tried (c.first_string.ensures i) (text i) m1) ∙ stored-top m1 first texts there p.strings_low p.strings_high) in
    let still = ap (λ (m : Memory). lacks m Write 0x3fffffe) two ∙ (lacks-written texts m1 Write first 0x3fffffe ∙ there) in
    let three = c.try_store-3.ensures.memory ∙ ((λ i. tried (c.first_pointer.ensures i) (bytes i) m2) ∙ stored-top m2 pointer words still p.words_low p.words_high) in
    three ∙ ap (λ (m : Memory). write_bytes m pointer words) (two ∙ ap (λ (m : Memory). write_bytes m first texts) one)
