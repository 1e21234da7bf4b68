use Rattle.kernel_model.specs.Layout.{addresses_from}
use Rattle.one_memory.proofs.GuestStack.{auxiliary, length-strings}
use Rattle.std.proofs.Common.{[], ap, arith, length, ◌++◌, ◌∙◌, ◌∷◌}
use Rattle.std.specs.Prelude.{List, ℕ}
use Rattle.one_memory.proofs.stack.first_words.Goals as goal

pub add_addresses-requires : goal.add_addresses-requires
add_addresses-requires c = omega (arith, c.first_string-first.ensures, length-strings c.args.arguments.now, c.requires.small)

pub returns : goal.returns
returns c =
    let arguments = c.args.arguments.now in
    let one = c.in_ok-push.ensures.items ∙ ap (λ (ws : List ℕ). ws ++ (length arguments ∷ [])) c.new-words.ensures.items in
    let two = c.in_ok-add_addresses.ensures ∙ (λ i. one i ++ addresses_from (c.first_string-first.ensures i) arguments) in
    let words = c.add_addresses.new.words.items in
    c.in_ok-extend_from_slice.ensures.items
    ∙ (ap (λ (n : ℕ). words ++ auxiliary (record c.args.image.now { phnum = n })) c.from.ensures ∙ ap (λ (ws : List ℕ). ws ++ auxiliary c.args.image.now) two)
