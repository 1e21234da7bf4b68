use Rattle.std.proofs.Common.{◌≡◌, ◌∙◌, ap, arith}
use Rattle.std.proofs.lemmas.Grind.{common_steps}
use Rattle.guest_asm.specs.Assembly.{words_of}
use Rattle.guest_asm.specs.Listing.{listing_of}
use Rattle.guest_asm.proofs.ListedTexts.{text_again, words_fit}
use Rattle.guest_asm.proofs.listing_text.listing.Goals as goal

pub returns-clause-again : goal.returns-clause-again
returns-clause-again c =
    let whole : c.loop-word.text ≡ listing_of c.args.words.now = grind (arith, common_steps) in
    ap words_of whole ∙ text_again c.args.words.now (words_fit c.args.words.now c.type_inv.words)
