use Rattle.std.proofs.Common.{◌≡◌, take}
use Rattle.guest_asm.specs.Listing.{listing_of}
use Rattle.guest_asm.proofs.listing_text.listing.Given as goal

abbrev pub invariant-loop-word : goal.invariant-loop-word
invariant-loop-word l = l.text ≡ listing_of (take l.word-index l.words)
