use Rattle.std.proofs.Common.{◌≡◌, take}
use Rattle.guest_asm.specs.Images.{code_of}
use Rattle.guest_asm.proofs.images.code_of.Given as goal

abbrev pub invariant-loop-word : goal.invariant-loop-word
invariant-loop-word l = l.code ≡ code_of (take l.word-index l.words)
