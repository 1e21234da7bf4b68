use Rattle.mck_word.proofs.Signs.{below, above}
use Rattle.mck_word.proofs.sext.Goals as goal

pub returns-then-low-bits : goal.returns-then-low-bits
returns-then-low-bits c = below c.args.x c.args.bits c.requires.some c.requires.most c.if-low-bits.true

pub returns-else-low-bits : goal.returns-else-low-bits
returns-else-low-bits c = above c.args.x c.args.bits c.requires.some c.requires.most c.if-low-bits.false
