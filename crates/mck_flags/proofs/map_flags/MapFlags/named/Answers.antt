use Rattle.bitflags.proofs.OnLiterals.{bitflags_on_literals}
use Rattle.mck_flags.proofs.NamedBits.{named}
use Rattle.mck_flags.proofs.map_flags.MapFlags.named.Goals as goal

pub returns : goal.returns
unfolding bitflags_on_literals
returns c = named (λ f. f.0) c.from_bits.result c.args.bits _ (c.from_bits.ensures.value tt) (c.from_bits.ensures.known tt)
