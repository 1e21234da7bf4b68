use Rattle.std.proofs.Common.{ap, sym, refl, ◌-◌, ◌∙◌}
use Rattle.std.specs.Prelude.{bit_or}
use Rattle.lwk_signals.proofs.SetBits.{or-clear}
use Rattle.lwk_signals.proofs.sets.with_signal.Goals as goal

pub returns-else-has : goal.returns-else-has
returns-else-has c =
    let clear = sym c.has.ensures ∙ c.if-has.false in
    ap (bit_or c.args.set.0) c.bit_of.ensures ∙ or-clear c.args.set.0 (c.args.signal - 1) clear ∙ sym (rw clear refl)
