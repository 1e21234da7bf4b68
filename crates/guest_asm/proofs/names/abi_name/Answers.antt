use Rattle.std.proofs.Common.{◌≤◌, sym, arith}
use Rattle.guest_asm.proofs.Texts.{past_names}
use Rattle.guest_asm.proofs.names.abi_name.Goals as goal

pub returns-in_default : goal.returns-in_default
returns-in_default c =
    let past : 32 ≤ c.args.register = omega arith in sym (past_names c.args.register past)
