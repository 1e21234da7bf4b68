use Rattle.std.proofs.Common.{◌-◌, ◌/◌, ◌^◌, bit_and, ap, ◌∙◌}
use Rattle.std.proofs.lemmas.Nat.{and_mask, one_shl}
use Rattle.rv_code.proofs.fields.field.Goals as goal

pub returns : goal.returns
returns c =
    ap (λ k. bit_and (c.args.w / 2 ^ c.args.lo) (k - 1)) (one_shl c.args.len 32 c.requires.proper) ∙ and_mask (c.args.w / 2 ^ c.args.lo) c.args.len
