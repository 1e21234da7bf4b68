use Rattle.isa_model.specs.Memory.{read_bytes}
use Rattle.lwk_space.proofs.BytesRead.{not-allowed}
use Rattle.lwk_space.specs.Lacks.{memory}
use Rattle.mck_word.specs.declared.Access.TheVariants.{Read}
use Rattle.std.proofs.Common.{ap, cond, length, sym, ◌∙◌}
use Rattle.lwk_views.proofs.read_into.Goals as goal

pub returns-in-Err-clause-may : goal.returns-in-Err-clause-may
returns-in-Err-clause-may g c = sym (not-allowed _ Read c.args.address (length c.args.into.now) _ c.in-Err.ensures.lack)

pub returns-in-Err-clause-read : goal.returns-in-Err-clause-read
returns-in-Err-clause-read g c =
    let m = memory (g.T.PageTable.rows c.args.space.now.table) c.args.mem.now in
    c.in-Err.ensures.unread ∙ sym (ap (λ b. cond b (read_bytes m c.args.address (length c.args.into.now)) c.args.into.now) (not-allowed m Read c.args.address (length c.args.into.now) _ c.in-Err.ensures.lack))
