use Rattle.isa_model.specs.Memory.{may_access, write_bytes}
use Rattle.lwk_space.specs.Lacks.{memory}
use Rattle.mck_word.specs.declared.Access.TheVariants.{Write}
use Rattle.std.proofs.Common.{ap, cond, ◌∙◌}
use Rattle.lwk_calls.proofs.delivers.store_frame.Goals as goal

pub returns-clause-may : goal.returns-clause-may
returns-clause-may g c =
    let m = memory (g.T.PageTable.rows c.args.space.now.table) c.args.mem.now in
    c.try_store.ensures.may ∙ ap (may_access m Write c.args.sp) c.push_frame.auto.into

pub returns-clause-memory : goal.returns-clause-memory
returns-clause-memory g c =
    let m = memory (g.T.PageTable.rows c.args.space.now.table) c.args.mem.now in
    c.try_store.ensures.memory ∙ (λ i. cond (may_access m Write c.args.sp (c.push_frame.auto.into i)) (write_bytes m c.args.sp (c.push_frame.ensures i)) m)
