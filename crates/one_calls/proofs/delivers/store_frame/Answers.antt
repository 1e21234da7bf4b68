use Rattle.isa_model.specs.Memory.{may_access, write_bytes}
use Rattle.mck_word.specs.declared.Access.TheVariants.{Write}
use Rattle.std.proofs.Common.{ap, cond, sym, ◌∙◌}
use Rattle.one_calls.proofs.delivers.store_frame.Goals as goal

pub returns-clause-may : goal.returns-clause-may
returns-clause-may c = c.try_store.ensures.may ∙ ap (may_access c.args.memory.now.map Write c.args.sp) c.push_frame.auto.into

pub returns-clause-stored : goal.returns-clause-stored
returns-clause-stored c =
    let m = c.args.memory.now.map in
    c.try_store.ensures.memory ∙ (λ i. cond (sym c.try_store.ensures.may i) (write_bytes m c.args.sp (c.push_frame.ensures i)) m)
