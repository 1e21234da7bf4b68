use Rattle.kernel_model.specs.MemoryCalls.{refusal_at_end}
use Rattle.one_changes.proofs.finish.Goals as goal
use Rattle.std.proofs.Common.{ap, ◌∙◌}

pub returns : goal.returns
returns c = λ p b.
    let m = c.args.memory.now.map in
    c.finish.ensures p m (c.facts_at_end.ensures.describes p b) ∙ ap (λ free. refusal_at_end p m free c.args.change.now) c.facts_at_end.ensures.free
