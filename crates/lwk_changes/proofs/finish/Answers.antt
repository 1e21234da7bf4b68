use Rattle.kernel_model.specs.MemoryCalls.{refusal_at_end}
use Rattle.std.proofs.Common.{ap, ◌∙◌}
use Rattle.lwk_changes.proofs.finish.Goals as goal

pub returns : goal.returns
returns g c = λ p m pages b e.
    c.finish.ensures p m (c.facts_at_end.ensures.describes p m pages b e) ∙ ap (λ free. refusal_at_end p m free c.args.change.now) c.facts_at_end.ensures.free
