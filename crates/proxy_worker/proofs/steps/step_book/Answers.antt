use Rattle.hybrid_model.specs.Workers.{state_if}
use Rattle.hybrid_model.specs.Sides.{with_state}
use Rattle.proxy_worker.proofs.Acts.{no-answer, held-same}
use Rattle.std.proofs.Common.{ap, sym, ◌∙◌}
use Rattle.proxy_worker.proofs.steps.step_book.Goals as goal

pub returns-else-is_some : goal.returns-else-is_some
returns-else-is_some c =
    sym (held-same c.args.book.now.requests c.args.q.0 c.requires) ∙ ap (λ o. with_state c.args.book.now.requests c.args.q.0 (state_if o)) (sym (no-answer c.args.ended (sym c.if-is_some.ensures)))
