use Rattle.hybrid_model.specs.Sides.{Side}
use Rattle.hybrid_model.specs.Unpark.{thread_of_request}
use Rattle.pair_node.proofs.Sides.{new-request, no-side, own-side}
use Rattle.pair_node.proofs.steps.thread_of_request.Goals as goal
use Rattle.std.proofs.Common.{ap, sym, ◌∙◌}
use Rattle.std.specs.Option.{option_copied}

pub returns-in-Some : goal.returns-in-Some
returns-in-Some g c =
    c.thread_of_call.ensures ∙ ap (λ (s : Side). thread_of_request s c.args.q.0) (sym (own-side g.T.PageTable.rows g.F.FileStore.files c.args.parts.now c.args.p.0 c.in-Some.side.now (sym c.get.ensures ∙ ap option_copied c.in-Some.is)))

pub returns-in-None : goal.returns-in-None
returns-in-None g c =
    sym (ap (λ (s : Side). thread_of_request s c.args.q.0) (no-side g.T.PageTable.rows g.F.FileStore.files c.args.parts.now c.args.p.0 (sym c.get.ensures ∙ ap option_copied c.in-None.is)) ∙ new-request c.args.q.0)
