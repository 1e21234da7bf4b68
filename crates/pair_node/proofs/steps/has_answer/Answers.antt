use Rattle.hybrid_model.specs.Sides.{Side}
use Rattle.hybrid_model.specs.Answer.{answer_to}
use Rattle.pair_node.proofs.Sides.{new-answer, no-side, own-side}
use Rattle.pair_node.proofs.steps.has_answer.Goals as goal
use Rattle.proxy_worker.specs.Shown.{linux_of}
use Rattle.std.proofs.Common.{ap, sym, ◌∙◌}
use Rattle.std.specs.Option.{option_copied}
use Rattle.std.specs.Prelude.{is_some}

pub returns-in-Some : goal.returns-in-Some
returns-in-Some g c =
    c.is_some.ensures ∙ ap is_some (c.answer_to.ensures (linux_of c.in-Some.side.now.proxy)) ∙ ap (λ (s : Side). is_some (answer_to s c.args.w)) (sym (own-side g.T.PageTable.rows g.F.FileStore.files c.args.parts.now c.args.p.0 c.in-Some.side.now (sym c.get.ensures ∙ ap option_copied c.in-Some.is)))

pub returns-in-None : goal.returns-in-None
returns-in-None g c =
    sym (ap (λ (s : Side). is_some (answer_to s c.args.w)) (no-side g.T.PageTable.rows g.F.FileStore.files c.args.parts.now c.args.p.0 (sym c.get.ensures ∙ ap option_copied c.in-None.is)) ∙ new-answer c.args.w)
