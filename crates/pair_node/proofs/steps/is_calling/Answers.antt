use Rattle.hybrid_model.specs.Sides.{Side}
use Rattle.hybrid_model.specs.Interrupt.{is_calling}
use Rattle.pair_node.proofs.Sides.{new-calling, no-side, own-side, some-copied, some-shown}
use Rattle.pair_node.proofs.steps.is_calling.Goals as goal
use Rattle.std.proofs.Common.{ap, sym, ◌∙◌}
use Rattle.std.specs.Option.{option_copied}
use Rattle.std.specs.Prelude.{is_some}

pub returns-in-Some : goal.returns-in-Some
returns-in-Some g c =
    c.is_some.ensures ∙ some-copied c.get-in-Some.result ∙ ap is_some c.get-in-Some.ensures ∙ sym (some-shown c.in-Some.side.now.task.callers.map c.args.t.0) ∙ ap (λ (s : Side). is_calling s c.args.t.0) (sym (own-side g.T.PageTable.rows g.F.FileStore.files c.args.parts.now c.args.p.0 c.in-Some.side.now (sym c.get.ensures ∙ ap option_copied c.in-Some.is)))

pub returns-in-None : goal.returns-in-None
returns-in-None g c =
    sym (ap (λ (s : Side). is_calling s c.args.t.0) (no-side g.T.PageTable.rows g.F.FileStore.files c.args.parts.now c.args.p.0 (sym c.get.ensures ∙ ap option_copied c.in-None.is)) ∙ new-calling c.args.t.0)
