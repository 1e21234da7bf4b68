use Rattle.hybrid_model.specs.Intake.{image_of_intake}
use Rattle.hybrid_model.specs.Sides.{Side}
use Rattle.pair_core.proofs.Found.{of-process}
use Rattle.pair_core.proofs.Taken.{callers-fit}
use Rattle.pair_core.specs.Shown.{pair_of, shown_side}
use Rattle.pair_node.proofs.Sides.{no-side, own-side}
use Rattle.pair_node.proofs.steps.step_of_intake.Goals as goal
use Rattle.std.proofs.Common.{ap, refl, sym, ◌∙◌}
use Rattle.std.specs.Option.{option_copied}

pub step_of_message-requires : goal.step_of_message-requires
step_of_message-requires g c =
    let rows = g.T.PageTable.rows in
    let files = g.F.FileStore.files in
    let x = c.args.parts.now in
    let pair = pair_of rows files x in
    let s = c.in-Some.side.now in
    let k = of-process rows files x c.args.p.0 s (sym c.get.ensures ∙ ap option_copied c.in-Some.is) c.requires.coherent in
    callers-fit c.args.p.0 pair (shown_side rows s) k s.task.callers.map refl (c.few.ensures.numbers pair c.requires.coherent c.requires.small)

pub returns-in-Some : goal.returns-in-Some
returns-in-Some g c =
    c.step_of_message.ensures ∙ ap (λ (s : Side). image_of_intake s.to_lwk s) (sym (own-side g.T.PageTable.rows g.F.FileStore.files c.args.parts.now c.args.p.0 c.in-Some.side.now (sym c.get.ensures ∙ ap option_copied c.in-Some.is)))

pub returns-in-None : goal.returns-in-None
returns-in-None g c =
    ap (λ (s : Side). image_of_intake s.to_lwk s) (sym (no-side g.T.PageTable.rows g.F.FileStore.files c.args.parts.now c.args.p.0 (sym c.get.ensures ∙ ap option_copied c.in-None.is)))
