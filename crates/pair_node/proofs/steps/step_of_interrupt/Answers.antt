use Rattle.hybrid_model.specs.Interrupt.{image_of_interrupt}
use Rattle.hybrid_model.specs.Interrupt.{is_calling}
use Rattle.hybrid_model.specs.Pairs.{side_of}
use Rattle.pair_core.proofs.KernelFacts.{process-is}
use Rattle.pair_core.specs.Shown.{pair_of}
use Rattle.pair_node.proofs.steps.step_of_interrupt.Goals as goal
use Rattle.std.proofs.Common.{ap, sym, ◌∙◌}

pub returns-then-is_calling : goal.returns-then-is_calling
returns-then-is_calling g c =
    let x = c.args.parts.now in
    let t = c.args.t.0 in
    let pair = pair_of g.T.PageTable.rows g.F.FileStore.files x in
    let process = process-is g.T.PageTable.rows g.F.FileStore.files x t c.process_of_thread-p.result.0 c.process_of_thread-p.ensures in
    sym (ap (λ q. image_of_interrupt (is_calling (side_of pair q) t) t) process ∙ ap (λ b. image_of_interrupt b t) (sym c.is_calling.ensures ∙ c.if-is_calling.true))

pub returns-else-is_calling : goal.returns-else-is_calling
returns-else-is_calling g c =
    let x = c.args.parts.now in
    let t = c.args.t.0 in
    let pair = pair_of g.T.PageTable.rows g.F.FileStore.files x in
    let process = process-is g.T.PageTable.rows g.F.FileStore.files x t c.process_of_thread-p.result.0 c.process_of_thread-p.ensures in
    sym (ap (λ q. image_of_interrupt (is_calling (side_of pair q) t) t) process ∙ ap (λ b. image_of_interrupt b t) (sym c.is_calling.ensures ∙ c.if-is_calling.false))
