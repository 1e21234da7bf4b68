use Rattle.hybrid_model.specs.Sides.{Side, call_of}
use Rattle.hybrid_model.specs.Answer.{thread_served}
use Rattle.pair_node.proofs.Sides.{new-thread, no-side, own-side}
use Rattle.pair_node.proofs.steps.thread_of_worker.Goals as goal
use Rattle.std.proofs.Common.{ap, sym, ◌∙◌}
use Rattle.std.specs.Option.{option_copied}

pub returns-in-Some : goal.returns-in-Some
returns-in-Some g c =
    (c.thread_of_call.ensures ∙ ap (λ k. (call_of c.in-Some.side.now.channel.book.requests k).tid.0) c.serves.ensures) ∙ ap (λ (s : Side). thread_served s c.args.w) (sym (own-side g.T.PageTable.rows g.F.FileStore.files c.args.parts.now c.args.p.0 c.in-Some.side.now (sym c.get.ensures ∙ ap option_copied c.in-Some.is)))

pub returns-in-None : goal.returns-in-None
returns-in-None g c =
    sym (ap (λ (s : Side). thread_served s c.args.w) (no-side g.T.PageTable.rows g.F.FileStore.files c.args.parts.now c.args.p.0 (sym c.get.ensures ∙ ap option_copied c.in-None.is)) ∙ new-thread c.args.w)
