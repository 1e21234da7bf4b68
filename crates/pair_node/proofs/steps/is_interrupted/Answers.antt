use Rattle.hybrid_model.specs.Sides.{Side, served, service_of}
use Rattle.pair_node.proofs.Sides.{new-interrupted, no-side, own-side}
use Rattle.pair_node.proofs.steps.is_interrupted.Goals as goal
use Rattle.proxy_worker.specs.Shown.{linux_of}
use Rattle.std.proofs.Common.{ap, sym, ◌∙◌}
use Rattle.std.specs.Option.{option_copied}

pub returns-in-Some : goal.returns-in-Some
returns-in-Some g c =
    (c.is_interrupted.ensures ∙ ap (λ k. (service_of (linux_of c.in-Some.side.now.proxy).services k).interrupted) c.serves.ensures) ∙ ap (λ (s : Side). (served s.linux c.args.w).interrupted) (sym (own-side g.T.PageTable.rows g.F.FileStore.files c.args.parts.now c.args.p.0 c.in-Some.side.now (sym c.get.ensures ∙ ap option_copied c.in-Some.is)))

pub returns-in-None : goal.returns-in-None
returns-in-None g c =
    sym (ap (λ (s : Side). (served s.linux c.args.w).interrupted) (no-side g.T.PageTable.rows g.F.FileStore.files c.args.parts.now c.args.p.0 (sym c.get.ensures ∙ ap option_copied c.in-None.is)) ∙ new-interrupted c.args.w)
