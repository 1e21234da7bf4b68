use Rattle.hybrid_model.specs.Sides.{Service}
use Rattle.proxy_worker.proofs.Parts.{has-service, service-changed, with-services}
use Rattle.proxy_worker.specs.Shown.{shown_service}
use Rattle.std.proofs.Common.{of_z, rules, to_z, w64, ◌≡◌}
use Rattle.proxy_worker.proofs.proxy.Proxy.set_answer.Goals as goal

pub row_mut-requires : goal.row_mut-requires
row_mut-requires c = has-service c.args.self.now.services.map c.args.q.0 c.requires

pub returns : goal.returns
returns c =
    let same : to_z w64 (of_z w64 c.args.answer) ≡ c.args.answer = search rules in
    with-services c.args.self.now (record { map = _; spare = c.args.self.now.services.spare }) _ (service-changed (λ (s : Service). record s { answer = c.args.answer }) c.args.self.now.services.map c.args.q.0 c.row_mut.result.now _ c.row_mut.ensures.value (λ i. record (shown_service c.row_mut.result.now) { answer = same i }))
