use Rattle.hybrid_model.specs.Sides.{Service}
use Rattle.proxy_worker.proofs.Parts.{has-service, service-changed, with-services}
use Rattle.std.proofs.Common.{refl}
use Rattle.proxy_worker.proofs.proxy.Proxy.set_worker.Goals as goal

pub row_mut-requires : goal.row_mut-requires
row_mut-requires c = has-service c.args.self.now.services.map c.args.q.0 c.requires

pub returns : goal.returns
returns c =
    with-services c.args.self.now (record { map = _; spare = c.args.self.now.services.spare }) _ (service-changed (λ (s : Service). record s { worker = c.args.worker }) c.args.self.now.services.map c.args.q.0 c.row_mut.result.now _ c.row_mut.ensures.value refl)
