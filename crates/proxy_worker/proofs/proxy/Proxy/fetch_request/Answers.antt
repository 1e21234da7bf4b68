use Rattle.hybrid_model.specs.Fetch.{fetch_request, fetched_as, new_service}
use Rattle.proxy_worker.proofs.Parts.{service-put, with-services}
use Rattle.proxy_worker.specs.Shown.{services_of}
use Rattle.std.proofs.Common.{ap, ◌∙◌}
use Rattle.proxy_worker.proofs.proxy.Proxy.fetch_request.Goals as goal

pub returns : goal.returns
unfolding fetch_request
returns c =
    let call = c.args.call.now in
    let linux = with-services c.args.self.now c.put.new.self _
    (ap (λ m. services_of m) c.put.ensures.row ∙ service-put c.args.self.now.services.map call.q.0 _ (new_service call) (λ i. record (new_service call) { progress = c.of_call-progress.ensures i })) in
    λ round i. fetched_as (linux i) (c.fetched.ensures i).requests round
