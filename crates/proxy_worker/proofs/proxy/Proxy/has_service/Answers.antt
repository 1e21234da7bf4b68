use Rattle.proxy_worker.proofs.Parts.{shown-there}
use Rattle.std.proofs.Common.{sym, ◌∙◌}
use Rattle.proxy_worker.proofs.proxy.Proxy.has_service.Goals as goal

pub returns : goal.returns
returns c =
    let same = c.is_some.ensures ∙ shown-there c.args.self.now.services.map c.args.q.0 c.get.result c.get.ensures in
    (λ h. sym same ∙ h, λ h. same ∙ h)
