use Rattle.proxy_worker.proofs.Parts.{service-shows}
use Rattle.std.specs.Option.{option_copied}
use Rattle.proxy_worker.proofs.proxy.Proxy.service.Goals as goal

pub returns : goal.returns
returns c = service-shows c.args.self.now.services.map c.args.q.0 (option_copied c.get.result) c.get.ensures
