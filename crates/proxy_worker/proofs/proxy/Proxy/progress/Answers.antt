use Rattle.proxy_worker.proofs.Parts.{progress-of}
use Rattle.std.specs.Prelude.{None, Some}
use Rattle.proxy_worker.proofs.proxy.Proxy.progress.Goals as goal

pub returns-in-Some : goal.returns-in-Some
returns-in-Some c = progress-of c.args.self.now.services.map c.args.q.0 (Some c.in-Some.service.now) c.in-Some.ensures

pub returns-in-None : goal.returns-in-None
returns-in-None c = progress-of c.args.self.now.services.map c.args.q.0 None c.in-None.ensures
