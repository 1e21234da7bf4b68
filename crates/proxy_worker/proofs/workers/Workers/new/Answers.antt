use Rattle.proxy_worker.proofs.Parts.{empty-slots}
use Rattle.proxy_worker.proofs.workers.Workers.new.Goals as goal

pub returns : goal.returns
returns c = empty-slots 4
