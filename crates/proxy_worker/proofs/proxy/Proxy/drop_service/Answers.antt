use Rattle.mck_word.specs.EachLaws.{each-cut}
use Rattle.mck_word.specs.Maps.{at}
use Rattle.proxy_worker.proofs.Parts.{cut-absent, not-found, with-services}
use Rattle.proxy_worker.specs.Shown.{services_of, shown_service}
use Rattle.std.proofs.Common.{ap, sym, ◌∙◌}
use Rattle.proxy_worker.proofs.proxy.Proxy.drop_service.Goals as goal

pub returns-then-is_some : goal.returns-then-is_some
returns-then-is_some c = with-services c.args.self.now c.remove.new.self _ (ap (λ t. services_of t.map) c.remove.ensures.rest ∙ each-cut shown_service c.args.self.now.services.map c.args.q.0)

pub returns-else-is_some : goal.returns-else-is_some
returns-else-is_some c =
    let m = c.args.self.now.services.map in
    with-services c.args.self.now c.args.self.now.services _ (sym (ap (λ n. services_of n) (cut-absent m c.args.q.0 (not-found c.get.result (at m c.args.q.0) c.get.ensures (sym c.if-is_some.ensures)))) ∙ each-cut shown_service m c.args.q.0)
