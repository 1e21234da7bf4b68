use Rattle.mck_word.specs.EachLaws.{each-none}
use Rattle.proxy_worker.specs.Shown.{services_of, shown_service}
use Rattle.std.proofs.Common.{ap, ◌∙◌}
use Rattle.proxy_worker.proofs.proxy.Proxy.new.Goals as goal

pub returns : goal.returns
returns c = λ i. record {
  mirror = (c.new.ensures i).map;
  pins = c.new-2.ensures i;
  workers = c.new-3.ensures i;
  services = (ap (λ t. services_of t.map) c.new-4.ensures ∙ each-none shown_service) i;
  cleared = 0;
}
