use Rattle.std.proofs.Common.{ap}
use Rattle.linux_files.proofs.Begins.{store-new}
use Rattle.linux_files.proofs.parts.Parts.new.Goals as goal

pub returns-clause-store : goal.returns-clause-store
returns-clause-store c =
    store-new _ c.in_ok-new.ensures.holds (ap (λ t. t.counts) c.new-6.ensures) (ap (λ t. t.counts) c.new-7.ensures) (ap (λ t. t.counts) c.new-8.ensures) (ap (λ t. t.map) c.new-4.ensures) (ap (λ t. t.map) c.new-5.ensures)
    c.new-2.ensures.map
