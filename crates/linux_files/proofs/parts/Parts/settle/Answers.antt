use Rattle.std.proofs.Common.{◌∙◌, ap, subst, sym}
use Rattle.linux_files.proofs.Settles.{all-settled}
use Rattle.linux_files.specs.Steps.{AreUsed}
use Rattle.linux_files.specs.declared.parts.Parts.{Parts}
use Rattle.std.specs.Prelude.{true}
use Rattle.linux_files.proofs.parts.Parts.settle.Goals as goal

pub returns-clause-files : goal.returns-clause-files
returns-clause-files c =
    let used = subst (λ (p : Parts). AreUsed (λ _. true) p) (sym c.settle_pipes.ensures.rest) c.settle_descriptions.ensures.used in
    sym (all-settled c.settle_pipes.new.self c.settle_pipes.ensures.kept (ap (λ p. p.loose) c.settle_pipes.ensures.rest) used c.used.ensures) ∙ c.settle_pipes.ensures.settles ∙ c.settle_descriptions.ensures.follows.settles
