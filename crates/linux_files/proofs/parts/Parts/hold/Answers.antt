use Rattle.std.proofs.Common.{arith, refl}
use Rattle.std.proofs.lemmas.Bool.Decides.{nat_tests}
use Rattle.linux_files.proofs.Described.{described-store}
use Rattle.linux_files.proofs.parts.Parts.hold.Goals as goal

pub returns-clause-store : goal.returns-clause-store
returns-clause-store c = described-store c.args.self.now _ c.args.d _ (λ x. refl) c.take.ensures refl refl refl refl refl refl refl refl (λ x h. grind (arith, nat_tests, h)) c.requires.store
