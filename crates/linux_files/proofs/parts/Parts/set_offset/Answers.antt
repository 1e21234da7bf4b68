use Rattle.std.proofs.Common.{refl}
use Rattle.linux_files.proofs.Described.{described-store}
use Rattle.linux_files.proofs.parts.Parts.set_offset.Goals as goal

pub returns-clause-store : goal.returns-clause-store
returns-clause-store c = described-store c.args.self.now _ c.args.d _ (λ x. refl) c.move_to.ensures refl refl refl refl refl refl refl refl (λ x h. h) c.requires.store
