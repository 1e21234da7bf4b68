use Rattle.std.proofs.Common.{refl}
use Rattle.linux_files.proofs.Described.{described-kept, described-used}
use Rattle.linux_files.proofs.parts.Parts.leave.Goals as goal

pub settle-requires-clause-kept : goal.settle-requires-clause-kept
settle-requires-clause-kept c = described-kept c.args.self.now _ c.args.d _ (λ x. refl) c.give_back.ensures refl refl refl refl refl refl refl refl c.requires.kept

pub settle-requires-clause-used : goal.settle-requires-clause-used
settle-requires-clause-used c =
    let old = c.args.self.now in
    described-used old (record old { descriptions = c.give_back.new.descriptions }) c.args.d _ (λ x. refl) c.give_back.ensures refl refl refl refl refl refl refl refl c.requires
