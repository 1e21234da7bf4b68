use Rattle.rv_quantum.proofs.Stored.{apart-added, clean-added}
use Rattle.rv_quantum.specs.Images.{AreClean, are_apart, pages_of}
use Rattle.std.proofs.Common.{[], rules, subst, sym, true, ◌++◌, ◌∷◌, ◌≡◌}
use Rattle.rv_quantum.proofs.images.Images.add.Goals as goal

pub invariant_of-self-clause-apart : goal.invariant_of-self-clause-apart
invariant_of-self-clause-apart c =
    let s = c.args.self.now in
    let e : c.push.new.self.items ≡ s.rows.items ++ c.args.image ∷ [] = search rules in
    subst (λ is. are_apart (pages_of is) ≡ true) (sym e) (apart-added s.rows.items c.args.image s.apart c.requires.new)

pub invariant_of-self-clause-clean : goal.invariant_of-self-clause-clean
invariant_of-self-clause-clean c =
    let s = c.args.self.now in
    let e : c.push.new.self.items ≡ s.rows.items ++ c.args.image ∷ [] = search rules in
    subst AreClean (sym e) (clean-added s.rows.items c.args.image c.requires.clean s.clean)
