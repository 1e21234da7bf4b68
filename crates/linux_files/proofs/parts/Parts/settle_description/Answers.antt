use Rattle.std.proofs.Common.{◌≡◌, ◌∙◌, ap, subst, sym, true}
use Rattle.file_tree.proofs.IndexEdits.{at-gone}
use Rattle.linux_files.specs.Seen.{is_used}
use Rattle.mck_word.specs.Maps.{at}
use Rattle.std.proofs.Common.{refl}
use Rattle.std.specs.Prelude.{IfSome}
use Rattle.linux_files.proofs.parts.Parts.settle_description.Goals as goal

pub returns-then-is_unused-clause-used : goal.returns-then-is_unused-clause-used
returns-then-is_unused-clause-used c =
    let none = ap (λ m. at m c.args.d) c.drop_description.ensures.gone ∙ at-gone c.args.self.now.descriptions.map c.args.d c.args.d refl in
    subst (λ o. IfSome o (λ x. is_used c.drop_description.new.self c.args.d x ≡ true)) (sym none) tt
