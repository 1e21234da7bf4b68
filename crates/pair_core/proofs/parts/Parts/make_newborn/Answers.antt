use Rattle.pair_core.proofs.parts.Parts.make_newborn.Goals as goal
use Rattle.pair_core.specs.Newborn.{IsNewborn}
use Rattle.pair_core.specs.Shown.{pair_of}
use Rattle.pair_core.specs.declared.parts.Side.{Side}
use Rattle.std.proofs.Common.{ap, refl, subst, sym, ◌∙◌}
use Rattle.std.specs.Option.{option_copied}
use Rattle.std.specs.Prelude.{Some, ◌≡◌}

pub returns-clause-same : goal.returns-clause-same
unfolding pair_of
returns-clause-same g c = refl

pub returns-clause-newborn : goal.returns-clause-newborn
returns-clause-newborn g c = λ s there.
    let x = c.args.self.now in
    let found : Some c.in-Some.side.now ≡ Some s = sym (ap option_copied c.in-Some.is) ∙ c.get.ensures ∙ there in
    let same : c.in-Some.side.now ≡ s = cc in
    record {
      child = c.in_ok-child.child;
      kept = refl;
      is = subst (λ (z : Side g.row.T.Denot). IsNewborn g.T.PageTable.rows g.T.PageTable.has_room z.task.space x.lwk.rings x.workers c.in_ok-child.child) same c.in_ok-child.ensures;
    }
