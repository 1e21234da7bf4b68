use Rattle.kernel_model.specs.Nodes.{is_there}
use Rattle.pair_core.proofs.Found.{found}
use Rattle.pair_core.proofs.MayThere.{some-row}
use Rattle.pair_core.proofs.parts.Parts.side_there.Goals as goal
use Rattle.pair_core.specs.Shown.{pair_of}
use Rattle.std.proofs.Common.{ap, sym, ◌∙◌}
use Rattle.std.specs.Option.{option_copied}
use Rattle.mck_word.specs.Maps.{at}
use Rattle.std.specs.Prelude.{false, true, ◌≡◌}

pub returns-then-not-is_there : goal.returns-then-not-is_there
unfolding pair_of
returns-then-not-is_there g c =
    let gone : c.is_there.result ≡ false = c.if-not-is_there.true in sym (c.is_there.ensures (g.F.FileStore.files c.args.self.now.files)) ∙ gone

pub unreachable-requires : goal.unreachable-requires
unfolding pair_of
unreachable-requires g c =
    let there = sym (c.is_there.ensures (g.F.FileStore.files c.args.self.now.files)) ∙ c.if-not-is_there.false in
    some-row (at c.args.self.now.sides.map c.args.p.0) (found g.T.PageTable.rows g.F.FileStore.files c.args.self.now c.args.p.0 c.requires there) (sym c.get.ensures ∙ ap option_copied c.in-None.is)

pub returns : goal.returns
unfolding pair_of
returns g c = record {
  there = sym (c.is_there.ensures (g.F.FileStore.files c.args.self.now.files)) ∙ c.if-not-is_there.false;
  side = sym c.get.ensures ∙ ap option_copied c.in-Some.is;
}
