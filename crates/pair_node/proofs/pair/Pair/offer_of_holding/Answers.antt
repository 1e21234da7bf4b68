use Rattle.hybrid_model.specs.Events.{may}
use Rattle.hybrid_model.specs.declared.events.Event.TheVariants.{Act, Miss, Park, Pin}
use Rattle.pair_core.specs.Shown.{pair_of}
use Rattle.pair_node.proofs.Offering.{past-three}
use Rattle.pair_node.proofs.pair.Pair.offer_of_holding.Goals as goal
use Rattle.std.proofs.Common.{sym, ◌∙◌}
use Rattle.std.specs.Prelude.{[], ◌∷◌}

pub returns : goal.returns
returns g c =
    let pair = pair_of g.T.PageTable.rows g.F.FileStore.files c.args.self.now.parts in
    let p = c.args.p in
    let w = c.args.w in
    c.if_it_may.ensures
    ∙ sym (past-three (may pair) (Miss p w) (Pin p w) (Act p w) (Park p w ∷ []) (sym c.may_there.ensures ∙ c.if-may_there.false) (sym c.may_there-2.ensures ∙ c.if-may_there-2.false) (sym c.may_there-3.ensures ∙ c.if-may_there-3.false))
