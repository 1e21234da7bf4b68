use Rattle.hybrid_model.specs.Events.{may}
use Rattle.hybrid_model.specs.declared.events.Event.TheVariants.{AckClear}
use Rattle.pair_core.specs.Shown.{pair_of}
use Rattle.pair_node.proofs.pair.Pair.offer_of_linux.Goals as goal
use Rattle.pair_offers.proofs.First.{found-first}
use Rattle.pair_offers.proofs.Offered.{assigns, fetched, fetches, from_assigns, past-ack, past-assigns, past-fetches, unparks}
use Rattle.std.proofs.Common.{sym, ◌∙◌}
use Rattle.std.specs.Prelude.{None, Some, [], find, ◌∷◌, ◌≡◌}

pub returns-in-Some : goal.returns-in-Some
unfolding pair_of
returns-in-Some g c = sym (fetched (pair_of g.T.PageTable.rows g.F.FileStore.files c.args.self.now.parts) c.args.p c.in-Some.event (sym c.first_numbered.ensures ∙ c.in-Some.is))

pub returns-in-Some-if_it_may : goal.returns-in-Some-if_it_may
unfolding pair_of
returns-in-Some-if_it_may g c =
    let pair = pair_of g.T.PageTable.rows g.F.FileStore.files c.args.self.now.parts in
    let no_fetch : find (may pair) (fetches pair c.args.p) ≡ None = sym c.first_numbered.ensures ∙ c.in_default.is in
    sym (past-fetches pair c.args.p no_fetch
    ∙ found-first (may pair) (AckClear c.args.p ∷ []) (from_assigns pair c.args.p) c.in-Some-if_it_may.event (sym c.if_it_may.ensures ∙ c.in-Some-if_it_may.is))

pub returns-in-Some-first_numbered : goal.returns-in-Some-first_numbered
unfolding pair_of
returns-in-Some-first_numbered g c =
    let pair = pair_of g.T.PageTable.rows g.F.FileStore.files c.args.self.now.parts in
    let no_fetch : find (may pair) (fetches pair c.args.p) ≡ None = sym c.first_numbered.ensures ∙ c.in_default.is in
    let no_ack : find (may pair) (AckClear c.args.p ∷ []) ≡ None = sym c.if_it_may.ensures ∙ c.in_default-if_it_may.is in
    let assign : find (may pair) (assigns pair c.args.p) ≡ Some c.in-Some-first_numbered.event = sym c.first_numbered-2.ensures ∙ c.in-Some-first_numbered.is in
    sym (past-ack pair c.args.p no_fetch no_ack ∙ found-first (may pair) (assigns pair c.args.p) (unparks pair c.args.p) c.in-Some-first_numbered.event assign)

pub returns : goal.returns
unfolding pair_of
returns g c =
    let pair = pair_of g.T.PageTable.rows g.F.FileStore.files c.args.self.now.parts in
    let no_fetch : find (may pair) (fetches pair c.args.p) ≡ None = sym c.first_numbered.ensures ∙ c.in_default.is in
    let no_ack : find (may pair) (AckClear c.args.p ∷ []) ≡ None = sym c.if_it_may.ensures ∙ c.in_default-if_it_may.is in
    let no_assign : find (may pair) (assigns pair c.args.p) ≡ None = sym c.first_numbered-2.ensures ∙ c.in_default-first_numbered.is in
    c.first_unpark.ensures ∙ sym (past-assigns pair c.args.p no_fetch no_ack no_assign)
