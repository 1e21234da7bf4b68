use Rattle.hybrid_model.specs.Events.{may}
use Rattle.hybrid_model.specs.declared.events.Event.TheVariants.{Intake, Reap}
use Rattle.pair_core.specs.Shown.{pair_of}
use Rattle.pair_node.proofs.pair.Pair.offer_of_kernel.Goals as goal
use Rattle.pair_offers.proofs.First.{found-first}
use Rattle.pair_offers.proofs.Offered.{answers, from_threads, past-answers, past-intake, past-threads, taken-in}
use Rattle.pair_offers.specs.Seeking.{events_of_threads}
use Rattle.std.proofs.Common.{sym, ◌∙◌}
use Rattle.std.specs.Prelude.{None, Some, [], find, ◌∷◌, ◌≡◌}

pub returns-in-Some : goal.returns-in-Some
returns-in-Some g c = sym (taken-in (pair_of g.T.PageTable.rows g.F.FileStore.files c.args.self.now.parts) c.args.p c.in-Some.event (sym c.if_it_may.ensures ∙ c.in-Some.is))

pub returns-in-Some-first_numbered : goal.returns-in-Some-first_numbered
unfolding pair_of
returns-in-Some-first_numbered g c =
    let pair = pair_of g.T.PageTable.rows g.F.FileStore.files c.args.self.now.parts in
    let no_intake : find (may pair) (Intake c.args.p ∷ []) ≡ None = sym c.if_it_may.ensures ∙ c.in_default.is in
    let answer : find (may pair) (answers pair c.args.p) ≡ Some c.in-Some-first_numbered.event = sym c.first_numbered.ensures ∙ c.in-Some-first_numbered.is in
    sym (past-intake pair c.args.p no_intake ∙ found-first (may pair) (answers pair c.args.p) (from_threads pair c.args.p) c.in-Some-first_numbered.event answer)

pub returns-in-Some-first_of_threads : goal.returns-in-Some-first_of_threads
unfolding pair_of
returns-in-Some-first_of_threads g c =
    let pair = pair_of g.T.PageTable.rows g.F.FileStore.files c.args.self.now.parts in
    let no_intake : find (may pair) (Intake c.args.p ∷ []) ≡ None = sym c.if_it_may.ensures ∙ c.in_default.is in
    let no_answer : find (may pair) (answers pair c.args.p) ≡ None = sym c.first_numbered.ensures ∙ c.in_default-first_numbered.is in
    let event : find (may pair) (events_of_threads pair c.args.p) ≡ Some c.in-Some-first_of_threads.event = sym c.first_of_threads.ensures ∙ c.in-Some-first_of_threads.is in
    sym (past-answers pair c.args.p no_intake no_answer ∙ found-first (may pair) (events_of_threads pair c.args.p) (Reap c.args.p ∷ []) c.in-Some-first_of_threads.event event)

pub returns : goal.returns
unfolding pair_of
returns g c =
    let pair = pair_of g.T.PageTable.rows g.F.FileStore.files c.args.self.now.parts in
    let no_intake : find (may pair) (Intake c.args.p ∷ []) ≡ None = sym c.if_it_may.ensures ∙ c.in_default.is in
    let no_answer : find (may pair) (answers pair c.args.p) ≡ None = sym c.first_numbered.ensures ∙ c.in_default-first_numbered.is in
    let none : find (may pair) (events_of_threads pair c.args.p) ≡ None = sym c.first_of_threads.ensures ∙ c.in_default-first_of_threads.is in
    c.if_it_may-2.ensures ∙ sym (past-threads pair c.args.p no_intake no_answer none)
