use Rattle.hybrid_model.specs.Events.{may}
use Rattle.hybrid_model.specs.Pairs.{side_of}
use Rattle.hybrid_model.specs.declared.events.Event.TheVariants.{Unpark}
use Rattle.mck_word.specs.Identifiers.{req}
use Rattle.mck_word.specs.Maps.{keys}
use Rattle.pair_core.specs.Shown.{pair_of}
use Rattle.pair_offers.proofs.Above.{all-above, keys-rise}
use Rattle.pair_offers.proofs.First.{above-is, above-none, above-not, fewer-above, find-by}
use Rattle.pair_node.proofs.pair.Pair.first_unpark.Goals as goal
use Rattle.pair_offers.specs.Seeking.{first_by, request_number}
use Rattle.std.proofs.Common.{ap, sym, ◌∙◌}
use Rattle.std.specs.Prelude.{List, [], find, option_map, ℕ, ◌∷◌}

pub loop-q-init : goal.loop-q-init
loop-q-init g c =
    let pair = pair_of g.T.PageTable.rows g.F.FileStore.files c.args.self.now.parts in
    let keyed = keys (side_of pair c.args.p.0).book.rows in
    find-by (may pair) (λ q. Unpark c.args.p (req q)) keyed ∙ ap (λ (ks : List ℕ). first_by (λ q. find (may pair) (Unpark c.args.p (req q) ∷ [])) ks) (sym (all-above keyed))

pub returns-in-Some-if_it_may : goal.returns-in-Some-if_it_may
returns-in-Some-if_it_may g c =
    let pair = pair_of g.T.PageTable.rows g.F.FileStore.files c.args.self.now.parts in
    let rows = (side_of pair c.args.p.0).book.rows in
    sym (c.loop-q.invariant
    ∙ above-is (λ q. find (may pair) (Unpark c.args.p (req q) ∷ [])) (option_map request_number c.loop-q.passed) (keys rows) (keys-rise rows) c.in-Some.q.0 c.in-Some-if_it_may.event (sym c.in-Some.ensures) (sym c.in-Some-if_it_may.ensures))

pub loop-q-smaller : goal.loop-q-smaller
loop-q-smaller g c =
    let rows = (side_of (pair_of g.T.PageTable.rows g.F.FileStore.files c.args.self.now.parts) c.args.p.0).book.rows in
    fewer-above (option_map request_number c.loop-q.passed) c.in-Some.q.0 (keys rows) (keys-rise rows) (sym c.in-Some.ensures)

pub loop-q-preserved : goal.loop-q-preserved
loop-q-preserved g c =
    let pair = pair_of g.T.PageTable.rows g.F.FileStore.files c.args.self.now.parts in
    let rows = (side_of pair c.args.p.0).book.rows in
    c.loop-q.invariant
    ∙ above-not (λ q. find (may pair) (Unpark c.args.p (req q) ∷ [])) (option_map request_number c.loop-q.passed) (keys rows) (keys-rise rows) c.in-Some.q.0 (sym c.in-Some.ensures) (sym c.in_default-if_it_may.ensures)

pub returns : goal.returns
returns g c =
    let pair = pair_of g.T.PageTable.rows g.F.FileStore.files c.args.self.now.parts in
    sym (c.loop-q.invariant ∙ above-none (λ q. find (may pair) (Unpark c.args.p (req q) ∷ [])) (option_map request_number c.loop-q.passed) (keys (side_of pair c.args.p.0).book.rows) (sym c.in_default.ensures))
