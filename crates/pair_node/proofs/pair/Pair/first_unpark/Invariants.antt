use Rattle.hybrid_model.specs.Events.{may}
use Rattle.hybrid_model.specs.Pairs.{side_of}
use Rattle.hybrid_model.specs.declared.events.Event.TheVariants.{Unpark}
use Rattle.mck_word.specs.Identifiers.{req}
use Rattle.mck_word.specs.Maps.{keys}
use Rattle.pair_core.specs.Shown.{pair_of}
use Rattle.pair_node.proofs.pair.Pair.first_unpark.Given as goal
use Rattle.pair_offers.specs.Seeking.{first_by, request_number}
use Rattle.run_model.specs.Walks.{is_above_last}
use Rattle.std.specs.Prelude.{[], filter, find, length, map, option_map, ◌≡◌, ◌∷◌}

abbrev pub invariant-loop-q : goal.invariant-loop-q
invariant-loop-q g l =
    let pair = pair_of g.T.PageTable.rows g.F.FileStore.files l.self.parts in
    let keyed = keys (side_of pair l.p.0).book.rows in
    find (may pair) (map (λ q. Unpark l.p (req q)) keyed)
    ≡ first_by (λ q. find (may pair) (Unpark l.p (req q) ∷ [])) (filter (is_above_last (option_map request_number l.passed)) keyed)

abbrev pub decreases-loop-q : goal.decreases-loop-q
decreases-loop-q g l = let pair = pair_of g.T.PageTable.rows g.F.FileStore.files l.self.parts in length (filter (is_above_last (option_map request_number l.passed)) (keys (side_of pair l.p.0).book.rows))
