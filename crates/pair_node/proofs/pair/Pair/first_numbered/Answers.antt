use Rattle.hybrid_model.specs.Events.{may}
use Rattle.pair_core.specs.Shown.{pair_of}
use Rattle.pair_offers.proofs.First.{below, below-all, below-none, below-split, found-behind, found-first}
use Rattle.pair_node.proofs.pair.Pair.first_numbered.Goals as goal
use Rattle.pair_node.proofs.Offering.{there-numbered}
use Rattle.pair_offers.specs.Seeking.{event_of}
use Rattle.std.proofs.Common.{ap, arith, sym, ◌∙◌}
use Rattle.std.specs.Prelude.{List, None, Some, [], find, map, ℕ, ◌+◌, ◌<◌, ◌∷◌, ◌≡◌, ◌≤◌}

pub loop-number-init : goal.loop-number-init
loop-number-init g c = ap (λ (ns : List ℕ). find (may (pair_of g.T.PageTable.rows g.F.FileStore.files c.args.self.now.parts)) (map (event_of c.args.what) ns)) (sym (below-all c.args.count))

pub returns-in-Some : goal.returns-in-Some
returns-in-Some g c =
    let pair = pair_of g.T.PageTable.rows g.F.FileStore.files c.args.self.now.parts in
    let l : c.loop-number.number < c.args.count = omega arith in
    let split = ap (λ (ns : List ℕ). find (may pair) (map (event_of c.args.what) ns)) (below-split c.loop-number.number c.args.count l) in
    let own : find (may pair) (event_of c.args.what c.loop-number.number ∷ []) ≡ Some c.in-Some.event = ap (λ e. find (may pair) (e ∷ [])) (sym c.numbered_event.ensures) ∙ sym c.in-Some.ensures in
    sym (c.loop-number.invariant
    ∙ (split ∙ found-first (may pair) (event_of c.args.what c.loop-number.number ∷ []) (map (event_of c.args.what) (below (c.loop-number.number + 1) c.args.count)) c.in-Some.event own))

pub loop-number-preserved : goal.loop-number-preserved
loop-number-preserved g c =
    let pair = pair_of g.T.PageTable.rows g.F.FileStore.files c.args.self.now.parts in
    let l : c.loop-number.number < c.args.count = omega arith in
    let split = ap (λ (ns : List ℕ). find (may pair) (map (event_of c.args.what) ns)) (below-split c.loop-number.number c.args.count l) in
    let own : find (may pair) (event_of c.args.what c.loop-number.number ∷ []) ≡ None = ap (λ e. find (may pair) (e ∷ [])) (sym c.numbered_event.ensures) ∙ sym c.in_default.ensures in
    c.loop-number.invariant
    ∙ (split ∙ found-behind (may pair) (event_of c.args.what c.loop-number.number ∷ []) (map (event_of c.args.what) (below (c.loop-number.number + 1) c.args.count)) own)

pub if_it_may-requires : goal.if_it_may-requires
if_it_may-requires g c =
    there-numbered g.T.PageTable.rows g.F.FileStore.files c.args.self.now.parts c.args.side.now c.args.what c.loop-number.number c.numbered_event.result c.numbered_event.ensures c.requires

pub returns : goal.returns
returns g c =
    let l : c.args.count ≤ c.loop-number.number = omega arith in
    sym (c.loop-number.invariant ∙ ap (λ (ns : List ℕ). find (may (pair_of g.T.PageTable.rows g.F.FileStore.files c.args.self.now.parts)) (map (event_of c.args.what) ns)) (below-none c.loop-number.number c.args.count l))
