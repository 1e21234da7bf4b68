use Rattle.hybrid_model.specs.Events.{may}
use Rattle.hybrid_model.specs.declared.events.Event.TheVariants.{Script}
use Rattle.hybrid_model.specs.declared.events.Event.{Event}
use Rattle.pair_core.specs.Shown.{pair_of}
use Rattle.pair_node.proofs.pair.Pair.offer_of_script.Goals as goal
use Rattle.pair_offers.proofs.First.{index-below, index-is, index-none, index-not}
use Rattle.std.proofs.Common.{ap, arith, sym, ◌∙◌}
use Rattle.std.specs.Prelude.{Bool, None, Option, Some, [], cond, find, length, ◌<◌, ◌≡◌, ◌∷◌}

pub returns-then-may : goal.returns-then-may
returns-then-may g c =
    let pair = pair_of g.T.PageTable.rows g.F.FileStore.files c.args.self.now.parts in
    let event = Script c.in-Some.index in
    let own : find (may pair) (event ∷ []) ≡ Some event = ap (λ (b : Bool). cond {A = Option Event} b (Some event) None) (sym c.may.ensures ∙ c.if-may.true) in
    sym (c.loop-index.invariant ∙ index-is (may pair) (λ i. Script i) pair.node.unsent c.loop-index.place c.in-Some.index event (sym c.in-Some.ensures.value) own)

pub loop-index-smaller : goal.loop-index-smaller
loop-index-smaller g c =
    let pair = pair_of g.T.PageTable.rows g.F.FileStore.files c.args.self.now.parts in
    let l : c.loop-index.place < length pair.node.unsent = index-below (may pair) (λ i. Script i) pair.node.unsent c.loop-index.place c.in-Some.index (sym c.in-Some.ensures.value) in
    omega (arith, l)

pub loop-index-preserved : goal.loop-index-preserved
loop-index-preserved g c =
    let pair = pair_of g.T.PageTable.rows g.F.FileStore.files c.args.self.now.parts in
    let event = Script c.in-Some.index in
    let own : find (may pair) (event ∷ []) ≡ None = ap (λ (b : Bool). cond {A = Option Event} b (Some event) None) (sym c.may.ensures ∙ c.if-may.false) in
    c.loop-index.invariant ∙ index-not (may pair) (λ i. Script i) pair.node.unsent c.loop-index.place c.in-Some.index (sym c.in-Some.ensures.value) own

pub returns : goal.returns
returns g c =
    let pair = pair_of g.T.PageTable.rows g.F.FileStore.files c.args.self.now.parts in
    sym (c.loop-index.invariant ∙ index-none (may pair) (λ i. Script i) pair.node.unsent c.loop-index.place (sym c.in_default.ensures.value))
