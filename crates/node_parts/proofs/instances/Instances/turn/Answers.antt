use Rattle.node_parts.proofs.ByPlace.{turned-rows}
use Rattle.node_parts.proofs.instances.Instances.turn.Goals as goal
use Rattle.std.proofs.Common.{arith, length, true, ◌≡◌}
use Rattle.std.proofs.lemmas.List.{with_items_is}
use Rattle.std.proofs.lemmas.Result.{on_err_weaker, on_ok_weaker}
use Rattle.std.specs.Prelude.{nat_lt}
use Rattle.std.specs.Vec.{with_items}

pub returns-clause-ok : goal.returns-clause-ok
returns-clause-ok g c =
    let slots = c.self.inside.slots in
    let now = c.turn_all.new.slots in
    let long : length now ≡ slots.len = omega (arith, c.turn_all.auto.slots, c.deref_mut.ensures.len, slots.ok.0) in
    on_ok_weaker c.turn_all.result
    (λ h. turned-rows (λ i. true) slots.items c.deref_mut.result.now now (with_items slots now).items c.args.self.now
    c.self.view_is c.deref_mut.ensures.value h (with_items_is slots now long))
    c.turn_all.ensures.ok

pub returns-clause-short : goal.returns-clause-short
returns-clause-short g c =
    let slots = c.self.inside.slots in
    let now = c.turn_all.new.slots in
    let long : length now ≡ slots.len = omega (arith, c.turn_all.auto.slots, c.deref_mut.ensures.len, slots.ok.0) in
    on_err_weaker c.turn_all.result
    (λ h. (
      h.0,
      turned-rows (λ i. nat_lt i h.0) slots.items c.deref_mut.result.now now (with_items slots now).items
          c.args.self.now c.self.view_is c.deref_mut.ensures.value h.1 (with_items_is slots now long),
    ))
    c.turn_all.ensures.short
