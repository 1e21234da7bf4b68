use Rattle.slab.specs.Slab.{get}
use Rattle.std.proofs.Common.{◌≡◌, ◌+◌, cond, sym, ap, ◌∙◌, arith}
use Rattle.sv_table.proofs.Lacking.{absent_end, absent_from-few, absent_from-none, absent_step}
use Rattle.sv_table.proofs.room.absent_between.Goals as goal
use Rattle.sv_table.proofs.room.absent_between.Goals.{else-is_none, then-is_none}
use Rattle.sv_table.specs.Room.{absent_from}

pub loop-place-init : goal.loop-place-init
loop-place-init c = (sym (absent_from-none (get c.args.nodes.now) c.args.first c.args.first (omega arith)), λ l. omega arith)

pub overflow_add-lacking : goal.overflow_add-lacking
overflow_add-lacking c = let few = absent_from-few (get c.args.nodes.now) c.args.first c.loop-place.place in let is = c.loop-place.invariant.0 in omega arith

value : (c : goal.After-loop-place) → c.loop-place.lacking ≡ absent_from (get c.args.nodes.now) c.args.first c.args.end
value c = absent_end (get c.args.nodes.now) c.args.first c.loop-place.place c.args.end c.loop-place.lacking c.loop-place.invariant.0 c.loop-place.invariant.1 c.loop-place.auto.place c.loop-place.auto.place-end c.loop-place-test.false

pub loop-place-preserved : goal.loop-place-preserved
loop-place-preserved c = (
  absent_step (get c.args.nodes.now) c.args.first c.loop-place.place c.loop-place.lacking c.if-is_none.lacking c.find.result c.is_none.result c.loop-place.auto.place c.loop-place.invariant.0 c.find.ensures c.is_none.ensures
      (elim c.if-is_none.branch [
        | then-is_none w ↦ w.lacking-is ∙ ap (λ b. cond b (c.loop-place.lacking + 1) c.loop-place.lacking) (sym w.if-is_none.true)
        | else-is_none w ↦ w.lacking-is ∙ ap (λ b. cond b (c.loop-place.lacking + 1) c.loop-place.lacking) (sym w.if-is_none.false)
      ]),
  λ l. absurd (let a = c.loop-place-test.true in let b = c.loop-place.auto.place in omega arith),
)

pub returns-clause-value : goal.returns-clause-value
returns-clause-value c = value c

pub returns-clause-few : goal.returns-clause-few
returns-clause-few c = let is = value c in let few = absent_from-few (get c.args.nodes.now) c.args.first c.args.end in let h = c.requires in omega arith
