use Rattle.mck_word.specs.declared.PageRange.{PageRange}
use Rattle.slab.specs.Slab.{get}
use Rattle.std.proofs.Common.{get_or, ◌∙◌, arith}
use Rattle.std.proofs.lemmas.List.{drop_more}
use Rattle.sv_table.proofs.Looked.{looked-all, looked-more, looked-none, looked-over}
use Rattle.sv_table.proofs.Looking.{absent-few}
use Rattle.sv_table.proofs.room.lacking.Goals as goal
use Rattle.sv_table.proofs.room.lacking.Goals.{else-r, then-r}

pub loop-r-init : goal.loop-r-init
loop-r-init c = looked-none (get c.args.nodes.now) c.args.ranges.now c.requires

pub overflow_add-lacking : goal.overflow_add-lacking
overflow_add-lacking c = let few = absent-few (get c.args.nodes.now) c.args.ranges.now in let is = c.loop-r.invariant.counted in let more = c.absent_between-lacking.ensures.few in omega arith

pub overflow_add-lacking-then-r : goal.overflow_add-lacking-then-r
overflow_add-lacking-then-r c = let few = absent-few (get c.args.nodes.now) c.args.ranges.now in let is = c.loop-r.invariant.counted in let more = c.absent_between-lacking.ensures.few in let again = c.absent_between-lacking-then-r.ensures.few in omega arith

pub loop-r-preserved : goal.loop-r-preserved
loop-r-preserved c =
    let node = get c.args.nodes.now in
    let ranges = c.args.ranges.now in
    let i = c.loop-r.r-index in
    let r : PageRange = get_or ranges i (record { lo = 0; hi = 0 }) in
    let here = drop_more ranges i (record { lo = 0; hi = 0 }) c.loop-r-test.true in
    elim c.if-r.branch [
      | then-r w ↦ looked-more node ranges i c.loop-r.lacking c.loop-r.middle c.loop-r.leaf c.loop-r.invariant c.loop-r-test.true r here
          w.absent_between-lacking.result w.absent_between-lacking-then-r.result c.if-r.lacking w.max.result w.max-then-r.result c.if-r.middle c.if-r.leaf w.if-r.true
          w.max.ensures w.absent_between-lacking.ensures.value w.max-then-r.ensures w.absent_between-lacking-then-r.ensures.value w.lacking-is (w.middle-is ∙ w.max-middle.ensures) (w.leaf-is ∙ w.max-leaf.ensures)
      | else-r w ↦
          let over = looked-over node ranges i c.loop-r.lacking c.loop-r.middle c.loop-r.leaf c.loop-r.invariant c.loop-r-test.true r here w.if-r.false in
          rw (w.lacking-is, w.middle-is, w.leaf-is) over
    ]

pub returns : goal.returns
returns c = looked-all (get c.args.nodes.now) c.args.ranges.now c.loop-r.r-index c.loop-r.lacking c.loop-r.middle c.loop-r.leaf c.loop-r.invariant c.loop-r-test.false
