use Rattle.std.proofs.Common.{◌∙◌, arith, sym}
use Rattle.linux_files.proofs.NextKeys.{next-from}
use Rattle.linux_files.proofs.Settles.{follows-on, next-done, next-small, next-used}
use Rattle.linux_files.proofs.parts.Parts.settle_all.Goals as goal

pub overflow_add-from : goal.overflow_add-from
overflow_add-from c = record { fits = (let small = next-small c.loop-d.self c.loop-d.from c.in-Some.d c.in-Some.ensures c.loop-d.invariant.follows.kept in omega arith) }

pub loop-d-smaller : goal.loop-d-smaller
loop-d-smaller c =
    let small = next-small c.loop-d.self c.loop-d.from c.in-Some.d c.in-Some.ensures c.loop-d.invariant.follows.kept in
    let behind = next-from c.loop-d.self.descriptions.map c.loop-d.from c.in-Some.d c.in-Some.ensures in
    omega arith

pub loop-d-preserved : goal.loop-d-preserved
loop-d-preserved c = record {
  follows = follows-on c.args.self.now c.loop-d.self c.settle_description.new.self c.loop-d.invariant.follows c.settle_description.ensures.follows;
  used = next-used c.args.self.now c.loop-d.self c.settle_description.new.self c.loop-d.from c.in-Some.d c.in-Some.ensures c.loop-d.invariant.follows c.settle_description.ensures.follows c.loop-d.invariant.used c.settle_description.ensures.used;
}

pub returns-clause-used : goal.returns-clause-used
returns-clause-used c = next-done c.loop-d.self c.loop-d.from (sym c.in_default.is ∙ c.next.ensures) c.loop-d.invariant.used
