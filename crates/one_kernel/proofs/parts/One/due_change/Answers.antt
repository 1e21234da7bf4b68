use Rattle.one_kernel.proofs.ChangeRooms.{due-is, own-in}
use Rattle.one_kernel.proofs.Heaps.{heap-in}
use Rattle.one_kernel.proofs.parts.One.due_change.Goals as goal
use Rattle.one_kernel.specs.Due.{due}
use Rattle.one_kernel.specs.Parts.{one_of}
use Rattle.one_kernel.specs.declared.parts.Own.{Own}
use Rattle.std.proofs.Common.{ap, ◌∙◌}
use Rattle.std.specs.Prelude.{Some, ◌≡◌}

pub due-requires-clause-own : goal.due-requires-clause-own
due-requires-clause-own c = own-in c.args.self.now c.args.t.0 c.args.p.0 c.requires.own

pub due-requires-clause-heap : goal.due-requires-clause-heap
due-requires-clause-heap c = heap-in c.args.self.now c.args.p.0 c.requires.shown

same-own : (w o : Own) → Some o ≡ Some w → o ≡ w
same-own w o e = cc

pub returns-in-Some-clause-due : goal.returns-in-Some-clause-due
returns-in-Some-clause-due c = λ w there.
    let x = c.args.self.now in
    let t = c.args.t.0 in
    let same : c.in-Some.own.now ≡ w = same-own w c.in-Some.own.now (c.in-Some.ensures ∙ there) in
    due-is x t c.in-Some.own.now.memory.map c.due.result c.due.ensures ∙ ap (λ (o : Own). due (one_of x).node t o.memory.map x.free) same
