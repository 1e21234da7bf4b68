use Rattle.kernel_model.specs.MemoryCalls.{Decision, decide}
use Rattle.kernel_model.specs.Nodes.{Node, process_of}
use Rattle.kernel_model.specs.OneKernel.{OneHere}
use Rattle.kernel_model.specs.Steps.{one_trapped, one_view, with_node}
use Rattle.kernel_model.specs.Traps.{arguments_of, decided}
use Rattle.kernel_tables.specs.Shown.{node_of}
use Rattle.one_calls.specs.Here.{here}
use Rattle.one_kernel.proofs.MemoryTraps.{memory-call-is}
use Rattle.one_kernel.proofs.changing.calls_for_memory.Goals as goal
use Rattle.one_kernel.specs.Due.{HasRoomFor, at_once}
use Rattle.std.proofs.Common.{subst, sym, ◌∙◌, ◌≡◌}
use Rattle.vm_calls.specs.Facts.{decision}

pub does_as_planned-requires-clause-room : goal.does_as_planned-requires-clause-room
does_as_planned-requires-clause-room c = λ files.
    let p = c.args.p.0 in
    let m = c.args.memory.now.map in
    let free = c.args.free.now in
    let node = node_of c.args.node.now files in
    let regs = c.args.regs.now in
    let e = c.past_ecall.ensures.node files in
    let d : decision c.plan_call-plan.result ≡ decide (process_of node p) m free c.args.call (arguments_of regs) =
    c.plan_call-plan.ensures.is files ∙ (λ i. decide (process_of (e i) p) m free c.args.call (c.arguments_of.ensures i)) in
    subst (λ (n : Node). HasRoomFor c.args.memory.now.spare (process_of n p).program_break (at_once (decision c.plan_call-plan.result))) (sym e)
    (subst (λ (x : Decision). HasRoomFor c.args.memory.now.spare (process_of node p).program_break (at_once x)) (sym d) (c.requires.room files))

pub returns : goal.returns
returns c = λ r.
    let p = c.args.p.0 in
    let t = c.args.t.0 in
    let m = c.args.memory.now.map in
    let free = c.args.free.now in
    let h : OneHere = here c.args.node.now m (record r { free = free }) in
    let regs = c.args.regs.now in
    let e = c.past_ecall.ensures.node r.files in
    let d = c.plan_call-plan.ensures.is r.files ∙ (λ i. decide (process_of (e i) p) m free c.args.call (c.arguments_of.ensures i)) in
    c.does_as_planned.ensures r
    ∙ (λ i. one_trapped p t (decided t (one_view (with_node (e i) h)) (d i)) (with_node (e i) h))
    ∙ memory-call-is p t free c.args.call regs h (c.requires.own r.files)
