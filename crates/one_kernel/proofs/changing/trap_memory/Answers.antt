use Rattle.kernel_model.specs.Nodes.{process_of, thread_of}
use Rattle.kernel_model.specs.declared.Change.{Change}
use Rattle.kernel_tables.specs.Shown.{node_of}
use Rattle.one_calls.specs.Here.{here}
use Rattle.one_kernel.proofs.ChangeRooms.{due-at, stands-at, trap-is}
use Rattle.one_kernel.proofs.changing.trap_memory.Goals as goal
use Rattle.one_kernel.specs.Due.{HasRoomFor, due_by}
use Rattle.std.proofs.Common.{ap, subst, sym, ◌∙◌}
use Rattle.std.specs.Prelude.{Option}

pub calls_for_memory-requires-clause-room : goal.calls_for_memory-requires-clause-room
calls_for_memory-requires-clause-room c = λ files.
    let node = node_of c.args.node.now files in
    let x = thread_of node c.args.t.0 in
    let p = c.args.p.0 in
    let m = c.args.memory.now.map in
    let free = c.args.free.now in
    let regs = sym (c.regs-regs.ensures files) in
    let stands = stands-at x.does x.regs (c.requires.memory files) in
    let named = ap (λ k. Option.Some k) (sym c.in-Some-Memory.field-0-is) ∙ sym c.in-Some-Memory.is ∙ c.call_named.ensures in
    subst (λ (o : Option Change). HasRoomFor c.args.memory.now.spare (process_of node p).program_break o)
    ((λ i. due_by x.does (regs i) (process_of node (c.requires.own files i)) m free)
    ∙ due-at x.does c.regs-regs.result c.in-Some-Memory.call (process_of node p) m free stands named)
    (c.requires.room files)

pub returns : goal.returns
returns c = λ r.
    let h = here c.args.node.now c.args.memory.now.map (record r { free = c.args.free.now }) in
    let t = c.args.t.0 in
    let stands = stands-at (thread_of h.node t).does (thread_of h.node t).regs (c.requires.memory r.files) in
    let named = ap (λ k. Option.Some k) (sym c.in-Some-Memory.field-0-is) ∙ sym c.in-Some-Memory.is ∙ c.call_named.ensures in
    c.calls_for_memory.ensures r
    ∙ trap-is c.args.p.0 t h c.regs-regs.result c.in-Some-Memory.call (c.regs-regs.ensures r.files) stands named
