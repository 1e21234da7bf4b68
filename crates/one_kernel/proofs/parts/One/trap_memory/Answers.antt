use Rattle.kernel_model.specs.declared.steps.Step.TheVariants.{Trap}
use Rattle.one_kernel.proofs.After.{after-is, process-is}
use Rattle.one_kernel.proofs.Calling.{both}
use Rattle.one_kernel.proofs.ChangeRooms.{calls-in, own-there, rest_of, room-in}
use Rattle.one_kernel.proofs.Heaps.{heap-in, row-fits}
use Rattle.one_kernel.proofs.parts.One.trap_memory.Goals as goal
use Rattle.std.proofs.Common.{arith, refl, sym}

pub row_mut-own-requires : goal.row_mut-own-requires
row_mut-own-requires c =
    let x = c.args.self.now in
    let p = c.process_of_thread-p.result.0 in
    own-there x p c.args.t.0 c.requires.ready.shown (process-is x c.args.t.0 p c.process_of_thread-p.ensures) (both _ _ (both _ _ c.requires.ready.may).0).0

pub trap_memory-requires-clause-own : goal.trap_memory-requires-clause-own
trap_memory-requires-clause-own c = λ files. sym (c.process_of_thread-p.ensures files)

pub trap_memory-requires-clause-memory : goal.trap_memory-requires-clause-memory
trap_memory-requires-clause-memory c = calls-in c.args.self.now c.args.t.0 c.requires.memory

pub trap_memory-requires-clause-heap : goal.trap_memory-requires-clause-heap
trap_memory-requires-clause-heap c = heap-in c.args.self.now c.process_of_thread-p.result.0 c.requires.ready.shown

pub trap_memory-requires-clause-small : goal.trap_memory-requires-clause-small
trap_memory-requires-clause-small c =
    let x = c.args.self.now in
    let w = c.row_mut-own.result.now in
    let fit = row-fits x c.process_of_thread-p.result.0 w c.requires.ready.shown c.row_mut-own.ensures.value in
    omega (arith, fit)

pub trap_memory-requires-clause-room : goal.trap_memory-requires-clause-room
trap_memory-requires-clause-room c =
    let x = c.args.self.now in
    let p = c.process_of_thread-p.result.0 in
    room-in x c.args.t.0 p c.row_mut-own.result.now (process-is x c.args.t.0 p c.process_of_thread-p.ensures) c.row_mut-own.ensures.value c.requires.room

pub returns : goal.returns
returns c =
    let x = c.args.self.now in
    let p = c.process_of_thread-p.result.0 in
    let w = c.row_mut-own.result.now in
    after-is x _ p w _ (Trap c.args.t) c.row_mut-own.ensures.value refl (process-is x c.args.t.0 p c.process_of_thread-p.ensures)
    (c.trap_memory.ensures (rest_of x w))
