use Rattle.one_calls.specs.LocalTraps.{calls_fork}
use Rattle.one_kernel.proofs.TrapKindRooms.{call-room, change-room, fork-room}
use Rattle.one_kernel.proofs.TrapKinds.{left-local, told-of}
use Rattle.one_kernel.proofs.parts.One.trap.Goals as goal
use Rattle.one_kernel.specs.Parts.{one_of}
use Rattle.one_kernel.specs.Trapping.{begins_call, calls_memory}
use Rattle.std.proofs.Common.{sym, ◌∙◌}

pub fork-requires-clause-fork : goal.fork-requires-clause-fork
fork-requires-clause-fork c = sym (told-of c.args.self.now c.calls_fork.result (λ k. calls_fork k c.args.t.0) c.calls_fork.ensures) ∙ c.if-calls_fork.true

pub fork-requires-clause-room : goal.fork-requires-clause-room
fork-requires-clause-room c =
    let x = c.args.self.now in
    let t = c.args.t.0 in
    fork-room x t c.requires.room (sym (told-of x c.calls_fork.result (λ k. calls_fork k t) c.calls_fork.ensures) ∙ c.if-calls_fork.true)

pub begin_call-requires-clause-delegated : goal.begin_call-requires-clause-delegated
begin_call-requires-clause-delegated c = sym (told-of c.args.self.now c.begins_call.result (λ k. begins_call k c.args.t.0) c.begins_call.ensures) ∙ c.if-begins_call.true

pub begin_call-requires-clause-room : goal.begin_call-requires-clause-room
begin_call-requires-clause-room c =
    let x = c.args.self.now in
    let t = c.args.t.0 in
    call-room x t c.requires.room (sym (told-of x c.calls_fork.result (λ k. calls_fork k t) c.calls_fork.ensures) ∙ c.if-calls_fork.false)
    (sym (told-of x c.begins_call.result (λ k. begins_call k t) c.begins_call.ensures) ∙ c.if-begins_call.true)

pub trap_memory-requires-clause-memory : goal.trap_memory-requires-clause-memory
trap_memory-requires-clause-memory c = sym (told-of c.args.self.now c.calls_memory.result (λ k. calls_memory k c.args.t.0) c.calls_memory.ensures) ∙ c.if-calls_memory.true

pub trap_memory-requires-clause-room : goal.trap_memory-requires-clause-room
trap_memory-requires-clause-room c =
    let x = c.args.self.now in
    let t = c.args.t.0 in
    change-room x t c.requires.room (sym (told-of x c.calls_fork.result (λ k. calls_fork k t) c.calls_fork.ensures) ∙ c.if-calls_fork.false)
    (sym (told-of x c.begins_call.result (λ k. begins_call k t) c.begins_call.ensures) ∙ c.if-begins_call.false)
    (sym (told-of x c.calls_memory.result (λ k. calls_memory k t) c.calls_memory.ensures) ∙ c.if-calls_memory.true)

pub trap_locally-requires-clause-local : goal.trap_locally-requires-clause-local
trap_locally-requires-clause-local c =
    let x = c.args.self.now in
    let t = c.args.t.0 in
    left-local (one_of x).node t c.requires.ready.may (sym (told-of x c.calls_fork.result (λ k. calls_fork k t) c.calls_fork.ensures) ∙ c.if-calls_fork.false)
    (sym (told-of x c.begins_call.result (λ k. begins_call k t) c.begins_call.ensures) ∙ c.if-begins_call.false)
    (sym (told-of x c.calls_memory.result (λ k. calls_memory k t) c.calls_memory.ensures) ∙ c.if-calls_memory.false)
