use Rattle.one_calls.specs.LocalTraps.{calls_fork}
use Rattle.one_kernel.proofs.ChangeRooms.{on-ok}
use Rattle.one_kernel.proofs.MadeTraps.{keeps, made, made-call, made-change, made-fork, made-local, node-state, told-after}
use Rattle.one_kernel.proofs.parts.One.make_trap_room.Goals as goal
use Rattle.node_machine.specs.Reached.{IsShown}
use Rattle.one_kernel.specs.Trapping.{begins_call, calls_memory}
use Rattle.one_kernel.specs.declared.parts.One.{One}
use Rattle.std.proofs.Common.{arith, refl, subst, sym, ◌∙◌}

pub returns-in_err-reserve_sleeper-clause-state : goal.returns-in_err-reserve_sleeper-clause-state
returns-in_err-reserve_sleeper-clause-state c = node-state c.args.self.now c.reserve_sleeper.new.self c.reserve_sleeper.ensures.node

pub returns-in_err-reserve_thread-clause-state : goal.returns-in_err-reserve_thread-clause-state
returns-in_err-reserve_thread-clause-state c = node-state c.args.self.now c.reserve_thread.new.self (λ files. c.reserve_thread.ensures.node files ∙ c.reserve_sleeper.ensures.node files)

pub make_change_room-requires : goal.make_change_room-requires
make_change_room-requires c =
    record { shown = subst IsShown (sym (node-state c.args.self.now c.reserve_thread.new.self (λ files. c.reserve_thread.ensures.node files ∙ c.reserve_sleeper.ensures.node files))) c.requires.shown }

pub returns-then-calls_fork-clause-state : goal.returns-then-calls_fork-clause-state
returns-then-calls_fork-clause-state c =
    c.make_fork_room.ensures.state ∙ node-state c.args.self.now c.reserve_thread.new.self (λ files. c.reserve_thread.ensures.node files ∙ c.reserve_sleeper.ensures.node files)

pub returns-then-calls_fork-clause-room : goal.returns-then-calls_fork-clause-room
returns-then-calls_fork-clause-room c =
    let x : One = record c.args.self.now { node = c.reserve_thread.new.self } in
    let z = c.make_fork_room.new.self in
    let t = c.args.t.0 in
    let s = c.in_ok-reserve_sleeper.ensures.one in
    let more = c.reserve_thread.ensures.room.sleepers in
    on-ok c.make_fork_room.result
    (λ room. made z t x.node (omega (arith, s, more)) c.in_ok-reserve_thread.ensures.one c.make_fork_room.ensures.node
    (made-fork z t (told-after x z c.calls_fork.result _ (λ k. calls_fork k t) c.make_fork_room.ensures.state c.calls_fork.ensures c.if-calls_fork.true) room)) c.make_fork_room.ensures.room

pub returns-then-begins_call-clause-state : goal.returns-then-begins_call-clause-state
returns-then-begins_call-clause-state c =
    c.make_call_room.ensures.state ∙ node-state c.args.self.now c.reserve_thread.new.self (λ files. c.reserve_thread.ensures.node files ∙ c.reserve_sleeper.ensures.node files)

pub returns-then-begins_call-clause-room : goal.returns-then-begins_call-clause-room
returns-then-begins_call-clause-room c =
    let x : One = record c.args.self.now { node = c.reserve_thread.new.self } in
    let z = c.make_call_room.new.self in
    let t = c.args.t.0 in
    let s = c.in_ok-reserve_sleeper.ensures.one in
    let more = c.reserve_thread.ensures.room.sleepers in
    let same = c.make_call_room.ensures.state in
    on-ok c.make_call_room.result
    (λ room. made z t x.node (omega (arith, s, more)) c.in_ok-reserve_thread.ensures.one (keeps x.node z.node c.make_call_room.ensures.node)
    (made-call z t (told-after x z c.calls_fork.result _ (λ k. calls_fork k t) same c.calls_fork.ensures c.if-calls_fork.false)
    (told-after x z c.begins_call.result _ (λ k. begins_call k t) same c.begins_call.ensures c.if-begins_call.true) room)) c.make_call_room.ensures.room

pub returns-then-calls_memory-clause-state : goal.returns-then-calls_memory-clause-state
returns-then-calls_memory-clause-state c =
    c.make_change_room.ensures.state ∙ node-state c.args.self.now c.reserve_thread.new.self (λ files. c.reserve_thread.ensures.node files ∙ c.reserve_sleeper.ensures.node files)

pub returns-then-calls_memory-clause-room : goal.returns-then-calls_memory-clause-room
returns-then-calls_memory-clause-room c =
    let x : One = record c.args.self.now { node = c.reserve_thread.new.self } in
    let z = c.make_change_room.new.self in
    let t = c.args.t.0 in
    let s = c.in_ok-reserve_sleeper.ensures.one in
    let more = c.reserve_thread.ensures.room.sleepers in
    let same = c.make_change_room.ensures.state in
    on-ok c.make_change_room.result
    (λ room. made z t x.node (omega (arith, s, more)) c.in_ok-reserve_thread.ensures.one (keeps x.node z.node c.make_change_room.ensures.node)
    (made-change z t (told-after x z c.calls_fork.result _ (λ k. calls_fork k t) same c.calls_fork.ensures c.if-calls_fork.false)
    (told-after x z c.begins_call.result _ (λ k. begins_call k t) same c.begins_call.ensures c.if-begins_call.false)
    (told-after x z c.calls_memory.result _ (λ k. calls_memory k t) same c.calls_memory.ensures c.if-calls_memory.true) room)) c.make_change_room.ensures.room

pub returns-else-calls_memory-clause-state : goal.returns-else-calls_memory-clause-state
returns-else-calls_memory-clause-state c = node-state c.args.self.now c.reserve_thread.new.self (λ files. c.reserve_thread.ensures.node files ∙ c.reserve_sleeper.ensures.node files)

pub returns-else-calls_memory-clause-room : goal.returns-else-calls_memory-clause-room
returns-else-calls_memory-clause-room c =
    let x : One = record c.args.self.now { node = c.reserve_thread.new.self } in
    let t = c.args.t.0 in
    let s = c.in_ok-reserve_sleeper.ensures.one in
    let more = c.reserve_thread.ensures.room.sleepers in
    made x t x.node (omega (arith, s, more)) c.in_ok-reserve_thread.ensures.one (keeps x.node x.node refl)
    (made-local x t (told-after x x c.calls_fork.result _ (λ k. calls_fork k t) refl c.calls_fork.ensures c.if-calls_fork.false)
    (told-after x x c.begins_call.result _ (λ k. begins_call k t) refl c.begins_call.ensures c.if-begins_call.false)
    (told-after x x c.calls_memory.result _ (λ k. calls_memory k t) refl c.calls_memory.ensures c.if-calls_memory.false))
