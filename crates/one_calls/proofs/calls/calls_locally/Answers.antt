use Rattle.kernel_model.specs.Calls.{local_call}
use Rattle.one_calls.proofs.Behind.{behind, may-rest}
use Rattle.one_calls.proofs.Doing.{did_after}
use Rattle.one_calls.proofs.calls.calls_locally.Goals as goal

pub local_call-requires : goal.local_call-requires
local_call-requires c = λ e. may-rest c.args.t.0 c.args.node.now c.past_ecall.new.self c.past_ecall.ensures.room c.past_ecall.ensures.node (c.requires e)

pub returns : goal.returns
returns c =
    did_after c.args.memory.now.map c.args.node.now c.past_ecall.new.self c.local_call.new.node c.local_call.new.memory.map (behind c.args.t.0) (local_call c.args.t.0 c.args.call c.args.args.now)
    c.past_ecall.ensures.node c.local_call.ensures
