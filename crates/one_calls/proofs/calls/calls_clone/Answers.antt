use Rattle.kernel_model.specs.CloneCalls.{clone}
use Rattle.kernel_model.specs.Signals.{View}
use Rattle.one_calls.proofs.Behind.{behind, may-clone}
use Rattle.one_calls.proofs.Doing.{did_after}
use Rattle.one_calls.proofs.calls.calls_clone.Goals as goal
use Rattle.std.specs.Prelude.{slice_index}

pub clone-requires : goal.clone-requires
clone-requires c = may-clone c.args.t.0 c.args.node.now c.past_ecall.new.self c.past_ecall.ensures.room c.past_ecall.ensures.node c.requires

pub returns : goal.returns
returns c =
    let xs = c.args.args.now in
    let word : View → View = λ v. clone c.args.t.0 (slice_index xs 0) (slice_index xs 1) (slice_index xs 2) (slice_index xs 3) (slice_index xs 4) v in
    did_after c.args.memory.now.map c.args.node.now c.past_ecall.new.self c.clone.new.node c.clone.new.memory.map (behind c.args.t.0) word c.past_ecall.ensures.node c.clone.ensures
