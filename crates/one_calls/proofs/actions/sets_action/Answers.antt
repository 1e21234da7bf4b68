use Rattle.isa_model.specs.Memory.{write_bytes}
use Rattle.kernel_model.specs.Nodes.{action_of, answered, process_of}
use Rattle.kernel_model.specs.SignalCalls.{action_bytes}
use Rattle.kernel_tables.specs.Shown.{node_of}
use Rattle.one_calls.proofs.Acting.{sets_action-node, sets_action-stored}
use Rattle.one_calls.specs.SignalWords.{given_action}
use Rattle.std.proofs.Common.{ap, pos, sym, ◌∙◌}
use Rattle.std.specs.Prelude.{cond, ◌==◌}
use Rattle.one_calls.proofs.actions.sets_action.Goals as goal

pub returns : goal.returns
returns c =
    let n = c.args.node.now in
    let m = c.args.memory.now.map in
    let t = c.args.t.0 in
    let signal = c.args.signal in
    let act = c.args.act in
    let old = c.args.old in
    record {
      node = λ files. let k = node_of n files in
          c.answered.ensures.node files
          ∙ ap (answered t (pos 0)) (c.give_action.ensures files ∙ (λ i. given_action (c.process_of_thread-p.ensures files i) signal (c.asked_action-new.ensures i) k))
          ∙ sym (sets_action-node t signal act old k m);
      memory = λ files. let k = node_of n files in
          c.store_action.ensures
          ∙ ap (λ a. cond (old == 0) m (write_bytes m old (action_bytes a))) (c.action-before.ensures files ∙ ap (λ q. action_of (process_of k q) signal) (c.process_of_thread-p.ensures files))
          ∙ sym (sets_action-stored t signal act old k m);
    }
