use Rattle.kernel_model.specs.CloneCalls.{begins_wait}
use Rattle.kernel_model.specs.LocalCalls.{answers}
use Rattle.kernel_model.specs.Nodes.{set_does}
use Rattle.kernel_model.specs.Signals.{on_node}
use Rattle.kernel_model.specs.declared.Does.TheVariants.{InWait}
use Rattle.kernel_tables.specs.Shown.{node_of}
use Rattle.lwk_views.proofs.Doing.{did_alone, did_alone_as}
use Rattle.lwk_views.specs.Views.{seen}
use Rattle.std.proofs.Common.{ap, cond, of_z, pos, rules, sym, to_z, w32, ◌≡◌, ◌∙◌}
use Rattle.lwk_calls.proofs.waiting.begins_wait.Goals as goal

pub returns-then-has_bit-clause-did : goal.returns-then-has_bit-clause-did
returns-then-has_bit-clause-did c =
    let t = c.args.t.0 in
    did_alone_as _ _ (answers t (pos 0)) (begins_wait t c.args.pid c.args.status c.args.options)
    (λ rows pages files. let v = seen rows c.args.node.now pages files in
    ap (λ b. cond b (answers t (pos 0) v) (on_node (set_does t (InWait c.args.pid c.args.status)) v)) (sym c.has_bit.ensures ∙ c.if-has_bit.true)) c.answers.ensures.did

pub returns-else-has_bit-clause-did : goal.returns-else-has_bit-clause-did
returns-else-has_bit-clause-did c =
    let t = c.args.t.0 in
    let given : to_z w32 (of_z w32 c.args.pid) ≡ c.args.pid = search rules in
    did_alone_as _ _ (on_node (set_does t (InWait c.args.pid c.args.status))) (begins_wait t c.args.pid c.args.status c.args.options)
    (λ rows pages files. let v = seen rows c.args.node.now pages files in
    ap (λ b. cond b (answers t (pos 0) v) (on_node (set_does t (InWait c.args.pid c.args.status)) v)) (sym c.has_bit.ensures ∙ c.if-has_bit.false))
    (did_alone c.args.node.now c.set_does.new.self (set_does t (InWait c.args.pid c.args.status)) (λ files. c.set_does.ensures.node files ∙ ap (λ z. set_does t (InWait z c.args.status) (node_of c.args.node.now files)) given))
