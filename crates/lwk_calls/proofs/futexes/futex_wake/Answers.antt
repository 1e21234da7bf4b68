use Rattle.file_model.specs.Errno.{EINVAL}
use Rattle.kernel_model.specs.LocalCalls.{futex_wake, refuses, wake_count}
use Rattle.kernel_model.specs.Signals.{on_node}
use Rattle.lwk_calls.proofs.Waking.{wakes, wakes_is}
use Rattle.kernel_tables.specs.Shown.{node_of}
use Rattle.lwk_views.proofs.Doing.{did_alone, did_alone_as}
use Rattle.lwk_views.specs.Views.{seen}
use Rattle.std.proofs.Common.{ap, cond, not, of_z, pos, rules, to_z, w32, w64, ◌%◌, ◌≡◌, ◌∙◌}
use Rattle.std.proofs.lemmas.Bool.{eq-eqb, ne_eqb}
use Rattle.lwk_calls.proofs.futexes.futex_wake.Goals as goal

pub returns-then-address-ne0-clause-did : goal.returns-then-address-ne0-clause-did
returns-then-address-ne0-clause-did c =
    let t = c.args.t.0 in
    did_alone_as _ _ (refuses t EINVAL) (futex_wake t c.args.address c.args.val)
    (λ rows pages files. let v = seen rows c.args.node.now pages files in
    ap (λ b. cond (not b) (refuses t EINVAL v) (on_node (wakes t c.args.address c.args.val) v)) (ne_eqb (c.args.address % 4) 0 c.if-address-ne0.true)) c.answers.ensures.did

pub returns-else-address-ne0-clause-did : goal.returns-else-address-ne0-clause-did
returns-else-address-ne0-clause-did c =
    let t = c.args.t.0 in
    let a = c.args.address in
    let n = c.wake-woken.result in
    let number : to_z w64 n ≡ pos n = search rules in
    let given : to_z w32 (of_z w32 c.args.val) ≡ c.args.val = search rules in
    did_alone_as _ _ (on_node (wakes t a c.args.val)) (futex_wake t a c.args.val)
    (λ rows pages files. let v = seen rows c.args.node.now pages files in ap (λ b. cond (not b) (refuses t EINVAL v) (on_node (wakes t a c.args.val) v)) (eq-eqb (a % 4) 0 c.if-address-ne0.false))
    (did_alone c.args.node.now c.answered.new.self (wakes t a c.args.val)
    (λ files. wakes_is t a c.process_of_thread-p.result.0 c.wake_count.result n c.args.val _ (node_of c.args.node.now files) (node_of c.wake-woken.new.self files) (node_of c.answered.new.self files)
    (c.answered.ensures.node files) number (c.wake-woken.ensures.count files) (c.wake-woken.ensures.node files) (c.process_of_thread-p.ensures files) (c.wake_count.ensures ∙ ap wake_count given)))
