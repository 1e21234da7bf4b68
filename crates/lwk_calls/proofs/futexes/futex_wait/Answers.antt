use Rattle.kernel_model.specs.LocalCalls.{falls_asleep, futex_wait}
use Rattle.kernel_model.specs.Signals.{View, on_node}
use Rattle.lwk_calls.proofs.Refusing.{goes_on, refused_did, wait_is}
use Rattle.lwk_calls.specs.Words.{wait_refusal}
use Rattle.lwk_views.proofs.Doing.{did_on_node}
use Rattle.std.proofs.Common.{of_z, rules, sym, to_z, w64, ◌≡◌, ◌∙◌}
use Rattle.lwk_calls.proofs.futexes.futex_wait.Goals as goal

pub returns-in-Some-clause-did : goal.returns-in-Some-clause-did
returns-in-Some-clause-did g c =
    let rows = g.T.PageTable.rows c.args.space.now.table in
    let pages = c.args.mem.now in
    let t = c.args.t.0 in
    let z = c.in-Some.answer in
    let same : to_z w64 (of_z w64 z) ≡ z = search rules in
    refused_did rows pages c.args.node.now c.answers.new.node pages t (futex_wait t c.args.address c.args.val c.args.timeout) (on_node (falls_asleep t c.args.address))
    (λ (v : View). wait_refusal v.memory c.args.address c.args.val c.args.timeout) (wait_is t c.args.address c.args.val c.args.timeout) _ z same
    (λ files. sym c.wait_refusal.ensures ∙ c.in-Some.is) (c.answers.ensures.did rows pages c.requires.frames)

pub returns-in-None-clause-did : goal.returns-in-None-clause-did
returns-in-None-clause-did g c =
    let rows = g.T.PageTable.rows c.args.space.now.table in
    let pages = c.args.mem.now in
    let t = c.args.t.0 in
    goes_on rows pages c.args.node.now c.falls_asleep.new.self pages t (futex_wait t c.args.address c.args.val c.args.timeout) (on_node (falls_asleep t c.args.address))
    (λ (v : View). wait_refusal v.memory c.args.address c.args.val c.args.timeout) (wait_is t c.args.address c.args.val c.args.timeout)
    (λ files. sym c.wait_refusal.ensures ∙ c.in-None.is)
    (did_on_node rows pages c.args.node.now c.falls_asleep.new.self (falls_asleep t c.args.address) c.requires.frames c.falls_asleep.ensures.node)
