use Rattle.kernel_model.specs.CloneCalls.{wait4}
use Rattle.kernel_model.specs.Signals.{View}
use Rattle.lwk_calls.proofs.Refusing.{refused_did, wait4_is}
use Rattle.lwk_calls.specs.Words.{wait4_refusal, waits}
use Rattle.std.proofs.Common.{of_z, rules, sym, to_z, w64, ◌≡◌, ◌∙◌}
use Rattle.lwk_calls.proofs.waiting.wait4.Goals as goal

pub returns-in-Some-clause-did : goal.returns-in-Some-clause-did
returns-in-Some-clause-did g c =
    let rows = g.T.PageTable.rows c.args.space.now.table in
    let pages = c.args.mem.now in
    let t = c.args.t.0 in
    let z = c.in-Some.answer in
    let same : to_z w64 (of_z w64 z) ≡ z = search rules in
    refused_did rows pages c.args.node.now c.answers.new.node pages t (wait4 t c.args.pid c.args.status c.args.options c.args.rusage) (waits t c.args.pid c.args.status c.args.options)
    (λ (v : View). wait4_refusal c.args.options c.args.rusage) (wait4_is t c.args.pid c.args.status c.args.options c.args.rusage) _ z same
    (λ files. sym c.wait4_refusal.ensures ∙ c.in-Some.is) (c.answers.ensures.did rows pages c.requires.frames)
