use Rattle.file_model.specs.Errno.{EINVAL}
use Rattle.kernel_model.specs.LocalCalls.{refuses}
use Rattle.kernel_model.specs.SignalCalls.{checked_signal, kill, kills, positive}
use Rattle.lwk_calls.proofs.Sending.{kill_known, kill_nobody, kill_unknown}
use Rattle.lwk_views.proofs.Doing.{did_alone_as}
use Rattle.lwk_views.specs.Views.{seen}
use Rattle.std.proofs.Common.{ap, of_z, rules, sym, to_z, w32, ◌≡◌, ◌∙◌}
use Rattle.lwk_calls.proofs.sends.kill.Goals as goal

pub returns-in-None-clause-did : goal.returns-in-None-clause-did
returns-in-None-clause-did c =
    let n = c.args.node.now in
    let t = c.args.t.0 in
    let pid = c.args.pid in
    let given : to_z w32 (of_z w32 pid) ≡ pid = search rules in
    did_alone_as n c.answers.new.node (refuses t EINVAL) (kill t pid c.args.signal)
    (λ rows pages files. kill_nobody t (seen rows n pages files) pid c.args.signal (sym (c.positive.ensures ∙ ap positive given) ∙ c.in-None.is))
    c.answers.ensures.did

pub returns-in-None-checked_signal-clause-did : goal.returns-in-None-checked_signal-clause-did
returns-in-None-checked_signal-clause-did c =
    let n = c.args.node.now in
    let t = c.args.t.0 in
    let pid = c.args.pid in
    let signal = c.args.signal in
    let given : to_z w32 (of_z w32 pid) ≡ pid = search rules in
    let sent : to_z w32 (of_z w32 signal) ≡ signal = search rules in
    did_alone_as n c.answers-in-None-checked_signal.new.node (refuses t EINVAL) (kill t pid signal)
    (λ rows pages files. kill_unknown t (seen rows n pages files) pid signal c.in-Some.p (sym (c.positive.ensures ∙ ap positive given) ∙ c.in-Some.is)
    (sym (c.checked_signal.ensures.is ∙ ap checked_signal sent) ∙ c.in-None-checked_signal.is))
    c.answers-in-None-checked_signal.ensures.did

pub returns-in-Some-checked_signal-clause-did : goal.returns-in-Some-checked_signal-clause-did
returns-in-Some-checked_signal-clause-did c =
    let n = c.args.node.now in
    let t = c.args.t.0 in
    let pid = c.args.pid in
    let signal = c.args.signal in
    let given : to_z w32 (of_z w32 pid) ≡ pid = search rules in
    let sent : to_z w32 (of_z w32 signal) ≡ signal = search rules in
    did_alone_as n c.kills.new.node (kills t c.in-Some.p c.in-Some-checked_signal.s) (kill t pid signal)
    (λ rows pages files. kill_known t (seen rows n pages files) pid signal c.in-Some.p c.in-Some-checked_signal.s (sym (c.positive.ensures ∙ ap positive given) ∙ c.in-Some.is)
    (sym (c.checked_signal.ensures.is ∙ ap checked_signal sent) ∙ c.in-Some-checked_signal.is))
    c.kills.ensures.did
