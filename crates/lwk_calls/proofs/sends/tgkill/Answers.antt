use Rattle.file_model.specs.Errno.{EINVAL}
use Rattle.kernel_model.specs.LocalCalls.{refuses}
use Rattle.kernel_model.specs.SignalCalls.{checked_signal, kills_thread, positive, tgkill}
use Rattle.lwk_calls.proofs.Sending.{tgkill_known, tgkill_no_thread, tgkill_nobody, tgkill_unknown}
use Rattle.lwk_views.proofs.Doing.{did_alone_as}
use Rattle.lwk_views.specs.Views.{seen}
use Rattle.std.proofs.Common.{ap, of_z, rules, sym, to_z, w32, ◌≡◌, ◌∙◌}
use Rattle.lwk_calls.proofs.sends.tgkill.Goals as goal

pub returns-in-None-clause-did : goal.returns-in-None-clause-did
returns-in-None-clause-did c =
    let n = c.args.node.now in
    let t = c.args.t.0 in
    let pid = c.args.pid in
    let tid = c.args.tid in
    let signal = c.args.signal in
    let process : to_z w32 (of_z w32 pid) ≡ pid = search rules in
    did_alone_as n c.answers.new.node (refuses t EINVAL) (tgkill t pid tid signal)
    (λ rows pages files. tgkill_nobody t (seen rows n pages files) pid tid signal
    (sym (c.positive.ensures ∙ ap positive process) ∙ c.in-None.is))
    c.answers.ensures.did

pub returns-in-None-positive-clause-did : goal.returns-in-None-positive-clause-did
returns-in-None-positive-clause-did c =
    let n = c.args.node.now in
    let t = c.args.t.0 in
    let pid = c.args.pid in
    let tid = c.args.tid in
    let signal = c.args.signal in
    let process : to_z w32 (of_z w32 pid) ≡ pid = search rules in
    let thread : to_z w32 (of_z w32 tid) ≡ tid = search rules in
    did_alone_as n c.answers-in-None-positive.new.node (refuses t EINVAL) (tgkill t pid tid signal)
    (λ rows pages files. tgkill_no_thread t (seen rows n pages files) pid tid signal c.in-Some.p
    (sym (c.positive.ensures ∙ ap positive process) ∙ c.in-Some.is) (sym (c.positive-in-Some.ensures ∙ ap positive thread) ∙ c.in-None-positive.is))
    c.answers-in-None-positive.ensures.did

pub returns-in-None-checked_signal-clause-did : goal.returns-in-None-checked_signal-clause-did
returns-in-None-checked_signal-clause-did c =
    let n = c.args.node.now in
    let t = c.args.t.0 in
    let pid = c.args.pid in
    let tid = c.args.tid in
    let signal = c.args.signal in
    let process : to_z w32 (of_z w32 pid) ≡ pid = search rules in
    let thread : to_z w32 (of_z w32 tid) ≡ tid = search rules in
    let sent : to_z w32 (of_z w32 signal) ≡ signal = search rules in
    did_alone_as n c.answers-in-None-checked_signal.new.node (refuses t EINVAL) (tgkill t pid tid signal)
    (λ rows pages files. tgkill_unknown t (seen rows n pages files) pid tid signal c.in-Some.p c.in-Some-positive.x
    (sym (c.positive.ensures ∙ ap positive process) ∙ c.in-Some.is) (sym (c.positive-in-Some.ensures ∙ ap positive thread) ∙ c.in-Some-positive.is) (sym (c.checked_signal.ensures.is ∙ ap checked_signal sent) ∙ c.in-None-checked_signal.is))
    c.answers-in-None-checked_signal.ensures.did

pub returns-in-Some-checked_signal-clause-did : goal.returns-in-Some-checked_signal-clause-did
returns-in-Some-checked_signal-clause-did c =
    let n = c.args.node.now in
    let t = c.args.t.0 in
    let pid = c.args.pid in
    let tid = c.args.tid in
    let signal = c.args.signal in
    let process : to_z w32 (of_z w32 pid) ≡ pid = search rules in
    let thread : to_z w32 (of_z w32 tid) ≡ tid = search rules in
    let sent : to_z w32 (of_z w32 signal) ≡ signal = search rules in
    did_alone_as n c.kills_thread.new.node (kills_thread t c.in-Some.p c.in-Some-positive.x c.in-Some-checked_signal.s) (tgkill t pid tid signal)
    (λ rows pages files. tgkill_known t (seen rows n pages files) pid tid signal c.in-Some.p c.in-Some-positive.x c.in-Some-checked_signal.s
    (sym (c.positive.ensures ∙ ap positive process) ∙ c.in-Some.is) (sym (c.positive-in-Some.ensures ∙ ap positive thread) ∙ c.in-Some-positive.is) (sym (c.checked_signal.ensures.is ∙ ap checked_signal sent) ∙ c.in-Some-checked_signal.is))
    c.kills_thread.ensures.did
