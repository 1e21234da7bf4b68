use Rattle.kernel_model.specs.SignalCalls.{nat_of, sets_action, sigaction}
use Rattle.kernel_model.specs.Signals.{View}
use Rattle.lwk_calls.proofs.Acting.{action_is, action_pointed, signal_known}
use Rattle.lwk_calls.proofs.Refusing.{goes_on, refused_did}
use Rattle.lwk_calls.specs.SignalWords.{action_refusal}
use Rattle.lwk_space.specs.Lacks.{memory}
use Rattle.lwk_views.specs.Views.{Did}
use Rattle.std.proofs.Common.{ap, of_z, rules, subst, sym, to_z, w32, w64, ◌≡◌, ◌≤◌, ◌∙◌}
use Rattle.lwk_calls.proofs.actions.sigaction.Goals as goal

pub sets_action-requires-clause-least : goal.sets_action-requires-clause-least
sets_action-requires-clause-least g c =
    let m = memory (g.T.PageTable.rows c.args.space.now.table) c.args.mem.now in
    let known = signal_known m (to_z w32 (of_z w32 c.args.signal)) c.args.act c.args.old c.args.size (sym (c.action_refusal.ensures c.args.mem.now) ∙ c.in-None.is) in
    subst (λ n. 1 ≤ n) (sym c.number_of_signal.ensures) known.0

pub sets_action-requires-clause-most : goal.sets_action-requires-clause-most
sets_action-requires-clause-most g c =
    let m = memory (g.T.PageTable.rows c.args.space.now.table) c.args.mem.now in
    let known = signal_known m (to_z w32 (of_z w32 c.args.signal)) c.args.act c.args.old c.args.size (sym (c.action_refusal.ensures c.args.mem.now) ∙ c.in-None.is) in
    subst (λ n. n ≤ 64) (sym c.number_of_signal.ensures) known.1

pub sets_action-requires-clause-read : goal.sets_action-requires-clause-read
sets_action-requires-clause-read g c =
    let m = memory (g.T.PageTable.rows c.args.space.now.table) c.args.mem.now in
    (action_pointed m (to_z w32 (of_z w32 c.args.signal)) c.args.act c.args.old c.args.size (sym (c.action_refusal.ensures c.args.mem.now) ∙ c.in-None.is)).reads

pub sets_action-requires-clause-written : goal.sets_action-requires-clause-written
sets_action-requires-clause-written g c =
    let m = memory (g.T.PageTable.rows c.args.space.now.table) c.args.mem.now in
    (action_pointed m (to_z w32 (of_z w32 c.args.signal)) c.args.act c.args.old c.args.size (sym (c.action_refusal.ensures c.args.mem.now) ∙ c.in-None.is)).writes

pub returns-in-Some-clause-did : goal.returns-in-Some-clause-did
returns-in-Some-clause-did g c =
    let rows = g.T.PageTable.rows c.args.space.now.table in
    let pages = c.args.mem.now in
    let t = c.args.t.0 in
    let signal = c.args.signal in
    let z = c.in-Some.answer in
    let same : to_z w64 (of_z w64 z) ≡ z = search rules in
    let given : to_z w32 (of_z w32 signal) ≡ signal = search rules in
    refused_did rows pages c.args.node.now c.answers.new.node pages t (sigaction t signal c.args.act c.args.old c.args.size) (sets_action t (nat_of signal) c.args.act c.args.old)
    (λ (v : View). action_refusal v.memory signal c.args.act c.args.old c.args.size) (action_is t signal c.args.act c.args.old c.args.size) _ z same
    (λ files. sym (c.action_refusal.ensures pages ∙ ap (λ s. action_refusal (memory rows pages) s c.args.act c.args.old c.args.size) given) ∙ c.in-Some.is) (c.answers.ensures.did rows pages c.requires.frames)

pub returns-in-None-clause-did : goal.returns-in-None-clause-did
returns-in-None-clause-did g c =
    let rows = g.T.PageTable.rows c.args.space.now.table in
    let n = c.args.node.now in
    let pages = c.args.mem.now in
    let after = c.sets_action.new.node in
    let left = c.sets_action.new.mem in
    let t = c.args.t.0 in
    let signal = c.args.signal in
    let given : to_z w32 (of_z w32 signal) ≡ signal = search rules in
    goes_on rows pages n after left t (sigaction t signal c.args.act c.args.old c.args.size) (sets_action t (nat_of signal) c.args.act c.args.old)
    (λ (v : View). action_refusal v.memory signal c.args.act c.args.old c.args.size) (action_is t signal c.args.act c.args.old c.args.size)
    (λ files. sym (c.action_refusal.ensures pages ∙ ap (λ s. action_refusal (memory rows pages) s c.args.act c.args.old c.args.size) given) ∙ c.in-None.is)
    (subst (λ s. Did rows n pages after left (sets_action t s c.args.act c.args.old)) (c.number_of_signal.ensures ∙ ap nat_of given) c.sets_action.ensures.did)
