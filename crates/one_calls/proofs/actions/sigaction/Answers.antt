use Rattle.kernel_model.specs.SignalCalls.{nat_of, sets_action, sigaction}
use Rattle.one_calls.proofs.Acting.{sigaction-goes}
use Rattle.one_calls.proofs.Doing.{did_as}
use Rattle.one_calls.specs.SignalWords.{is_wrong_action}
use Rattle.one_calls.specs.Views.{Did, seen}
use Rattle.std.proofs.Common.{ap, of_z, rules, subst, sym, to_z, w32, ◌≡◌, ◌∙◌}
use Rattle.one_calls.proofs.actions.sigaction.Goals as goal

pub returns-else-lacks_access : goal.returns-else-lacks_access
returns-else-lacks_access c =
    let n = c.args.node.now in
    let m = c.args.memory.now.map in
    let after = c.sets_action.new.node in
    let left = c.sets_action.new.memory.map in
    let t = c.args.t.0 in
    let signal = c.args.signal in
    let given : to_z w32 (of_z w32 signal) ≡ signal = search rules in
    let right = sym (c.is_wrong.ensures ∙ ap (λ z. is_wrong_action z c.args.act c.args.size) given) ∙ c.if-is_wrong.false in
    did_as m n after left (sets_action t (nat_of signal) c.args.act c.args.old) (sigaction t signal c.args.act c.args.old c.args.size)
    (λ files. sigaction-goes t signal c.args.act c.args.old c.args.size (seen n m files) right (sym c.lacks_access.ensures.is ∙ c.if-lacks_access.false))
    (subst (λ s. Did n m after left (sets_action t s c.args.act c.args.old)) (c.number_of_signal.ensures ∙ ap nat_of given) c.sets_action.ensures)
