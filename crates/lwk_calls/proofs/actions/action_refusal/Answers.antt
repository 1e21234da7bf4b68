use Rattle.file_model.specs.Errno.{EFAULT, EINVAL}
use Rattle.lwk_calls.specs.SignalWords.{is_wrong_action}
use Rattle.mck_word.specs.Words.{refused}
use Rattle.std.proofs.Common.{None, Some, ap, cond, of_z, rules, sym, to_z, w32, ◌≡◌, ◌∙◌}
use Rattle.lwk_calls.proofs.actions.action_refusal.Goals as goal

pub returns-then-lacks_access : goal.returns-then-lacks_access
returns-then-lacks_access g c = λ pages.
    let given : to_z w32 (of_z w32 c.args.signal) ≡ c.args.signal = search rules in
    let right = sym (c.is_wrong.ensures ∙ ap (λ z. is_wrong_action z c.args.act c.args.size) given) ∙ c.if-is_wrong.false in
    let lacking = sym (c.lacks_access.ensures pages) ∙ c.if-lacks_access.true in
    sym (λ i. cond (right i) (Some (refused EINVAL)) (cond (lacking i) (Some (refused EFAULT)) None))

pub returns-else-lacks_access : goal.returns-else-lacks_access
returns-else-lacks_access g c = λ pages.
    let given : to_z w32 (of_z w32 c.args.signal) ≡ c.args.signal = search rules in
    let right = sym (c.is_wrong.ensures ∙ ap (λ z. is_wrong_action z c.args.act c.args.size) given) ∙ c.if-is_wrong.false in
    let reached = sym (c.lacks_access.ensures pages) ∙ c.if-lacks_access.false in
    sym (λ i. cond (right i) (Some (refused EINVAL)) (cond (reached i) (Some (refused EFAULT)) None))
