use Rattle.file_model.specs.Errno.{EINVAL}
use Rattle.kernel_model.specs.LocalCalls.{answers, refuses, sets_robust_list}
use Rattle.lwk_views.proofs.Doing.{did_alone_as}
use Rattle.lwk_views.specs.Views.{seen}
use Rattle.std.proofs.Common.{ap, cond, pos}
use Rattle.std.proofs.lemmas.Bool.{eq-eqb, ne_eqb}
use Rattle.lwk_calls.proofs.own.sets_robust_list.Goals as goal

pub returns-then-len-eq24-clause-did : goal.returns-then-len-eq24-clause-did
returns-then-len-eq24-clause-did c =
    let t = c.args.t.0 in
    did_alone_as _ _ (answers t (pos 0)) (sets_robust_list t c.args.len)
    (λ rows pages files. let v = seen rows c.args.node.now pages files in ap (λ b. cond b (answers t (pos 0) v) (refuses t EINVAL v)) (eq-eqb c.args.len 24 c.if-len-eq24.true)) c.answers.ensures.did

pub returns-else-len-eq24-clause-did : goal.returns-else-len-eq24-clause-did
returns-else-len-eq24-clause-did c =
    let t = c.args.t.0 in
    did_alone_as _ _ (refuses t EINVAL) (sets_robust_list t c.args.len)
    (λ rows pages files. let v = seen rows c.args.node.now pages files in ap (λ b. cond b (answers t (pos 0) v) (refuses t EINVAL v)) (ne_eqb c.args.len 24 c.if-len-eq24.false)) c.answers-else-len-eq24.ensures.did
