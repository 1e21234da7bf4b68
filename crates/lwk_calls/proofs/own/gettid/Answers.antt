use Rattle.kernel_model.specs.LocalCalls.{answers}
use Rattle.lwk_views.specs.Views.{DidAlone}
use Rattle.std.proofs.Common.{pos, rules, subst, to_z, w64, ℤ, ◌≡◌}
use Rattle.lwk_calls.proofs.own.gettid.Goals as goal

pub returns-clause-did : goal.returns-clause-did
returns-clause-did c =
    let t = c.args.t.0 in
    let number : to_z w64 t ≡ pos t = search rules in
    subst (λ (z : ℤ). DidAlone c.args.node.now c.answers.new.node (answers t z)) number c.answers.ensures.did
