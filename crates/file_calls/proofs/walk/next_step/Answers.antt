use Rattle.std.proofs.Common.{sym, ◌∙◌, arith}
use Rattle.file_calls.proofs.WalkSteps.{steps-none, steps-dot, steps-name}
use Rattle.file_calls.proofs.walk.next_step.Goals as goal

pub returns-then-not-is_dot-clause-names : goal.returns-then-not-is_dot-clause-names
returns-then-not-is_dot-clause-names c = sym c.loop-name.invariant.0 ∙ steps-name _ _ _ c.in-Some.ensures.names (sym c.is_dot.ensures ∙ c.if-not-is_dot.true)

pub loop-name-preserved : goal.loop-name-preserved
loop-name-preserved c =
    let h = c.in-Some.ensures.shorter in
    (sym (steps-dot _ _ _ c.in-Some.ensures.names (sym c.is_dot.ensures ∙ c.if-not-is_dot.false)) ∙ c.loop-name.invariant.0, omega arith)

pub returns-clause-names : goal.returns-clause-names
returns-clause-names c = sym c.loop-name.invariant.0 ∙ steps-none _ c.in_default.ensures.names
