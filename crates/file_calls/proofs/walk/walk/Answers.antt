use Rattle.std.proofs.Common.{sym, ap, ◌∙◌}
use Rattle.file_calls.specs.Walks.{walked}
use Rattle.file_calls.proofs.WalkSteps.{walked-none, at-long, at-file, at-up, at-child, at-missing}
use Rattle.file_calls.proofs.walk.walk.Goals as goal

pub returns-then-name-gt255-clause-place : goal.returns-then-name-gt255-clause-place
returns-then-name-gt255-clause-place g c = sym (sym c.loop-name.invariant ∙ at-long _ _ _ _ _ c.in-Some.ensures.names c.if-name-gt255.true)

pub returns-then-not-is_directory-clause-place : goal.returns-then-not-is_directory-clause-place
returns-then-not-is_directory-clause-place g c = sym (sym c.loop-name.invariant ∙ at-file _ _ _ _ _ c.in-Some.ensures.names c.if-name-gt255.false (sym c.is_directory.ensures ∙ c.if-not-is_directory.true))

pub returns-in_default-child-clause-place : goal.returns-in_default-child-clause-place
returns-in_default-child-clause-place g c =
    c.missing.ensures.place ∙ sym (sym c.loop-name.invariant ∙ at-missing _ _ _ _ _ c.in-Some.ensures.names c.if-name-gt255.false
    (sym c.is_directory.ensures ∙ c.if-not-is_directory.false) (sym c.is_dot_dot.ensures ∙ c.if-is_dot_dot.false) (sym c.child.ensures ∙ c.in_default-child.is))

pub loop-name-preserved-then-is_dot_dot : goal.loop-name-preserved-then-is_dot_dot
loop-name-preserved-then-is_dot_dot g c =
    ap (λ k. walked (g.S.FileStore.files c.args.files.now) k c.in-Some.more.now) c.parent-here.ensures
    ∙ sym (at-up _ _ _ _ _ c.in-Some.ensures.names c.if-name-gt255.false (sym c.is_directory.ensures ∙ c.if-not-is_directory.false) (sym c.is_dot_dot.ensures ∙ c.if-is_dot_dot.true))
    ∙ c.loop-name.invariant

pub loop-name-preserved : goal.loop-name-preserved
loop-name-preserved g c =
    sym (at-child _ _ _ _ _ c.in-Some.ensures.names c.if-name-gt255.false (sym c.is_directory.ensures ∙ c.if-not-is_directory.false)
    (sym c.is_dot_dot.ensures ∙ c.if-is_dot_dot.false) _ (sym c.child.ensures ∙ c.in-Some-child.is))
    ∙ c.loop-name.invariant

pub returns-clause-place : goal.returns-clause-place
returns-clause-place g c = sym (sym c.loop-name.invariant ∙ walked-none _ _ _ c.in_default.ensures.names)
