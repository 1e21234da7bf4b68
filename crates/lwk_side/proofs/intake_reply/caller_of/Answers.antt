use Rattle.lwk_side.proofs.Calling.{caller-shown, found-there, is-some}
use Rattle.lwk_side.proofs.intake_reply.caller_of.Goals as goal
use Rattle.lwk_side.specs.declared.task.Caller.{Caller}
use Rattle.std.proofs.Common.{ap, arith, sym, ◌∙◌}
use Rattle.std.specs.Prelude.{find, option_map, ℕ, ◌==◌}

pub overflow_cast-result : goal.overflow_cast-result
overflow_cast-result c =
    let found = ap (find (λ (e : ℕ × Caller). e.1.request.0 == c.args.q.0)) (sym c.as_slice.ensures) ∙ sym c.in-Some.ensures in
    let below = c.requires c.in-Some.row.now.0 c.in-Some.row.now.1 (found-there (λ (e : ℕ × Caller). e.1.request.0 == c.args.q.0) c.args.callers.now.map c.in-Some.row.now found) in
    omega (arith, below)

pub returns-in-Some-clause-is : goal.returns-in-Some-clause-is
returns-in-Some-clause-is c =
    let found = ap (find (λ (e : ℕ × Caller). e.1.request.0 == c.args.q.0)) (sym c.as_slice.ensures) ∙ sym c.in-Some.ensures in
    ap (option_map (λ (e : ℕ × Caller). e.0)) (sym found) ∙ sym (caller-shown c.args.q.0 c.args.callers.now.map)

pub returns-in-Some-clause-there : goal.returns-in-Some-clause-there
returns-in-Some-clause-there c =
    let found = ap (find (λ (e : ℕ × Caller). e.1.request.0 == c.args.q.0)) (sym c.as_slice.ensures) ∙ sym c.in-Some.ensures in
    is-some _ _ (found-there (λ (e : ℕ × Caller). e.1.request.0 == c.args.q.0) c.args.callers.now.map c.in-Some.row.now found)

pub returns-in-None-clause-is : goal.returns-in-None-clause-is
returns-in-None-clause-is c =
    let none = ap (find (λ (e : ℕ × Caller). e.1.request.0 == c.args.q.0)) (sym c.as_slice.ensures) ∙ sym c.in-None.ensures in
    ap (option_map (λ (e : ℕ × Caller). e.0)) (sym none) ∙ sym (caller-shown c.args.q.0 c.args.callers.now.map)
