use Rattle.std.proofs.Common.{◌≡◌, ◌<◌, ◌∷◌, Err, length, ◌∙◌, ap, arith, length-append}
use Rattle.std.proofs.lemmas.Result.{err_from_is_err_and}
use Rattle.job_text.proofs.TextLines.{last_broken, line_taken, line_fails, none_left, gives_err}
use Rattle.job_text.proofs.text_lines.read_lines.Goals as goal

pub returns-in_default-clause-value : goal.returns-in_default-clause-value
returns-in_default-clause-value g c =
    let some : 0 < length c.loop-rest.rest.now = grind arith in
    last_broken g.D.TakesLines.adds _ _ _ _ c.in_default.ensures.none some c.loop-rest.invariant.value

pub returns-in_err-take_line-clause-value : goal.returns-in_err-take_line-clause-value
returns-in_err-take_line-clause-value g c =
    let p = err_from_is_err_and c.from_residual.result c.from_residual.ensures.1 in
    gives_err _ _ c.in_err-take_line.field-0.0 (p.1 ∙ ap (λ e. Err e) p.2) (line_fails g.D.TakesLines.adds _ _ _ _ _ _ _ c.in-Some.ensures.cut c.in-Some.ensures.line c.in_err-take_line.ensures.err c.loop-rest.invariant.value)

pub loop-rest-preserved : goal.loop-rest-preserved
loop-rest-preserved g c =
    record {
      value = line_taken g.D.TakesLines.adds _ _ _ _ _ _ _ c.in-Some.ensures.cut c.in-Some.ensures.line c.in_ok-take_line.ensures.ok c.loop-rest.invariant.value;
      kept = c.in_ok-take_line.ensures.kept;
      line = omega (arith, ap length c.in-Some.ensures.cut ∙ length-append c.in-Some.bytes.now (10 ∷ c.in-Some.more.now), c.loop-rest.invariant.line);
    }

pub returns-clause-value : goal.returns-clause-value
returns-clause-value g c =
    let none : length c.loop-rest.rest.now ≡ 0 = grind arith in none_left g.D.TakesLines.adds _ _ _ _ none c.loop-rest.invariant.value
