use Rattle.std.proofs.Common.{◌≡◌, suc, ◌+◌, ◌-◌, length, Err, sym, ◌∙◌, ap, subst, arith, All, length-append}
use Rattle.std.specs.Option.{option_to_list}
use Rattle.std.proofs.lemmas.Result.{err_from_is_err_and}
use Rattle.elf_load.specs.Kept.{IsInside}
use Rattle.elf_load.proofs.Reading.{segments_more, segments_fail, segments_done, gives_err, length_found, All_found}
use Rattle.elf_load.proofs.headers.read_segments.Goals as goal

pub returns-in_err-found-clause-value : goal.returns-in_err-found-clause-value
returns-in_err-found-clause-value c =
    let p = err_from_is_err_and c.from_residual.result c.from_residual.ensures.1 in
    let n : c.args.header.now.count - c.loop-number.number ≡ suc (c.args.header.now.count - (c.loop-number.number + 1)) = omega arith in
    gives_err _ _ _ c.in_err-found.field-0.0 (p.1 ∙ ap (λ e. Err e) p.2) (segments_fail _ _ _ _ _ _ _ _ n c.in_err-found.ensures.value c.loop-number.invariant.value)

pub loop-number-preserved : goal.loop-number-preserved
loop-number-preserved c =
    let n : c.args.header.now.count - c.loop-number.number ≡ suc (c.args.header.now.count - (c.loop-number.number + 1)) = omega arith in
    let added = c.in_ok-add_found.ensures in
    record {
      value = segments_more _ _ _ _ _ _ _ _ _ n added c.in_ok-found.ensures.value c.loop-number.invariant.value;
      at = omega arith;
      most = omega arith;
      count = omega (arith, ap length added ∙ length-append c.loop-number.placed (option_to_list c.in_ok-found.found), length_found c.in_ok-found.found, c.loop-number.invariant.count);
      inside = subst (All (IsInside (length c.args.bytes.now))) (sym added) (All_found (IsInside (length c.args.bytes.now)) c.loop-number.placed c.in_ok-found.found c.loop-number.invariant.inside c.in_ok-found.ensures.inside);
    }

pub returns-clause-value : goal.returns-clause-value
returns-clause-value c =
    let n : c.args.header.now.count - c.loop-number.number ≡ 0 = omega arith in segments_done _ _ _ _ _ _ n c.loop-number.invariant.value
