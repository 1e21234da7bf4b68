use Rattle.std.proofs.Common.{◌≡◌, ◌^◌, ◌<◌, true, Some, None, option_map, ap, sym, refl, subst, ◌∙◌, arith}
use Rattle.std.specs.List.{find}
use Rattle.isa_model.specs.Atomics.{am_fits, am_table}
use Rattle.rv_am.specs.Words.{am, as_row, is_am_code}
use Rattle.rv_am.proofs.WordFields.{decoded-is, read_in, found-code, same-fields}
use Rattle.rv_am.proofs.reading.decode.Goals as goal

pub invariant_of-result : goal.invariant_of-result
invariant_of-result c =
    let small : c.args.w < 2 ^ 32 = omega arith in
    let row = as_row c.in-Some.row in
    let found : find (am_fits c.args.w) am_table ≡ Some row = sym c.row_for.ensures ∙ ap (option_map as_row) c.in-Some.is in
    let same : am row.op c.register.result c.register-in-Some.result c.register-in-Some-2.result c.order_in.result ≡ read_in c.args.w row =
    same-fields row.op row.op _ _ _ _ _ _ _ _ refl c.register.ensures.value c.register-in-Some.ensures.value c.register-in-Some-2.ensures.value c.order_in.ensures in
    record { coded = subst (λ i. is_am_code i ≡ true) (sym same) (found-code c.args.w row small found).0 }

pub returns-in-Some-clause-decoded : goal.returns-in-Some-clause-decoded
returns-in-Some-clause-decoded c =
    let row = as_row c.in-Some.row in
    let found : find (am_fits c.args.w) am_table ≡ Some row = sym c.row_for.ensures ∙ ap (option_map as_row) c.in-Some.is in
    let same : am row.op c.register.result c.register-in-Some.result c.register-in-Some-2.result c.order_in.result ≡ read_in c.args.w row =
    same-fields row.op row.op _ _ _ _ _ _ _ _ refl c.register.ensures.value c.register-in-Some.ensures.value c.register-in-Some-2.ensures.value c.order_in.ensures in
    ap Some same ∙ sym (decoded-is c.args.w ∙ ap (option_map (read_in c.args.w)) found)

pub returns-in-None-clause-decoded : goal.returns-in-None-clause-decoded
returns-in-None-clause-decoded c =
    let found : find (am_fits c.args.w) am_table ≡ None = sym c.row_for.ensures ∙ ap (option_map as_row) c.in-None.is in
    sym (decoded-is c.args.w ∙ ap (option_map (read_in c.args.w)) found)
