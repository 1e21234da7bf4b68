use Rattle.std.proofs.Common.{◌≡◌, ◌<◌, ◌^◌, Some, None, true, option_map, ap, sym, ◌∙◌, subst, arith}
use Rattle.std.specs.List.{find}
use Rattle.isa_model.specs.Table.{table}
use Rattle.isa_model.specs.Decode.{fits, read, decoded, is_code}
use Rattle.rv_code.proofs.Facts.{registers-of}
use Rattle.rv_code.proofs.Laws.{found-code}
use Rattle.rv_code.proofs.reading.decode.Goals as goal

pub invariant_of-result : goal.invariant_of-result
invariant_of-result c =
    let small : c.args.w < 2 ^ 32 = omega arith in
    let found : find (λ row. fits row c.args.w) table ≡ Some c.in-Some.row = sym c.row_for.ensures ∙ c.in-Some.is in
    record { coded = subst (λ f. is_code f ≡ true) (sym c.read_as.ensures) (found-code c.args.w c.in-Some.row small found).0 }

pub returns-in-Some-clause-decoded : goal.returns-in-Some-clause-decoded
unfolding decoded
returns-in-Some-clause-decoded c =
    let found : find (λ row. fits row c.args.w) table ≡ Some c.in-Some.row = sym c.row_for.ensures ∙ c.in-Some.is in
    ap Some c.read_as.ensures ∙ sym (ap (option_map (λ row. read row.shape row.op c.args.w)) found)

pub returns-in-None-clause-decoded : goal.returns-in-None-clause-decoded
unfolding decoded
returns-in-None-clause-decoded c =
    let found : find (λ row. fits row c.args.w) table ≡ None = sym c.row_for.ensures ∙ c.in-None.is in
    sym (ap (option_map (λ row. read row.shape row.op c.args.w)) found)

pub returns-in-Some-clause-registers : goal.returns-in-Some-clause-registers
returns-in-Some-clause-registers c =
    let small : c.args.w < 2 ^ 32 = omega arith in
    let found : find (λ row. fits row c.args.w) table ≡ Some c.in-Some.row = sym c.row_for.ensures ∙ c.in-Some.is in
    registers-of _ (subst (λ f. is_code f ≡ true) (sym c.read_as.ensures) (found-code c.args.w c.in-Some.row small found).0)
