use Rattle.std.proofs.Common.{◌≡◌, ◌+◌, ◌*◌, ◌/◌, ◌%◌, ◌<◌, ◌≤◌, ◌^◌, None, sym, ap, false, subst, ◌∙◌, arith}
use Rattle.mck_word.specs.declared.Access.TheVariants.{Exec}
use Rattle.isa_model.specs.Memory.{lacks, first_lack, number_at, read_unless}
use Rattle.rv64i_user.proofs.InPage.{number-in, no-lack}
use Rattle.rv64i_user.proofs.kept.KeptUserMem.fetch.Goals as goal

pub returns-then-off-le4092 : goal.returns-then-off-le4092
returns-then-off-le4092 g c =
    let s = c.args.self.now in
    let m = g.P.PageMem.memory s.mem in
    let a = c.args.pc in
    let p = c.args.pc / 4096 in
    let o = c.args.pc % 4096 in
    let e : a ≡ p * 4096 + o = omega arith in
    let l : p < 2 ^ 52 = omega arith in
    let kept : s.page < 2 ^ 52 = omega arith in
    let may : lacks m Exec p ≡ false = subst (λ x. lacks m Exec x ≡ false) (sym c.if-page-self.true) (s.may kept) in
    let some : 1 ≤ 4 = omega arith in
    let inside : o + 4 ≤ 4096 = omega arith in
    let none : first_lack m Exec a 4 ≡ None = no-lack m Exec a 4 p o e some inside l may in
    let num = number-in m c.bytes.result.now p o a 4 e inside l c.bytes.ensures ∙ sym c.four.ensures in
    sym (ap (λ x. read_unless x (number_at m a 4)) none ∙ ap (read_unless None) num)
