use Rattle.std.proofs.Common.{◌≡◌, ◌+◌, ◌*◌, ◌/◌, ◌%◌, ◌<◌, ◌≤◌, ◌^◌, Some, None, sym, ap, refl, ◌∙◌, arith}
use Rattle.mck_word.specs.declared.Access.TheVariants.{Read}
use Rattle.isa_model.specs.declared.stops.Stop.{Stop}
use Rattle.isa_model.specs.Memory.{first_lack, number_at, read_unless}
use Rattle.rv64i_user.specs.Stopping.{load_case}
use Rattle.rv64i_user.proofs.Bytewise.{size-some}
use Rattle.rv64i_user.proofs.InPage.{number-in, no-lack, lack-here}
use Rattle.rv64i_user.proofs.in_page.load_to.Goals as goal

pub returns-in-Some : goal.returns-in-Some
returns-in-Some g c =
    let m = g.P.PageMem.memory c.args.m.now in
    let a = c.args.addr in
    let p = c.args.addr / 4096 in
    let o = c.args.addr % 4096 in
    let e : a ≡ p * 4096 + o = omega arith in
    let l : p < 2 ^ 52 = omega arith in
    let sizes = size-some c.args.size c.requires.size in
    let some : 1 ≤ c.args.size = sizes.0 in
    let inside : o + c.args.size ≤ 4096 = omega arith in
    let none : first_lack m Read a c.args.size ≡ None = no-lack m Read a c.args.size p o e some inside l (sym c.in-Some.ensures.lacks) in
    let num = number-in m c.bytes.result.now p o a c.args.size e inside l c.bytes.ensures ∙ sym c.some_bytes.ensures in
    ap (λ (s : Stop). (Some c.some_bytes.result, s)) c.requires.on
    ∙ sym (ap load_case (ap (λ x. read_unless x (number_at m a c.args.size)) none ∙ ap (read_unless None) num))

pub returns-in-None : goal.returns-in-None
returns-in-None g c =
    let m = g.P.PageMem.memory c.args.m.now in
    let lack = lack-here m Read c.args.addr c.args.size (c.args.addr / 4096) refl (sym c.in-None.ensures.lacks) in
    sym (ap (λ x. load_case (read_unless x (number_at m c.args.addr c.args.size))) lack)
