use Rattle.std.proofs.Common.{◌≡◌, ◌+◌, ◌*◌, ◌/◌, ◌%◌, ◌<◌, ◌≤◌, ◌^◌, None, sym, ap, refl, ◌∙◌, arith}
use Rattle.mck_word.specs.declared.Access.TheVariants.{Write}
use Rattle.isa_model.specs.declared.stops.Stop.{Stop}
use Rattle.isa_model.specs.declared.stops.Stop.TheVariants.{On}
use Rattle.isa_model.specs.Memory.{Memory, first_lack, put_number, stored_unless}
use Rattle.rv64i_user.specs.Places.{put_in}
use Rattle.rv64i_user.specs.Stopping.{store_outcome}
use Rattle.rv64i_user.proofs.Bytewise.{size-some}
use Rattle.rv64i_user.proofs.InPage.{put-in, no-lack, lack-here}
use Rattle.rv64i_user.proofs.in_page.store_to.Goals as goal

pub returns-in-Some-clause-stored : goal.returns-in-Some-clause-stored
returns-in-Some-clause-stored g c =
    let m = g.P.PageMem.memory c.args.m.now in
    let w = g.P.PageMem.memory c.set_some.new.self in
    let a = c.args.addr in
    let p = c.args.addr / 4096 in
    let o = c.args.addr % 4096 in
    let e : a ≡ p * 4096 + o = omega arith in
    let l : p < 2 ^ 52 = omega arith in
    let sizes = size-some c.args.size c.requires.size in
    let some : 1 ≤ c.args.size = sizes.0 in
    let inside : o + c.args.size ≤ 4096 = omega arith in
    let none : first_lack m Write a c.args.size ≡ None = no-lack m Write a c.args.size p o e some inside l (sym c.in-Some.ensures.lacks) in
    let put : put_number m a c.args.size c.args.v ≡ put_in m p o c.args.size c.args.v = put-in m p o a c.args.size c.args.v e inside l in
    let wrote = c.set_some.ensures.memory in
    ap (λ (s : Stop). (s, w)) c.requires.on
    ∙ ap (λ (x : Memory). (On, x)) (wrote ∙ sym put)
    ∙ sym (ap (λ x. store_outcome (stored_unless x m (put_number m a c.args.size c.args.v))) none)

pub returns-in-None-clause-stored : goal.returns-in-None-clause-stored
returns-in-None-clause-stored g c =
    let m = g.P.PageMem.memory c.args.m.now in
    let lack = lack-here m Write c.args.addr c.args.size (c.args.addr / 4096) refl (sym c.in-None.ensures.lacks) in
    sym (ap (λ x. store_outcome (stored_unless x m (put_number m c.args.addr c.args.size c.args.v))) lack)
