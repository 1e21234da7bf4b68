use Rattle.std.proofs.Common.{◌≡◌, ◌+◌, ◌-◌, ◌/◌, ◌%◌, ◌^◌, true, false, Some, sym, ap, subst, ◌∙◌}
use Rattle.isa_model.specs.Memory.{lacks}
use Rattle.rv64i_user.specs.Places.{Within}
use Rattle.rv64i_user.proofs.Bytewise.{size-some, last-is, first-lacks, last-lacks, none-lacks}
use Rattle.rv64i_user.proofs.PagesOfAccess.{within}
use Rattle.rv64i_user.proofs.across.find.Goals as goal

pub returns-in-Some-place : goal.returns-in-Some-place
returns-in-Some-place g c =
    let m = g.P.PageMem.memory c.args.m.now in
    let a = c.args.addr in
    let n = c.args.size in
    let last = last-is a n c.from.result c.requires c.from.ensures in
    let here : lacks m c.args.access (a / 4096) ≡ false = sym c.in-Some.ensures.lacks in
    let there : lacks m c.args.access ((a + n - 1) % 2 ^ 64 / 4096) ≡ false = subst (λ p. lacks m c.args.access p ≡ false) last (sym c.in-Some-place.ensures.lacks) in (
      none-lacks m c.args.access a n here there,
      c.in-Some.ensures.held,
      c.in-Some-place.ensures.held,
      subst (λ q. Within (a / 4096) q a n) (sym last) (within a n c.ranges.addr.fits (size-some n c.requires).1),
    )

pub returns-in-None-place : goal.returns-in-None-place
returns-in-None-place g c =
    let m = g.P.PageMem.memory c.args.m.now in
    let a = c.args.addr in
    let n = c.args.size in
    let last = last-is a n c.from.result c.requires c.from.ensures in
    let here : lacks m c.args.access (a / 4096) ≡ false = sym c.in-Some.ensures.lacks in
    let there : lacks m c.args.access ((a + n - 1) % 2 ^ 64 / 4096) ≡ true = subst (λ p. lacks m c.args.access p ≡ true) last (sym c.in-None-place.ensures.lacks) in
    last-lacks m c.args.access a n here there ∙ ap (λ p. Some (record { page = p; access = c.args.access })) (sym last)

pub returns-in-None : goal.returns-in-None
returns-in-None g c = first-lacks (g.P.PageMem.memory c.args.m.now) c.args.access c.args.addr c.args.size (sym c.in-None.ensures.lacks)
