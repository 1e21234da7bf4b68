use Rattle.std.proofs.Common.{◌+◌, ◌-◌, ◌%◌, ◌/◌, ◌^◌, sym, ap, ◌∙◌, arith}
use Rattle.isa_model.specs.Memory.{put_number}
use Rattle.rv64i_user.proofs.Bytewise.{put-none, put-step}
use Rattle.rv64i_user.proofs.PagesOfAccess.{within-here, within-next}
use Rattle.rv64i_user.proofs.TwoPlaces.{place-held, one-byte}
use Rattle.rv64i_user.proofs.across.+put.Goals as goal

pub returns-then-n-ne0-clause-put : goal.returns-then-n-ne0-clause-put
returns-then-n-ne0-clause-put g t c =
    let m = g.P.PageMem.memory c.args.m.now in
    let step = put-step m c.args.addr c.args.n c.args.v c.if-n-ne0.true in
    let byte = c.set_some.ensures.memory ∙ one-byte m c.args.addr c.args.v in
    c.put.ensures.put ∙ ap (λ x. put_number x ((c.args.addr + 1) % 2 ^ 64) (c.args.n - 1) (c.args.v / 256)) byte ∙ sym step

pub returns-else-n-ne0-clause-put : goal.returns-else-n-ne0-clause-put
returns-else-n-ne0-clause-put g t c = sym (put-none _ _ c.args.n _ c.if-n-ne0.false)

pub set_some-requires-clause-held : goal.set_some-requires-clause-held
set_some-requires-clause-held g t c =
    let holds = g.P.PageMem.holds c.args.m.now in
    let two = c.args.two.now in
    let one = within-here two.first two.second c.args.addr c.args.n c.ranges.addr.fits (omega arith) c.requires.within in
    ap (λ k. holds k (c.args.addr / 4096)) c.place_of.ensures ∙ place-held holds (c.args.addr / 4096) two.first two.at two.second two.then one c.requires.first c.requires.second

pub put-requires : goal.put-requires
put-requires g t c κs within =
    let two = c.args.two.now in
    (omega (arith, c.decreases), (within, (c.set_some.ensures.held two.at two.first c.requires.first, (c.set_some.ensures.held two.then two.second c.requires.second, within-next two.first two.second c.args.addr c.args.n c.requires.within))))
