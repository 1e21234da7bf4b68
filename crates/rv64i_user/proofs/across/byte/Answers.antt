use Rattle.std.proofs.Common.{ap, ◌∙◌, ◌/◌}
use Rattle.rv64i_user.proofs.TwoPlaces.{place-held}
use Rattle.rv64i_user.proofs.across.byte.Goals as goal

pub bytes-requires : goal.bytes-requires
bytes-requires g c =
    let holds = g.P.PageMem.holds c.args.m.now in
    let two = c.args.two.now in
    ap (λ k. holds k (c.args.addr / 4096)) c.place_of.ensures ∙ place-held holds (c.args.addr / 4096) two.first two.at two.second two.then c.requires.one c.requires.first c.requires.second
