use Rattle.rv_quantum.proofs.Rows.{at-has, bytes-at, has-inside}
use Rattle.std.proofs.Common.{length, rules, ◌<◌}
use Rattle.rv_quantum.proofs.images.Images.bytes.Goals as goal

pub index-requires : goal.index-requires
index-requires c =
    let is = c.args.self.now.rows.items in
    let l : c.args.k < length is = has-inside is c.args.k c.args.page (at-has is c.args.k c.args.page c.requires) in
    search rules

pub returns : goal.returns
returns c =
    let s = c.args.self.now in
    bytes-at s.rows.items c.args.k c.args.page c.index.result.now s.apart c.requires c.index.ensures
