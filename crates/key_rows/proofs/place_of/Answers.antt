use Rattle.std.proofs.Common.{◌-◌, ◌<◌, arith, length, sym}
use Rattle.key_rows.proofs.Placed.{place-at}
use Rattle.key_rows.proofs.place_of.Goals as goal

pub returns-then-rows-before-clause-at : goal.returns-then-rows-before-clause-at
returns-then-rows-before-clause-at g c =
    let first = c.if-key-ge1.true in
    let last = c.if-key-rows.true in
    let within : c.args.key - 1 < length c.args.rows.now = omega arith in
    let d = c.index-rows-before.result in
    sym (place-at c.args.key (c.args.key - 1) c.args.rows.now d c.requires within c.if-rows-before.true)
