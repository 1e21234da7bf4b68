use Rattle.slab.specs.Slab.{get}
use Rattle.std.proofs.Common.{◌≡◌, ◌+◌, ◌/◌, ap, ◌∙◌, arith}
use Rattle.sv_table.proofs.Keys.{key_at-root}
use Rattle.sv_table.proofs.Paging.{touches_leaf, touches_middle}
use Rattle.sv_table.proofs.pages.put_in.Goals as goal
use Rattle.sv_table.specs.Walks.{above, key_at}

pub make-middle-requires-clause-parent : goal.make-middle-requires-clause-parent
make-middle-requires-clause-parent c =
    let low = c.requires.low in
    let root : above (1 + c.args.page / 262144) ≡ 0 = omega arith in
    ap (key_at (get c.args.nodes.now)) root ∙ key_at-root (get c.args.nodes.now)

pub make-middle-requires-clause-room : goal.make-middle-requires-clause-room
make-middle-requires-clause-room c = let room = c.requires.room in (room.0, room.1, touches_middle room.0 c.args.page c.requires.low room.2)

pub make-leaf-requires-clause-room : goal.make-leaf-requires-clause-room
make-leaf-requires-clause-room c =
    let room = c.requires.room in
    (room.0, c.make-middle.ensures.room room.0 (touches_middle room.0 c.args.page c.requires.low room.2) room.1, touches_leaf room.0 c.args.page room.2)

pub returns-clause-here : goal.returns-clause-here
returns-clause-here c = c.set_word.ensures.here ∙ c.page_entry.ensures.row

pub returns-clause-room : goal.returns-clause-room
returns-clause-room c = λ rs there fits.
    c.set_word.ensures.room rs (c.make-leaf.ensures.room rs (touches_leaf rs c.args.page there) (c.make-middle.ensures.room rs (touches_middle rs c.args.page c.requires.low there) fits))
