use Rattle.std.proofs.Common.{ap}
use Rattle.linux_files.proofs.RowKeeps.{room-made, row-kept}
use Rattle.linux_files.specs.Rings.{bytes_of, room_of}
use Rattle.linux_files.proofs.pipes.Pipes.reserve_bytes.Goals as goal

pub returns-then-is_some-clause-map : goal.returns-then-is_some-clause-map
returns-then-is_some-clause-map c =
    row-kept bytes_of c.self.inside.rows.map c.args.pipe c.row_mut.result.now c.reserve.new.self c.args.self.now.map (ap (λ t. t.map) c.self.view_is) c.row_mut.ensures.value c.reserve.ensures.items

pub returns-then-is_some-clause-room : goal.returns-then-is_some-clause-room
returns-then-is_some-clause-room c = room-made room_of c.self.inside.rows.map c.args.pipe c.reserve.new.self c.reserve.result c.args.end c.reserve.ensures.room
