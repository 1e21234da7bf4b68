use Rattle.std.proofs.Common.{ap}
use Rattle.linux_files.proofs.RowKeeps.{guest-put, room-made, row-kept}
use Rattle.linux_files.specs.Consoles.{console_of_row, room_of_row}
use Rattle.linux_files.proofs.consoles.Consoles.reserve_bytes.Goals as goal

pub invariant_of-self : goal.invariant_of-self
invariant_of-self c = guest-put c.self.inside.rows.map c.args.guest c.reserve.new.self c.ranges.guest.fits c.self.invariant

pub returns-then-is_some-clause-map : goal.returns-then-is_some-clause-map
returns-then-is_some-clause-map c =
    row-kept console_of_row c.self.inside.rows.map c.args.guest c.row_mut.result.now c.reserve.new.self c.args.self.now.map (ap (λ t. t.map) c.self.view_is) c.row_mut.ensures.value c.reserve.ensures.console

pub returns-then-is_some-clause-room : goal.returns-then-is_some-clause-room
returns-then-is_some-clause-room c = room-made room_of_row c.self.inside.rows.map c.args.guest c.reserve.new.self c.reserve.result c.args.end c.reserve.ensures.room
