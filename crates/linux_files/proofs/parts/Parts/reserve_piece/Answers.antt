use Rattle.linux_files.proofs.Keeps.{same-files}
use Rattle.linux_files.proofs.PieceRoom.{piece-room}
use Rattle.linux_files.specs.Seen.{seen_parts}
use Rattle.linux_files.proofs.parts.Parts.reserve_piece.Goals as goal

pub returns-clause-room : goal.returns-clause-room
returns-clause-room c =
    piece-room c.reserve_target.new.self (seen_parts c.args.self.now) (seen_parts c.reserve_target.new.self) c.args.d c.args.at c.args.moved c.args.len c.description_of.result c.put_end_of-end.result c.reserve_target.result
    (same-files _ _ c.reserve_target.ensures.same) c.description_of.ensures.is c.put_end_of-end.ensures c.reserve_target.ensures.room
