use Rattle.file_model.specs.Files.{root_only}
use Rattle.lwk_changes.specs.Conditions.{GoesAhead, HasRoomFor}
use Rattle.lwk_side.proofs.kernel.Lwk.make_change.Goals as goal
use Rattle.lwk_space.specs.Lacks.{memory}
use Rattle.std.proofs.Common.{subst, sym}
use Rattle.std.specs.Prelude.{length, ℕ}

pub make-requires-clause-room : goal.make-requires-clause-room
make-requires-clause-room g c =
    let own = c.args.task.now.space in
    subst (λ (brk : ℕ). HasRoomFor (g.T.PageTable.has_room own.table) own.areas.spare brk c.args.change.now) (sym (c.program_break-brk.ensures root_only)) (c.requires.room root_only)

pub make-requires-clause-ahead : goal.make-requires-clause-ahead
make-requires-clause-ahead g c =
    let lwk = c.args.self.now in
    let m = memory (g.T.PageTable.rows c.args.task.now.space.table) lwk.frames in
    subst (λ (brk : ℕ). GoesAhead m (length lwk.pool.free) brk c.args.change.now) (sym (c.program_break-brk.ensures root_only)) (c.requires.ahead root_only)
