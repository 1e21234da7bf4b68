use Rattle.file_model.specs.Files.{root_only}
use Rattle.one_kernel.proofs.changing.make_change.Goals as goal
use Rattle.one_kernel.specs.Due.{HasRoomFor}
use Rattle.std.proofs.Common.{subst, sym}
use Rattle.std.specs.Prelude.{Some, ℕ}

pub make-requires-clause-room : goal.make-requires-clause-room
make-requires-clause-room c = subst (λ (brk : ℕ). HasRoomFor c.args.memory.now.spare brk (Some c.args.change.now)) (sym (c.program_break-brk.ensures root_only)) (c.requires.room root_only)
