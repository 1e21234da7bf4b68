use Rattle.lwk_side.proofs.kernel.Lwk.make_ack_room.Goals as goal
use Rattle.file_model.specs.Files.{root_only}
use Rattle.kernel_model.specs.Nodes.{change_in, process_of, thread_of}
use Rattle.kernel_model.specs.declared.Change.{Change}
use Rattle.kernel_tables.specs.Shown.{node_of}
use Rattle.lwk_side.specs.Changing.{HasAckRoom}
use Rattle.lwk_space.specs.Lacks.{memory}
use Rattle.offer_laws.proofs.ChangeFits.{wanted-fits}
use Rattle.std.proofs.Common.{ap, subst, sym, ◌∙◌}
use Rattle.std.proofs.lemmas.Result.{on_ok_weaker}
use Rattle.std.specs.Prelude.{Option, length, ℕ}

pub make_end_room-requires-clause-fits : goal.make_end_room-requires-clause-fits
make_end_room-requires-clause-fits g c =
    wanted-fits (node_of c.args.self.now.node root_only) c.changing_thread.result.0 c.in-InVm.change (c.requires.fits root_only) (ap change_in (sym (c.does.ensures root_only) ∙ c.in-InVm.is))

pub returns-clause-room : goal.returns-clause-room
returns-clause-room g c =
    on_ok_weaker c.make_end_room.result
    (λ room. λ files.
    let lwk = c.args.self.now in
    let own = c.make_end_room.new.space in
    let x = process_of (node_of lwk.node files) c.args.p.0 in
    let m = memory (g.T.PageTable.rows own.table) lwk.frames in
    let wants = ap change_in (sym c.in-InVm.is ∙ c.does.ensures files) ∙ ap (λ (t : ℕ). change_in (thread_of (node_of lwk.node files) t).does) c.changing_thread.ensures in
    subst (λ (o : Option Change). HasAckRoom (g.T.PageTable.has_room own.table) own.areas.spare x m (length lwk.pool.free) o) wants (room files))
    c.make_end_room.ensures.room
