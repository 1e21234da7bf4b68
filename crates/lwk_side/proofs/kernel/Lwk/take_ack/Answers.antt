use Rattle.lwk_side.proofs.kernel.Lwk.take_ack.Goals as goal
use Rattle.file_model.specs.Files.{root_only}
use Rattle.hybrid_model.specs.Intake.{change_made_of}
use Rattle.hybrid_model.specs.Pairs.{Here, with_side}
use Rattle.hybrid_model.specs.Rings.{rest_of}
use Rattle.kernel_model.specs.Nodes.{change_in}
use Rattle.kernel_model.specs.declared.Change.{Change}
use Rattle.kernel_model.specs.declared.Does.{Does}
use Rattle.kernel_tables.specs.Shown.{node_of}
use Rattle.lwk_side.proofs.Acked.{ack-is, no-change, over-is}
use Rattle.lwk_side.specs.Shown.{here_of}
use Rattle.offer_laws.proofs.ChangeFits.{wanted-fits}
use Rattle.std.proofs.Common.{ap, sym, ◌∙◌}
use Rattle.std.specs.Prelude.{None, Option, Some}

pub ends_change-requires-clause-fits : goal.ends_change-requires-clause-fits
ends_change-requires-clause-fits g c =
    wanted-fits (node_of c.args.self.now.node root_only) c.changing_thread-t.result.0 c.in-InVm.change (c.requires.fits root_only) (ap change_in (sym (c.does.ensures root_only) ∙ c.in-InVm.is))

pub returns-in-InVm-clause-event : goal.returns-in-InVm-clause-event
returns-in-InVm-clause-event g c = λ r.
    let lwk = c.args.self.now in
    let task = c.args.task.now in
    let channel = c.args.channel.now in
    let rows = g.T.PageTable.rows task.space.table in
    let h = here_of lwk rows task channel r in
    let t = c.changing_thread-t.result.0 in
    c.ends_change.ensures.after (record channel { round = c.close.new.self; to_lwk = c.next-ack.new.self }) r
    ∙ ap (λ (x : Here). change_made_of c.args.p.0 t (Some c.in-InVm.change) x) (over-is lwk rows task channel c.close.new.self c.next-ack.new.self r c.close.ensures c.next-ack.ensures.rest)
    ∙ ap (λ (d : Does). change_made_of c.args.p.0 t (change_in d) (with_side h (record h.side { lwk = record h.side.lwk { changing = None }; round = None; to_lwk = rest_of channel.to_lwk.items }))) (sym c.in-InVm.is)
    ∙ ack-is c.args.p.0 t (rest_of channel.to_lwk.items) h c.does.result (c.does.ensures r.files) c.changing_thread-t.ensures

pub returns-in_default-clause-event : goal.returns-in_default-clause-event
returns-in_default-clause-event g c = λ r.
    let lwk = c.args.self.now in
    let task = c.args.task.now in
    let channel = c.args.channel.now in
    let rows = g.T.PageTable.rows task.space.table in
    let h = here_of lwk rows task channel r in
    let t = c.changing_thread-t.result.0 in
    over-is lwk rows task channel c.close.new.self c.next-ack.new.self r c.close.ensures c.next-ack.ensures.rest
    ∙ ap (λ (o : Option Change). change_made_of c.args.p.0 t o (with_side h (record h.side { lwk = record h.side.lwk { changing = None }; round = None; to_lwk = rest_of channel.to_lwk.items }))) (sym (no-change c.does.result (λ x e. absurd (c.in_default.not-InVm x e))))
    ∙ ack-is c.args.p.0 t (rest_of channel.to_lwk.items) h c.does.result (c.does.ensures r.files) c.changing_thread-t.ensures
