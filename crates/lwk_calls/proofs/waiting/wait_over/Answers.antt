use Rattle.file_model.specs.Errno.{ECHILD}
use Rattle.kernel_model.specs.CloneCalls.{ended_child, wait_over}
use Rattle.kernel_model.specs.LocalCalls.{refuses}
use Rattle.lwk_calls.proofs.Told.{none_ended}
use Rattle.kernel_tables.specs.Shown.{node_of}
use Rattle.lwk_views.proofs.Doing.{did_as}
use Rattle.lwk_views.specs.Views.{seen}
use Rattle.std.proofs.Common.{ap, of_z, rules, sym, to_z, w32, ◌≡◌, ◌∙◌}
use Rattle.std.specs.Prelude.{option_map}
use Rattle.mck_word.specs.declared.Pid.{Pid}
use Rattle.lwk_calls.proofs.waiting.wait_over.Goals as goal

pub returns-in-None-clause-did : goal.returns-in-None-clause-did
returns-in-None-clause-did g c =
    let rows = g.T.PageTable.rows c.args.space.now.table in
    let n = c.args.node.now in
    let pages = c.args.mem.now in
    let t = c.args.t.0 in
    let given : to_z w32 (of_z w32 c.args.pid) ≡ c.args.pid = search rules in
    did_as rows pages n c.answers.new.node pages (refuses t ECHILD) (wait_over t c.args.pid c.args.status)
    (λ files. none_ended t c.process_of_thread-p.result.0 c.args.pid c.args.status (seen rows n pages files) (c.process_of_thread-p.ensures files)
    (ap (ended_child (node_of n files) c.process_of_thread-p.result.0) (sym given) ∙ sym (c.ended_child.ensures files) ∙ ap (option_map (λ (q : Pid). q.0)) c.in-None.is))
    (c.answers.ensures.did rows pages c.requires.frames)
