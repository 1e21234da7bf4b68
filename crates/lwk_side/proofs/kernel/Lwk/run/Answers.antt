use Rattle.isa_model.specs.Instr.{Outcome}
use Rattle.kernel_model.specs.Nodes.{no_thread, thread_of}
use Rattle.kernel_tables.specs.Shown.{node_of}
use Rattle.kernel_tables.specs.Steps.{ran_over}
use Rattle.lwk_run.specs.Counts.{executed_count}
use Rattle.lwk_side.proofs.Calling.{there}
use Rattle.lwk_side.proofs.kernel.Lwk.run.Goals as goal
use Rattle.lwk_side.specs.Shown.{here_of, side_of}
use Rattle.lwk_space.specs.Frames.{frames_map}
use Rattle.lwk_space.specs.Lacks.{memory}
use Rattle.mck_word.specs.Maps.{at, put}
use Rattle.rv64i_user.specs.Runs.{instrs}
use Rattle.std.proofs.Common.{ap, refl, sym, ◌∙◌}
use Rattle.std.specs.Prelude.{None, ◌%◌}

pub returns-clause-event : goal.returns-clause-event
returns-clause-event g c = λ r.
    let rows = g.T.PageTable.rows c.args.task.now.space.table in
    let h = here_of c.args.self.now rows c.args.task.now c.args.channel.now r in
    let node = node_of c.args.self.now.node r.files in
    let before = c.args.self.now.frames in
    let after = c.run-count.new.frames in
    let regs = c.regs-regs.ensures r.files in
    let o : Outcome = record { regs = c.run-count.new.regs; memory = memory rows after; stop = c.run-count.new.stop } in
    let did = c.run-count.ensures.did ∙ ap (λ x. instrs c.args.most x (memory rows before)) regs in
    let count = c.from.ensures ∙ c.run-count.ensures.count ∙ ap (λ x. executed_count c.args.most x (memory rows before)) regs in
    let law = c.a_run_is_the_event.ensures.after c.args.most c.args.t.0 h (thread_of node c.args.t.0) before after o c.requires.some (there (at node.threads c.args.t.0) no_thread (c.requires.lives r.files)) refl c.run-count.ensures.stored did refl in
    ap (λ l. here_of l rows c.args.task.now c.args.channel.now r) c.ran_last.ensures
    ∙ (λ j. record {
      side = side_of rows c.args.task.now c.args.channel.now r.linux;
      node = (c.run_over.ensures.node r.files ∙ (λ i. ran_over c.args.t.0 c.run-count.new.regs (c.does_after.ensures i) (count i) node)) j;
      frames = frames_map after;
      free = c.args.self.now.pool.free;
      turns = r.turns;
      last = put c.args.self.now.last (c.args.t.0 % c.args.self.now.cores) c.args.t.0;
      cores = c.args.self.now.cores;
      workers = r.workers;
      rings = c.args.self.now.rings;
      born = None;
    })
    ∙ sym law

pub returns-clause-executed : goal.returns-clause-executed
returns-clause-executed g c = λ r.
    let rows = g.T.PageTable.rows c.args.task.now.space.table in
    let h = here_of c.args.self.now rows c.args.task.now c.args.channel.now r in
    let node = node_of c.args.self.now.node r.files in
    let before = c.args.self.now.frames in
    c.run-count.ensures.count
    ∙ ap (λ x. executed_count c.args.most x (memory rows before)) (c.regs-regs.ensures r.files)
    ∙ sym (c.a_run_is_the_event.ensures.count c.args.most c.args.t.0 h (thread_of node c.args.t.0) before (there (at node.threads c.args.t.0) no_thread (c.requires.lives r.files)) refl)
