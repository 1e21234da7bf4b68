use Rattle.hybrid_model.specs.Pairs.{Here}
use Rattle.isa_model.specs.Instr.{Outcome, outcome}
use Rattle.kernel_model.specs.Nodes.{no_thread, thread_of}
use Rattle.kernel_model.specs.Traps.{does_after}
use Rattle.kernel_tables.specs.Shown.{node_of}
use Rattle.kernel_tables.specs.Steps.{ran_over}
use Rattle.lwk_quanta.proofs.running.run_quanta.Goals as goal
use Rattle.lwk_run.specs.Counts.{executed_count}
use Rattle.lwk_quanta.proofs.Living.{there}
use Rattle.lwk_side.specs.Shown.{here_of, side_of}
use Rattle.lwk_space.specs.Frames.{frames_map}
use Rattle.lwk_space.specs.Lacks.{memory}
use Rattle.mck_word.specs.Maps.{at, put}
use Rattle.rv64i_user.specs.Runs.{instrs}
use Rattle.rv_quantum.specs.Differing.{FirstDiffers}
use Rattle.rv_quantum.specs.Told.{first_regs, last_regs, last_stop, pages_seen, total}
use Rattle.space_quanta.specs.Taking.{Took}
use Rattle.std.proofs.Common.{ap, refl, subst, sym, ◌∙◌}
use Rattle.std.specs.Prelude.{None, ◌%◌}

pub returns-clause-comes : goal.returns-clause-comes
returns-clause-comes g c = λ r.
    let rows = g.T.PageTable.rows c.args.task.now.space.table in
    let h : Here = here_of c.args.lwk.now rows c.args.task.now c.args.channel.now r in
    let node = node_of c.args.lwk.now.node r.files in
    let q = c.args.quanta.now in
    let n = total q in
    let before = c.args.lwk.now.frames in
    let after = c.take.new.frames in
    let took : Took q c.regs-regs.result rows before after = c.in_default.ensures in
    let regs = c.regs-regs.ensures r.files in
    let o : Outcome = outcome (last_regs q) (memory rows after) (last_stop q) in
    let did = took.did ∙ ap (λ x. instrs n x (memory rows before)) regs in
    let count = took.count ∙ ap (λ x. executed_count n x (memory rows before)) regs in
    let law = c.a_run_is_the_event.ensures.after n c.args.t.0 h (thread_of node c.args.t.0) before after o c.requires.some (there (at node.threads c.args.t.0) no_thread (c.requires.lives r.files)) refl took.stored did refl in
    let counted = c.from.ensures ∙ c.total.ensures.value ∙ count in
    record {
      regs = sym regs ∙ took.regs;
      pages = took.pages;
      event =
          ap (λ l. here_of l rows c.args.task.now c.args.channel.now r) c.ran_last.ensures
          ∙ (λ j. record {
            side = side_of rows c.args.task.now c.args.channel.now r.linux;
            node = (c.run_over.ensures.node r.files ∙ (λ i. ran_over c.args.t.0 (c.regs.ensures i) ((c.does_after.ensures ∙ ap does_after c.stop.ensures) i) (counted i) node)) j;
            frames = frames_map after;
            free = c.args.lwk.now.pool.free;
            turns = r.turns;
            last = put c.args.lwk.now.last (c.args.t.0 % c.args.lwk.now.cores) c.args.t.0;
            cores = c.args.lwk.now.cores;
            workers = r.workers;
            rings = c.args.lwk.now.rings;
            born = None;
          })
          ∙ sym law;
      executed =
          count
          ∙ sym (c.a_run_is_the_event.ensures.count n c.args.t.0 h (thread_of node c.args.t.0) before (there (at node.threads c.args.t.0) no_thread (c.requires.lives r.files)) refl);
    }

pub returns-in-Some-clause-comes : goal.returns-in-Some-clause-comes
returns-in-Some-clause-comes g c = λ r.
    let rows = g.T.PageTable.rows c.args.task.now.space.table in
    let h : Here = here_of c.args.lwk.now rows c.args.task.now c.args.channel.now r in
    let q = c.args.quanta.now in
    let d = c.in-Some.differs in
    let told = c.in-Some.ensures in
    let same = told.0 in (
      subst (λ x. FirstDiffers (first_regs q) (pages_seen q) x (memory rows c.args.lwk.now.frames) d) (c.regs-regs.ensures r.files) told.1,
      λ i. record h { frames = frames_map (same i) },
    )
