use Rattle.file_model.specs.Files.{share}
use Rattle.hybrid_model.specs.OneProcess.{view_here}
use Rattle.hybrid_model.specs.Trap.{trapped}
use Rattle.hybrid_model.specs.Spaces.{Space, shown_memory, written_back}
use Rattle.isa_model.specs.Memory.{Memory, may_access}
use Rattle.kernel_model.specs.CloneCalls.{child_stores}
use Rattle.kernel_model.specs.Nodes.{Node as KernelNode, has_process, thread_of}
use Rattle.kernel_model.specs.Signals.{View, stored_all, view}
use Rattle.kernel_model.specs.Traps.{Forks, past_ecall}
use Rattle.lwk_calls.specs.Forks.{begins_child}
use Rattle.kernel_tables.specs.Shown.{node_of}
use Rattle.lwk_side.proofs.Behind.{process-kept}
use Rattle.lwk_side.proofs.Born.{child-told, copied-apart, copied-shown, count-memory, fork-here}
use Rattle.lwk_side.proofs.Cloned.{may-clone}
use Rattle.lwk_side.proofs.kernel.Lwk.forks.Goals as goal
use Rattle.lwk_side.specs.Shown.{here_of}
use Rattle.lwk_space.proofs.WrittenBack.{written-back}
use Rattle.lwk_space.specs.Frames.{frames_map}
use Rattle.lwk_space.specs.Lacks.{memory}
use Rattle.lwk_space.specs.Rows.{FramesApart}
use Rattle.lwk_views.proofs.Reading.{frames_in, may_any}
use Rattle.mck_word.specs.Maps.{entries}
use Rattle.mck_word.specs.declared.Access.TheVariants.{Write}
use Rattle.std.proofs.Common.{ap, arith, subst, sym, ◌∙◌, ◌≡◌}
use Rattle.std.specs.FinMap as finmap
use Rattle.std.specs.Prelude.{length, slice_index, ◌≤◌}

pub begins_child-q-requires : goal.begins_child-q-requires
begins_child-q-requires g c =
    let before = c.args.self.now.node in
    let after = c.past_ecall.new.self in
    let t = c.args.t.0 in
    let may = may-clone before after t c.past_ecall.ensures.room c.past_ecall.ensures.node c.requires.may.clone in
    record {
      inside = c.requires.sound.inside;
      apart = c.requires.sound.apart;
      process_room = (let a = c.requires.may.room in let b = c.past_ecall.ensures.room.processes in omega (arith, a, b));
      thread_room = may.room;
      lives = may.lives;
      there = λ files.
          ap (λ (k : KernelNode). has_process k (thread_of k t).process) (c.past_ecall.ensures.node files)
          ∙ ap (has_process (node_of before files)) (process-kept (node_of before files) t ∙ c.requires.may.own files) ∙ c.requires.may.there files;
      below = may.below;
    }

pub copy_space-requires : goal.copy_space-requires
copy_space-requires g c =
    let rows = g.T.PageTable.rows c.args.task.now.space.table in
    record {
      empty = c.requires.empty;
      room = c.requires.copy;
      inside = frames_in rows c.args.self.now.frames c.begins_child-q.new.mem c.requires.sound.inside c.begins_child-q.ensures.count;
      taken = c.requires.sound.taken;
      enough = c.requires.enough;
      frames = c.requires.sound.frames ∙ sym c.begins_child-q.ensures.count;
    }

pub tells_child-requires : goal.tells_child-requires
tells_child-requires g c =
    let rows = g.T.PageTable.rows c.args.task.now.space.table in
    let pages = c.begins_child-q.new.mem in
    let few : length (entries (memory rows pages)) ≤ length c.args.self.now.pool.free = (let a = c.requires.enough in let b = count-memory rows pages in let d = finmap.len-entries (memory rows pages) in omega (arith, a, b, d)) in
    record {
      inside = c.copy_space.ensures.inside;
      apart = subst (λ (s : Space). FramesApart s.table) (sym c.copy_space.ensures.after) (copied-apart (frames_map pages) c.args.self.now.pool.free c.requires.may.rising (memory rows pages) few);
    }

pub returns-clause-after : goal.returns-clause-after
returns-clause-after g c = λ channel r.
    let rows = g.T.PageTable.rows c.args.task.now.space.table in
    let lwk = c.args.self.now in
    let t = c.args.t.0 in
    let p = c.args.p.0 in
    let xs = c.args.args.now in
    let q = c.begins_child-q.result.0 in
    let node = c.past_ecall.new.self in
    let before = lwk.frames in
    let pages = c.begins_child-q.new.mem in
    let middle = c.copy_space.new.mem in
    let left = c.tells_child.new.mem in
    let table = g.T.PageTable.rows c.copy_space.new.self.table in
    let mem = memory rows before in
    let h = here_of lwk rows c.args.task.now channel r in
    let word : View → View = λ v. begins_child t (slice_index xs 0) (slice_index xs 1) (slice_index xs 2) (slice_index xs 3) (slice_index xs 4) v in
    let step = c.past_ecall.ensures.node r.files in
    let process = ap (λ (k : KernelNode). (thread_of k t).process) step ∙ process-kept (node_of lwk.node r.files) t ∙ c.requires.may.own r.files in
    let few : length (entries (memory rows pages)) ≤ length lwk.pool.free = (let a = c.requires.enough in let b = count-memory rows pages in let d = finmap.len-entries (memory rows pages) in omega (arith, a, b, d)) in
    let shown : memory table middle ≡ memory rows pages = ap (λ (s : Space). shown_memory s.table s.frames) c.copy_space.ensures.after ∙ copied-shown (frames_map pages) lwk.pool.free c.requires.may.rising (memory rows pages) few in
    let same = ap (λ (m : Memory). may_access m Write (slice_index xs 4) 4) shown ∙ may_any rows pages before Write (slice_index xs 4) 4 in
    fork-here lwk rows c.args.task.now channel r p t (word (past_ecall t (view_here h))) q (child_stores q (slice_index xs 0) (slice_index xs 4) mem) c.begins_child-q.new.node (share p q r.files) table pages middle left c.copy_space.new.pool
    (ap (λ z. node_of c.begins_child-q.new.node (share z q r.files)) (sym process) ∙ c.begins_child-q.ensures.node r.files ∙ ap (λ (k : KernelNode). (word (view k mem)).node) step)
    (c.begins_child-q.ensures.frames r.files ∙ ap (λ (k : KernelNode). written_back rows (stored_all (word (view k mem)).stores mem) (frames_map before)) step)
    c.copy_space.ensures.after
    (written-back table middle left c.copy_space.ensures.inside c.tells_child.ensures.others c.tells_child.ensures.count
    ∙ ap (λ m. written_back table m (frames_map middle)) (child-told q (slice_index xs 0) (slice_index xs 4) mem (memory table middle) (memory table left) same c.tells_child.ensures.memory))
    ∙ ap (λ z. trapped p t (Forks (word (past_ecall t (view_here h))) z (child_stores z (slice_index xs 0) (slice_index xs 4) mem)) h) (c.begins_child-q.ensures.number r.files ∙ ap (λ (k : KernelNode). k.next_number) step)
