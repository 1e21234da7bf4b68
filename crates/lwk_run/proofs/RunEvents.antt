-- The event Run of a thread, from what stood in the frames to what stands there after it.
use Rattle.hybrid_model.specs.OneProcess.{memory_here, ran_last}
use Rattle.hybrid_model.specs.Run.{executed_in_run, length_of_run, ran, run, run_for}
use Rattle.hybrid_model.specs.Pairs.{Here}
use Rattle.hybrid_model.specs.Spaces.{shown_memory, written_back}
use Rattle.isa_model.specs.Instr.{Outcome}
use Rattle.isa_model.specs.Memory.{Memory}
use Rattle.kernel_model.specs.Nodes.{Thread}
use Rattle.kernel_model.specs.Traps.{Ran}
use Rattle.lwk_run.proofs.ThreadRuns.{run-after, run-length}
use Rattle.lwk_run.specs.Counts.{executed_count, node_after}
use Rattle.lwk_run.specs.Lent.{StoredTo}
use Rattle.lwk_space.specs.Frames.{frames_map}
use Rattle.lwk_space.specs.Lacks.{memory}
use Rattle.mck_word.specs.Maps.{at}
use Rattle.rv64i_user.specs.Runs.{instrs}
use Rattle.std.proofs.Common.{ap, sym, ◌∙◌}
use Rattle.std.specs.Prelude.{List, Some, ℕ, ◌≡◌, ◌≤◌}

pub event-after : (n t : ℕ) (h : Here) (x : Thread) (before after : List (List ℕ)) (o : Outcome) → 1 ≤ n → at h.node.threads t ≡ Some x → h.frames ≡ frames_map before
    → StoredTo h.side.lwk.table before after → o ≡ instrs n x.regs (memory h.side.lwk.table before) → o.memory ≡ memory h.side.lwk.table after
    → run t n h ≡ ran_last t (record h { node = node_after t o (executed_count n x.regs (memory h.side.lwk.table before)) h.node; frames = frames_map after })
unfolding run
event-after n t h x before after o some there frames stored did seen =
    let table = h.side.lwk.table in
    let m = memory table before in
    let start : memory_here h ≡ m = ap (shown_memory table) frames in
    let begins : ran t n h ≡ run_for n t (record { node = h.node; memory = m }) = ap (λ (w : Memory). run_for n t (record { node = h.node; memory = w })) start in
    let ends : ran t n h ≡ record { node = node_after t o (executed_count n x.regs m) h.node; memory = o.memory } =
    begins ∙ run-after n t h.node x m some there ∙ ap (λ (e : Outcome). let v : Ran = record { node = node_after t e (executed_count n x.regs m) h.node; memory = e.memory } in v) (sym did) in
    let back : written_back table (ran t n h).memory h.frames ≡ frames_map after =
    ap (λ (v : Ran). written_back table v.memory h.frames) ends ∙ ap (λ w. written_back table w h.frames) seen ∙ ap (written_back table (memory table after)) frames ∙ sym stored in
    λ i. ran_last t (record h { node = (ends i).node; frames = back i })

pub event-length : (n t : ℕ) (h : Here) (x : Thread) (before : List (List ℕ)) → at h.node.threads t ≡ Some x → h.frames ≡ frames_map before
    → executed_in_run t n h ≡ executed_count n x.regs (memory h.side.lwk.table before)
event-length n t h x before there frames =
    ap (λ w. length_of_run n t (record { node = h.node; memory = shown_memory h.side.lwk.table w })) frames ∙ run-length n t h.node x (memory h.side.lwk.table before) there
