use Rattle.file_model.specs.Files.{root_only, share}
use Rattle.isa_model.specs.Memory.{Memory, may_access}
use Rattle.kernel_model.specs.CloneCalls.{child_stores}
use Rattle.kernel_model.specs.Nodes.{Node as KernelNode, thread_of}
use Rattle.kernel_model.specs.Signals.{View, stored_all, view}
use Rattle.kernel_model.specs.Steps.{one_trapped, one_view}
use Rattle.kernel_model.specs.Traps.{Forks, past_ecall}
use Rattle.kernel_tables.specs.Shown.{node_of}
use Rattle.mck_word.specs.Maps.{count}
use Rattle.mck_word.specs.declared.Access.TheVariants.{Write}
use Rattle.one_calls.proofs.Behind.{may-fork, process-kept}
use Rattle.one_calls.proofs.ForkTraps.{child-told, fork-here, stored-count}
use Rattle.one_calls.proofs.Stores.{may-stored}
use Rattle.one_calls.proofs.forks.forks.Goals as goal
use Rattle.one_calls.specs.Here.{here}
use Rattle.one_calls.specs.Views.{seen}
use Rattle.one_calls.specs.Words.{begins_child}
use Rattle.std.proofs.Common.{ap, subst, sym, ◌∙◌}
use Rattle.std.specs.Prelude.{slice_index, ◌≤◌}

pub begins_child-child-requires : goal.begins_child-child-requires
begins_child-child-requires c = may-fork c.args.t.0 c.args.node.now c.past_ecall.new.self c.past_ecall.ensures.room c.past_ecall.ensures.node c.requires.may

pub copy_from-requires-clause-room : goal.copy_from-requires-clause-room
copy_from-requires-clause-room c =
    let xs = c.args.args.now in
    let m = c.args.memory.now.map in
    let ss = (begins_child c.args.t.0 (slice_index xs 0) (slice_index xs 1) (slice_index xs 2) (slice_index xs 3) (slice_index xs 4) (seen c.past_ecall.new.self m root_only)).stores in
    subst (λ k. k ≤ c.args.unborn.now.spare) (sym (ap (λ (x : Memory). count x) (c.begins_child-child.ensures.stored root_only) ∙ stored-count ss m)) c.requires.pages

pub returns : goal.returns
returns c = λ r.
    let t = c.args.t.0 in
    let p = c.args.p.0 in
    let xs = c.args.args.now in
    let m = c.args.memory.now.map in
    let n = c.args.node.now in
    let q = c.begins_child-child.result in
    let left = c.begins_child-child.new.memory.map in
    let h = here n m r in
    let word : View → View = λ v. begins_child t (slice_index xs 0) (slice_index xs 1) (slice_index xs 2) (slice_index xs 3) (slice_index xs 4) v in
    let v = word (past_ecall t (one_view h)) in
    let step = c.past_ecall.ensures.node r.files in
    let process = ap (λ (k : KernelNode). (thread_of k t).process) step ∙ process-kept t (node_of n r.files) ∙ c.requires.own r.files in
    let stored = c.begins_child-child.ensures.stored r.files ∙ ap (λ (k : KernelNode). stored_all (word (view k m)).stores m) step in
    let same = ap (λ (x : Memory). may_access x Write (slice_index xs 4) 4) (c.copy_from.ensures ∙ stored) ∙ may-stored v.stores m Write (slice_index xs 4) 4 in
    fork-here n c.begins_child-child.new.node m left c.tells_child.new.memory.map r p t q v (child_stores q.0 (slice_index xs 0) (slice_index xs 4) m)
    (ap (λ z. node_of c.begins_child-child.new.node (share z q.0 r.files)) (sym process) ∙ c.begins_child-child.ensures.node r.files ∙ ap (λ (k : KernelNode). (word (view k m)).node) step)
    stored
    (child-told q.0 (slice_index xs 0) (slice_index xs 4) m c.copy_from.new.self.map c.tells_child.new.memory.map same c.tells_child.ensures ∙ ap (stored_all (child_stores q.0 (slice_index xs 0) (slice_index xs 4) m)) c.copy_from.ensures)
    ∙ ap (λ z. one_trapped p t (Forks v z (child_stores z (slice_index xs 0) (slice_index xs 4) m)) h) (c.begins_child-child.ensures.number r.files ∙ ap (λ (k : KernelNode). k.next_number) step)
