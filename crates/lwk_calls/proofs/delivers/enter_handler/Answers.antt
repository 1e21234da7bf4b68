use Rattle.isa_model.specs.Memory.{may_access, write_bytes}
use Rattle.kernel_model.specs.Nodes.{Node as KernelNode, change_process, dies}
use Rattle.kernel_model.specs.Signals.{after_reset, enter_handler, frame_bytes, frame_size, interrupted_regs, on_node}
use Rattle.lwk_calls.proofs.Delivering.{entered, enters, enters_not, enters_there, kills_entering}
use Rattle.kernel_tables.specs.Shown.{node_of}
use Rattle.lwk_space.specs.Lacks.{memory}
use Rattle.lwk_views.proofs.Doing.{begins, did, did_as, steps, stores, unstored}
use Rattle.lwk_views.specs.Views.{seen}
use Rattle.mck_word.specs.declared.Access.TheVariants.{Write}
use Rattle.mck_word.specs.declared.End.TheVariants.{Killed}
use Rattle.std.proofs.Common.{ap, cond, false, sym, true, ◌≡◌, ◌∙◌}
use Rattle.lwk_calls.proofs.delivers.enter_handler.Goals as goal

pub returns-then-store_frame-clause-did : goal.returns-then-store_frame-clause-did
returns-then-store_frame-clause-did g c =
    let rows = g.T.PageTable.rows c.args.space.now.table in
    let n = c.args.node.now in
    let pages = c.args.mem.now in
    let left = c.store_frame.new.mem in
    let after = c.after_reset.new.self in
    let t = c.args.t.0 in
    let signal = c.args.signal in
    let a = c.args.a.now in
    let p = c.process_of_thread-p.result.0 in
    let r = c.interrupted_regs-r.result in
    let sp = c.frame_address-sp.result in
    let mask = c.mask-mask.result.0 in
    let bytes = frame_bytes r mask in
    let may : may_access (memory rows pages) Write sp frame_size ≡ true = sym c.store_frame.ensures.may ∙ c.if-store_frame.true in
    did_as rows pages n after left (entered t signal a p r sp mask) (enter_handler t signal a)
    (λ files. enters_there t signal a p r sp mask (seen rows n pages files) (c.process_of_thread-p.ensures files)
    (c.interrupted_regs-r.ensures ∙ (λ i. interrupted_regs (c.stands_back.ensures files i) a (c.regs.ensures files i))) c.frame_address-sp.ensures (c.mask-mask.ensures files) may)
    (did rows pages n after left (entered t signal a p r sp mask) c.requires.frames c.store_frame.ensures.others c.store_frame.ensures.count
    (λ files. let k = node_of n files in let v = seen rows n pages files in
    stores rows pages sp bytes (node_of after files) pages left (on_node (enters t signal a p r sp) v)
    (c.store_frame.ensures.memory ∙ ap (λ b. cond b (write_bytes (memory rows pages) sp bytes) (memory rows pages)) may)
    (steps rows pages (enters t signal a p r sp) k (node_of after files) pages v (c.after_reset.ensures.node files ∙ ap (after_reset p signal a) (c.enters_handler.ensures.node files)) (begins rows pages k))))

pub returns-else-store_frame-clause-did : goal.returns-else-store_frame-clause-did
returns-else-store_frame-clause-did g c =
    let rows = g.T.PageTable.rows c.args.space.now.table in
    let n = c.args.node.now in
    let pages = c.args.mem.now in
    let left = c.store_frame.new.mem in
    let after = c.dies.new.self in
    let t = c.args.t.0 in
    let signal = c.args.signal in
    let a = c.args.a.now in
    let p = c.process_of_thread-p.result.0 in
    let r = c.interrupted_regs-r.result in
    let sp = c.frame_address-sp.result in
    let mask = c.mask-mask.result.0 in
    let bytes = frame_bytes r mask in
    let may : may_access (memory rows pages) Write sp frame_size ≡ false = sym c.store_frame.ensures.may ∙ c.if-store_frame.false in
    let same : memory rows left ≡ memory rows pages = c.store_frame.ensures.memory ∙ ap (λ b. cond b (write_bytes (memory rows pages) sp bytes) (memory rows pages)) may in
    did_as rows pages n after left (on_node (kills_entering t signal a p r)) (enter_handler t signal a)
    (λ files. enters_not t signal a p r sp mask (seen rows n pages files) (c.process_of_thread-p.ensures files)
    (c.interrupted_regs-r.ensures ∙ (λ i. interrupted_regs (c.stands_back.ensures files i) a (c.regs.ensures files i))) c.frame_address-sp.ensures (c.mask-mask.ensures files) may)
    (did rows pages n after left (on_node (kills_entering t signal a p r)) c.requires.frames c.store_frame.ensures.others c.store_frame.ensures.count
    (λ files. let k = node_of n files in let v = seen rows n pages files in
    unstored rows pages (node_of after files) left (on_node (kills_entering t signal a p r) v) same
    (steps rows pages (kills_entering t signal a p r) k (node_of after files) pages v
    (c.dies.ensures.node files ∙ ap (λ (x : KernelNode). change_process p (dies (Killed 11)) x) (c.stands_in_front.ensures.node files)) (begins rows pages k))))
