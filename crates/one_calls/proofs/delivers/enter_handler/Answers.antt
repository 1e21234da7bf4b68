use Rattle.isa_model.specs.Memory.{may_access, write_bytes}
use Rattle.kernel_model.specs.Nodes.{Node as KernelNode, change_process, dies}
use Rattle.kernel_model.specs.Signals.{after_reset, enter_handler, frame_bytes, frame_size, interrupted_regs, on_node}
use Rattle.mck_word.specs.declared.Access.TheVariants.{Write}
use Rattle.mck_word.specs.declared.End.TheVariants.{Killed}
use Rattle.one_calls.proofs.Delivering.{entered, enters_not, enters_there, kills_entering}
use Rattle.one_calls.proofs.Doing.{did_as}
use Rattle.one_calls.specs.Views.{seen}
use Rattle.std.proofs.Common.{ap, cond, false, sym, true, ◌≡◌, ◌∙◌}
use Rattle.one_calls.proofs.delivers.enter_handler.Goals as goal

pub returns-then-store_frame : goal.returns-then-store_frame
returns-then-store_frame c =
    let n = c.args.node.now in
    let m = c.args.memory.now.map in
    let t = c.args.t.0 in
    let signal = c.args.signal in
    let a = c.args.a.now in
    let p = c.process_of_thread-p.result.0 in
    let r = c.interrupted_regs-r.result in
    let sp = c.frame_address-sp.result in
    let mask = c.mask-mask.result.0 in
    let may : may_access m Write sp frame_size ≡ true = sym c.store_frame.ensures.may ∙ c.if-store_frame.true in
    did_as m n c.after_reset.new.self c.store_frame.new.memory.map (entered t signal a p r sp mask) (enter_handler t signal a)
    (λ files. enters_there t signal a p r sp mask (seen n m files) (c.process_of_thread-p.ensures files)
    (c.interrupted_regs-r.ensures ∙ (λ i. interrupted_regs (c.stands_back.ensures files i) a (c.regs.ensures files i))) c.frame_address-sp.ensures (c.mask-mask.ensures files) may)
    (record {
      node = λ files. c.after_reset.ensures.node files ∙ ap (after_reset p signal a) (c.enters_handler.ensures.node files);
      memory = λ files. c.store_frame.ensures.stored ∙ ap (λ b. cond b (write_bytes m sp (frame_bytes r mask)) m) c.if-store_frame.true;
    })

pub returns-else-store_frame : goal.returns-else-store_frame
returns-else-store_frame c =
    let n = c.args.node.now in
    let m = c.args.memory.now.map in
    let t = c.args.t.0 in
    let signal = c.args.signal in
    let a = c.args.a.now in
    let p = c.process_of_thread-p.result.0 in
    let r = c.interrupted_regs-r.result in
    let sp = c.frame_address-sp.result in
    let mask = c.mask-mask.result.0 in
    let may : may_access m Write sp frame_size ≡ false = sym c.store_frame.ensures.may ∙ c.if-store_frame.false in
    did_as m n c.dies.new.self c.store_frame.new.memory.map (on_node (kills_entering t signal a p r)) (enter_handler t signal a)
    (λ files. enters_not t signal a p r sp mask (seen n m files) (c.process_of_thread-p.ensures files)
    (c.interrupted_regs-r.ensures ∙ (λ i. interrupted_regs (c.stands_back.ensures files i) a (c.regs.ensures files i))) c.frame_address-sp.ensures (c.mask-mask.ensures files) may)
    (record {
      node = λ files. c.dies.ensures.node files ∙ ap (λ (x : KernelNode). change_process p (dies (Killed 11)) x) (c.stands_in_front.ensures.node files);
      memory = λ files. c.store_frame.ensures.stored ∙ ap (λ b. cond b (write_bytes m sp (frame_bytes r mask)) m) c.if-store_frame.false;
    })
