use Rattle.kernel_model.specs.Signals.{deliver}
use Rattle.kernel_model.specs.declared.steps.Step.TheVariants.{Deliver}
use Rattle.one_calls.proofs.Trapping.{did-here}
use Rattle.one_kernel.proofs.After.{after-is, process-is}
use Rattle.one_kernel.proofs.Calling.{both}
use Rattle.one_kernel.proofs.Viewing.{own-thread, rest_of}
use Rattle.one_kernel.proofs.parts.One.deliver.Goals as goal
use Rattle.std.proofs.Common.{refl}

pub row_mut-own-requires : goal.row_mut-own-requires
row_mut-own-requires c =
    let x = c.args.self.now in
    let p = c.process_of_thread-p.result.0 in
    own-thread x p c.args.t.0 c.requires.shown (process-is x c.args.t.0 p c.process_of_thread-p.ensures) (both _ _ (both _ _ (both _ _ c.requires.may).0).0).0

pub returns : goal.returns
returns c =
    let x = c.args.self.now in
    let p = c.process_of_thread-p.result.0 in
    let w = c.row_mut-own.result.now in
    after-is x _ p w _ (Deliver c.args.t) c.row_mut-own.ensures.value refl (process-is x c.args.t.0 p c.process_of_thread-p.ensures)
    (did-here x.node w.memory.map c.deliver.new.node c.deliver.new.memory.map (deliver c.args.t.0) c.deliver.ensures (rest_of x w))
