use Rattle.kernel_model.specs.declared.steps.Step.TheVariants.{VmFinish}
use Rattle.one_files.specs.Seen.{seen}
use Rattle.one_kernel.proofs.After.{after-is, process-is}
use Rattle.one_kernel.proofs.Calling.{both}
use Rattle.one_kernel.proofs.ChangeRooms.{end-is, own-there, rest_of, room-at-end, waits-for, waits-not}
use Rattle.one_kernel.proofs.Heaps.{heap-in, row-fits, told-change}
use Rattle.one_kernel.proofs.parts.One.vm_finish.Goals as goal
use Rattle.one_kernel.specs.Parts.{here_in, one_of}
use Rattle.kernel_model.specs.Nodes.{change_in}
use Rattle.std.proofs.Common.{ap, arith, refl, sym, ◌∙◌}

pub row_mut-own-requires : goal.row_mut-own-requires
row_mut-own-requires c =
    let x = c.args.self.now in
    let p = c.process_of_thread-p.result.0 in
    own-there x p c.args.t.0 c.requires.ready.shown (process-is x c.args.t.0 p c.process_of_thread-p.ensures) (both _ _ c.requires.ready.may).0

pub finish_change-requires-clause-heap : goal.finish_change-requires-clause-heap
finish_change-requires-clause-heap c = heap-in c.args.self.now c.process_of_thread-p.result.0 c.requires.ready.shown

pub finish_change-requires-clause-fits : goal.finish_change-requires-clause-fits
finish_change-requires-clause-fits c =
    let x = c.args.self.now in
    told-change (one_of x) c.requires.ready.shown c.args.t.0 c.in-InVm.change (ap change_in (waits-for x c.args.t.0 _ c.in-InVm.change c.does.ensures c.in-InVm.is))

pub finish_change-requires-clause-small : goal.finish_change-requires-clause-small
finish_change-requires-clause-small c =
    let x = c.args.self.now in
    let w = c.row_mut-own.result.now in
    let fit = row-fits x c.process_of_thread-p.result.0 w c.requires.ready.shown c.row_mut-own.ensures.value in
    omega (arith, fit)

pub finish_change-requires-clause-room : goal.finish_change-requires-clause-room
finish_change-requires-clause-room c =
    let x = c.args.self.now in
    let p = c.process_of_thread-p.result.0 in
    room-at-end x c.args.t.0 p c.row_mut-own.result.now (process-is x c.args.t.0 p c.process_of_thread-p.ensures) c.row_mut-own.ensures.value c.requires.room
    c.in-InVm.change (waits-for x c.args.t.0 _ c.in-InVm.change c.does.ensures c.in-InVm.is)

pub returns-in_default : goal.returns-in_default
returns-in_default c = absurd (waits-not c.args.self.now c.args.t.0 c.does.result c.does.ensures c.in_default.not-InVm (both _ _ c.requires.ready.may).1)

pub returns : goal.returns
returns c =
    let x = c.args.self.now in
    let p = c.process_of_thread-p.result.0 in
    let w = c.row_mut-own.result.now in
    after-is x _ p w _ (VmFinish c.args.t) c.row_mut-own.ensures.value refl (process-is x c.args.t.0 p c.process_of_thread-p.ensures)
    (c.finish_change.ensures (rest_of x w) ∙ end-is p c.args.t.0 (here_in x w) c.in-InVm.change (sym (c.does.ensures (seen x.files)) ∙ c.in-InVm.is))
