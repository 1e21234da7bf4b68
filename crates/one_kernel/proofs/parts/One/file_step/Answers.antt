use Rattle.kernel_model.specs.declared.steps.Step.TheVariants.{FileStep}
use Rattle.one_kernel.proofs.After.{after-is, may-here, may-in, process-is}
use Rattle.one_kernel.proofs.Calling.{active-is, both, file-step-is, own-called, row-called}
use Rattle.one_kernel.proofs.Stepping.{own-with, steps-to}
use Rattle.one_kernel.proofs.parts.One.file_step.Goals as goal
use Rattle.one_kernel.specs.Parts.{here_in, one_of}
use Rattle.mck_word.specs.Maps.{at}
use Rattle.std.proofs.Common.{ap, refl, ◌∙◌}
use Rattle.kernel_tables.specs.Shown.{node_of}
use Rattle.one_files.specs.Seen.{seen}
use Rattle.one_kernel.proofs.Facts.{few-held}

pub row_mut-own-requires : goal.row_mut-own-requires
row_mut-own-requires c =
    let x = c.args.self.now in
    let p = c.process_of_thread-p.result.0 in
    own-called x p c.args.t.0 ((both _ _ (may-here x p (FileStep c.args.t) (process-is x c.args.t.0 p c.process_of_thread-p.ensures) c.requires.ready)).0)

pub row_mut-call-requires : goal.row_mut-call-requires
row_mut-call-requires c =
    let x = c.args.self.now in
    let p = c.process_of_thread-p.result.0 in
    let w = c.row_mut-own.result.now in
    row-called x w c.args.t.0 ((both _ _ (may-in x p w (FileStep c.args.t) c.row_mut-own.ensures.value (process-is x c.args.t.0 p c.process_of_thread-p.ensures) c.requires.ready)).0)

pub take_file_step-ended-requires-clause-kind : goal.take_file_step-ended-requires-clause-kind
unfolding node_of
take_file_step-ended-requires-clause-kind c =
    let x = c.args.self.now in
    let p = c.process_of_thread-p.result.0 in
    let w = c.row_mut-own.result.now in
    let process = process-is x c.args.t.0 p c.process_of_thread-p.ensures in
    let there = c.row_mut-own.ensures.value in
    let may = may-in x p w (FileStep c.args.t) there process c.requires.ready in
    let call = c.row_mut-call.result.now in
    let called = c.row_mut-call.ensures.value in
    file-step-is _ (active-is x w c.args.t.0 call called _ (both _ _ may).1).1

pub take_file_step-ended-requires-clause-room : goal.take_file_step-ended-requires-clause-room
take_file_step-ended-requires-clause-room c =
    let x = c.args.self.now in
    let p = c.process_of_thread-p.result.0 in
    c.requires.room c.row_mut-own.result.now c.row_mut-call.result.now (ap (at x.own.map) (process-is x c.args.t.0 p c.process_of_thread-p.ensures) ∙ c.row_mut-own.ensures.value) c.row_mut-call.ensures.value

pub take_file_step-ended-requires-clause-few : goal.take_file_step-ended-requires-clause-few
unfolding one_of node_of
take_file_step-ended-requires-clause-few c = few-held (one_of c.args.self.now) c.requires.ready.shown

pub returns : goal.returns
unfolding node_of
returns c =
    let x = c.args.self.now in
    let p = c.process_of_thread-p.result.0 in
    let w = c.row_mut-own.result.now in
    let process = process-is x c.args.t.0 p c.process_of_thread-p.ensures in
    let there = c.row_mut-own.ensures.value in
    let may = may-in x p w (FileStep c.args.t) there process c.requires.ready in
    let call = c.row_mut-call.result.now in
    let called = c.row_mut-call.ensures.value in
    let active = active-is x w c.args.t.0 call called _ (both _ _ may).1 in
    let step = c.take_file_step-ended in
    after-is x _ p w _ (FileStep c.args.t) there refl process
    ((λ i. record (here_in x w) { own = own-with w c.args.t.0 (record call { standing = c.stood-call.result; progress = step.new.self }) i; node = node_of x.node (seen step.new.files) })
    ∙ steps-to x p w c.args.t call called step.new.self.progress c.stood-call.result step.result (seen step.new.files) active.0 c.stood-call.ensures step.ensures)
