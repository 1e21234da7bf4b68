use Rattle.kernel_model.specs.declared.steps.Step.TheVariants.{Mark}
use Rattle.one_kernel.proofs.After.{after-is, may-here, may-in, process-is}
use Rattle.one_kernel.proofs.Calling.{both, own-called, row-called}
use Rattle.one_kernel.proofs.Stepping.{marks, own-with}
use Rattle.one_kernel.proofs.parts.One.mark.Goals as goal
use Rattle.one_kernel.specs.Parts.{here_in}
use Rattle.std.proofs.Common.{refl, ◌∙◌}
use Rattle.kernel_tables.specs.Shown.{node_of}
use Rattle.one_files.specs.Seen.{seen}
use Rattle.std.specs.Prelude.{true}

pub row_mut-own-requires : goal.row_mut-own-requires
row_mut-own-requires c =
    let x = c.args.self.now in
    let p = c.process_of_thread-p.result.0 in
    own-called x p c.args.t.0 ((both _ _ (both _ _ (may-here x p (Mark c.args.t) (process-is x c.args.t.0 p c.process_of_thread-p.ensures) c.requires)).0).0)

pub row_mut-call-requires : goal.row_mut-call-requires
row_mut-call-requires c =
    let x = c.args.self.now in
    let p = c.process_of_thread-p.result.0 in
    let w = c.row_mut-own.result.now in
    row-called x w c.args.t.0 ((both _ _ (both _ _ (may-in x p w (Mark c.args.t) c.row_mut-own.ensures.value (process-is x c.args.t.0 p c.process_of_thread-p.ensures) c.requires)).0).0)

pub returns : goal.returns
returns c =
    let x = c.args.self.now in
    let p = c.process_of_thread-p.result.0 in
    let w = c.row_mut-own.result.now in
    let process = process-is x c.args.t.0 p c.process_of_thread-p.ensures in
    let there = c.row_mut-own.ensures.value in
    let may = may-in x p w (Mark c.args.t) there process c.requires in
    let call = c.row_mut-call.result.now in
    let called = c.row_mut-call.ensures.value in
    let node = node_of c.moved_to_own.new.self (seen x.files) in
    after-is x _ p w _ (Mark c.args.t) there refl process
    ((λ i. record (here_in x w) { own = own-with w c.args.t.0 (record call { marked = true }) i; node = node })
    ∙ marks x p w c.args.t call called node (c.moved_to_own.ensures.node (seen x.files)))
