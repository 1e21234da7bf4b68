use Rattle.kernel_model.specs.declared.steps.Step.TheVariants.{PieceFault}
use Rattle.one_kernel.proofs.After.{after-is, may-here, may-in, process-is}
use Rattle.one_kernel.proofs.Calling.{active-is, both, own-called, row-called}
use Rattle.one_kernel.proofs.Stepping.{ends-with, own-with}
use Rattle.one_kernel.proofs.parts.One.piece_fault.Goals as goal
use Rattle.one_kernel.specs.Parts.{here_in}
use Rattle.std.proofs.Common.{ap, refl, ◌∙◌}
use Rattle.kernel_model.specs.Progress.{fault_answer}
use Rattle.kernel_tables.specs.Shown.{node_of}
use Rattle.one_files.specs.Seen.{seen}
use Rattle.one_kernel.specs.declared.calls.Standing.TheVariants.{Over}
use Rattle.std.proofs.Common.{of_z, rules, to_z, w64, ◌≡◌}

pub row_mut-own-requires : goal.row_mut-own-requires
row_mut-own-requires c =
    let x = c.args.self.now in
    let p = c.process_of_thread-p.result.0 in
    own-called x p c.args.t.0 ((both _ _ (may-here x p (PieceFault c.args.t) (process-is x c.args.t.0 p c.process_of_thread-p.ensures) c.requires)).0)

pub row_mut-call-requires : goal.row_mut-call-requires
row_mut-call-requires c =
    let x = c.args.self.now in
    let p = c.process_of_thread-p.result.0 in
    let w = c.row_mut-own.result.now in
    row-called x w c.args.t.0 ((both _ _ (may-in x p w (PieceFault c.args.t) c.row_mut-own.ensures.value (process-is x c.args.t.0 p c.process_of_thread-p.ensures) c.requires)).0)

pub returns : goal.returns
unfolding node_of
returns c =
    let same : to_z w64 (of_z w64 c.fault_answer.result) ≡ c.fault_answer.result = search rules in
    let x = c.args.self.now in
    let p = c.process_of_thread-p.result.0 in
    let w = c.row_mut-own.result.now in
    let process = process-is x c.args.t.0 p c.process_of_thread-p.ensures in
    let there = c.row_mut-own.ensures.value in
    let may = may-in x p w (PieceFault c.args.t) there process c.requires in
    let call = c.row_mut-call.result.now in
    let called = c.row_mut-call.ensures.value in
    let active = active-is x w c.args.t.0 call called _ (both _ _ may).1 in
    after-is x _ p w _ (PieceFault c.args.t) there refl process
    ((λ i. record (here_in x w) { own = own-with w c.args.t.0 (record call { standing = c.stood-call.result }) i; node = node_of x.node (seen c.give_back.new.files) })
    ∙ ends-with x p w c.args.t call called fault_answer c.stood-call.result c.fault_answer.result (seen c.give_back.new.files) active.0 (c.stood-call.ensures ∙ ap Over same) c.fault_answer.ensures c.give_back.ensures)
