use Rattle.kernel_model.specs.declared.steps.Step.TheVariants.{Return}
use Rattle.one_kernel.proofs.After.{after-is, may-here, may-in, process-is}
use Rattle.one_kernel.proofs.Calling.{both, over-is, own-called, row-called}
use Rattle.one_kernel.proofs.Stepping.{own-left, returns-to}
use Rattle.one_kernel.proofs.parts.One.return_from.Goals as goal
use Rattle.one_kernel.specs.Parts.{here_in}
use Rattle.std.proofs.Common.{ap, refl, ◌∙◌}
use Rattle.key_rows.specs.Table.{Table}
use Rattle.kernel_tables.specs.Shown.{node_of}
use Rattle.one_files.specs.Seen.{seen}
use Rattle.one_kernel.specs.declared.calls.Call.{Call}
use Rattle.std.proofs.Common.{of_z, rules, to_z, w64, ◌≡◌}

pub row_mut-own-requires : goal.row_mut-own-requires
row_mut-own-requires c =
    let x = c.args.self.now in
    let p = c.process_of_thread-p.result.0 in
    own-called x p c.args.t.0 ((both _ _ (may-here x p (Return c.args.t) (process-is x c.args.t.0 p c.process_of_thread-p.ensures) c.requires)).0)

pub remove-call-requires : goal.remove-call-requires
remove-call-requires c =
    let x = c.args.self.now in
    let p = c.process_of_thread-p.result.0 in
    let w = c.row_mut-own.result.now in
    row-called x w c.args.t.0 ((both _ _ (may-in x p w (Return c.args.t) c.row_mut-own.ensures.value (process-is x c.args.t.0 p c.process_of_thread-p.ensures) c.requires)).0)

pub returns-in-Over : goal.returns-in-Over
returns-in-Over c =
    let x = c.args.self.now in
    let p = c.process_of_thread-p.result.0 in
    let w = c.row_mut-own.result.now in
    let process = process-is x c.args.t.0 p c.process_of_thread-p.ensures in
    let there = c.row_mut-own.ensures.value in
    let may = may-in x p w (Return c.args.t) there process c.requires in
    let call = c.remove-call.result in
    let node = node_of c.returns.new.self (seen x.files) in
    let same : to_z w64 (of_z w64 c.in-Over.answer) ≡ c.in-Over.answer = search rules in
    after-is x _ p w _ (Return c.args.t) there refl process
    ((λ i. record (here_in x w) { own = own-left w (record w { calls = c.remove-call.new.self }) c.args.t.0 refl (ap (λ (t : Table Call). t.map) c.remove-call.ensures.rest) i; node = node })
    ∙ returns-to x p w c.args.t call c.remove-call.ensures.value c.in-Over.answer _ node c.in-Over.is same (c.returns.ensures.node (seen x.files)))

pub returns : goal.returns
returns c = absurd (
    let x = c.args.self.now in
    let p = c.process_of_thread-p.result.0 in
    let w = c.row_mut-own.result.now in
    let process = process-is x c.args.t.0 p c.process_of_thread-p.ensures in
    let there = c.row_mut-own.ensures.value in
    let may = may-in x p w (Return c.args.t) there process c.requires in
    let over = over-is x w c.args.t.0 c.remove-call.result c.remove-call.ensures.value (both _ _ may).1 in
    c.in_default.not-Over over.0 over.1)
