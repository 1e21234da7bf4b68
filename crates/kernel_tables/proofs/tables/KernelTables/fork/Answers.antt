use Rattle.file_model.specs.Files.{root_only}
use Rattle.kernel_model.specs.Nodes.{Thread as KernelThread, has_process}
use Rattle.kernel_model.specs.declared.Does.TheVariants.{Ready}
use Rattle.kernel_tables.proofs.Forked.{forked, there_shown}
use Rattle.kernel_tables.proofs.Made.{lives_shown, thread_is}
use Rattle.kernel_tables.proofs.Rows.{next_is}
use Rattle.kernel_tables.specs.Passes.{begun}
use Rattle.kernel_tables.specs.Shown.{node_of}
use Rattle.std.proofs.Common.{ap, arith, false, refl, subst, sym, ◌-◌, ◌<◌, ◌^◌, ◌∙◌}
use Rattle.std.proofs.lemmas.Bool.{true≢false}
use Rattle.std.specs.Option.{option_copied}
use Rattle.std.specs.Prelude.{is_some}
use Rattle.kernel_tables.proofs.tables.KernelTables.fork.Goals as goal

pub unreachable-requires : goal.unreachable-requires
unreachable-requires c =
    let none = sym c.thread.ensures ∙ ap (λ o. option_copied o) c.in_default.is in
    true≢false (sym (c.requires.lives root_only) ∙ lives_shown c.args.self.now root_only c.args.t.0 ∙ ap (λ o. is_some o) none)

pub child_of-process-requires : goal.child_of-process-requires
child_of-process-requires c =
    let is = thread_is c.args.self.now root_only c.args.t.0 c.in-Some.x.now (sym c.in-Some.ensures) in
    sym (there_shown c.args.self.now root_only c.in-Some.x.now.pid.0) ∙ ap (λ (y : KernelThread). has_process (node_of c.args.self.now root_only) y.process) (sym is) ∙ c.requires.there root_only

pub begin-requires-clause-below : goal.begin-requires-clause-below
begin-requires-clause-below c =
    let low = subst (λ k. k < 2 ^ 32 - 1) (next_is c.args.self.now root_only) (c.requires.below root_only) in
    omega (arith, low, c.fresh-number.ensures.next)

pub returns-clause-number : goal.returns-clause-number
returns-clause-number c = λ files. c.fresh-number.ensures.next ∙ sym (next_is c.args.self.now files)

pub returns-clause-node : goal.returns-clause-node
returns-clause-node c = λ files.
    let y = begun (record { 0 = c.fresh-number.result.0 }) c.fresh-number.result c.child_registers-regs.result c.in-Some.x.now.mask c.clear_of_clone.result in
    forked c.args.self.now files c.args.t.0 c.fresh-number.result.0 c.in-Some.x.now y c.child_of-process.result c.args.args.now c.put.new.self c.begin.new.threads
    (sym c.in-Some.ensures) c.fresh-number.ensures.next c.put.ensures.map (c.child_of-process.ensures.is files) c.begin.ensures.threads refl
    (λ i. record { process = c.fresh-number.result.0; place = 0; regs = c.child_registers-regs.ensures i; mask = c.in-Some.x.now.mask.0; pending = 0; clear_address = c.clear_of_clone.ensures i; back = false; does = Ready })
