use Rattle.kernel_model.specs.declared.steps.Step.TheVariants.{Interrupted}
use Rattle.one_kernel.proofs.After.{after-is, may-here, may-in, process-is}
use Rattle.one_kernel.proofs.Calling.{active-is, both}
use Rattle.one_kernel.proofs.Stepping.{ends-with, own-with}
use Rattle.one_kernel.proofs.parts.One.interrupted.Goals as goal
use Rattle.one_kernel.specs.Parts.{here_in, one_of}
use Rattle.std.proofs.Common.{ap, refl, sym, ◌∙◌}
use Rattle.kernel_model.specs.Progress.{interrupted_answer, is_not_ready, next_kind}
use Rattle.kernel_model.specs.Steps.{call_at, has_call, interrupted_as, is_active}
use Rattle.std.specs.Prelude.{◌&&◌}
use Rattle.kernel_tables.specs.Shown.{node_of}
use Rattle.one_files.specs.Seen.{seen}
use Rattle.one_kernel.proofs.Interrupts.{has-call-is, not-back-in, or-first, own-interrupted}
use Rattle.one_kernel.specs.declared.calls.Standing.TheVariants.{Over}
use Rattle.std.proofs.Common.{of_z, rules, to_z, true, false, w64, ◌≡◌}

pub row_mut-own-requires : goal.row_mut-own-requires
unfolding one_of
row_mut-own-requires c =
    let x = c.args.self.now in
    let p = c.process_of_thread-p.result.0 in
    let process = process-is x c.args.t.0 p c.process_of_thread-p.ensures in
    own-interrupted x p c.args.t.0 c.requires.shown process _ (may-here x p (Interrupted c.args.t) process c.requires)

pub returns : goal.returns
returns c =
    let x = c.args.self.now in
    let p = c.process_of_thread-p.result.0 in
    let w = c.row_mut-own.result.now in
    let process = process-is x c.args.t.0 p c.process_of_thread-p.ensures in
    let there = c.row_mut-own.ensures.value in
    let none : has_call (here_in x w) c.args.t.0 ≡ false = has-call-is x w c.args.t.0 ∙ (sym c.has_call.ensures ∙ c.if-has_call.false) in
    after-is x _ p w w (Interrupted c.args.t) there refl process
    ((λ i. record (here_in x w) { node = c.called_back.ensures.node (seen x.files) i }) ∙ sym (ap (λ b. interrupted_as b c.args.t.0 (here_in x w)) none))

pub returns-then-has_call : goal.returns-then-has_call
unfolding node_of
returns-then-has_call c =
    let same : to_z w64 (of_z w64 c.interrupted_answer.result) ≡ c.interrupted_answer.result = search rules in
    let x = c.args.self.now in
    let p = c.process_of_thread-p.result.0 in
    let w = c.row_mut-own.result.now in
    let process = process-is x c.args.t.0 p c.process_of_thread-p.ensures in
    let there = c.row_mut-own.ensures.value in
    let may = may-in x p w (Interrupted c.args.t) there process c.requires in
    let call = c.row_mut-call.result.now in
    let called = c.row_mut-call.ensures.value in
    let has : has_call (here_in x w) c.args.t.0 ≡ true = has-call-is x w c.args.t.0 ∙ (sym c.has_call.ensures ∙ c.if-has_call.true) in
    let first : is_active (here_in x w) c.args.t.0 (λ y. (call_at (here_in x w) c.args.t.0).marked && is_not_ready (next_kind (here_in x w).node.files y)) ≡ true
    = or-first _ _ may (not-back-in x p c.args.t.0 c.requires.shown process w there has) in
    let active = active-is x w c.args.t.0 call called _ (both _ _ first).1 in
    after-is x _ p w _ (Interrupted c.args.t) there refl process
    ((λ i. record (here_in x w) { own = own-with w c.args.t.0 (record call { standing = c.stood-call.result }) i; node = node_of x.node (seen c.give_back.new.files) })
    ∙ ends-with x p w c.args.t call called interrupted_answer c.stood-call.result c.interrupted_answer.result (seen c.give_back.new.files) active.0 (c.stood-call.ensures ∙ ap Over same) c.interrupted_answer.ensures c.give_back.ensures
    ∙ sym (ap (λ b. interrupted_as b c.args.t.0 (here_in x w)) has))
