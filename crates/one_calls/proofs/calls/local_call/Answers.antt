use Rattle.kernel_model.specs.SignalCalls.{kill, sigaction, tgkill}
use Rattle.one_calls.proofs.Dispatched.{alone-by-name, by-name}
use Rattle.one_calls.proofs.calls.local_call.Goals as goal
use Rattle.one_calls.specs.Views.{Did, DidAlone}
use Rattle.std.proofs.Common.{of_z, rules, subst, to_z, w32, ℤ, ◌∙◌, ◌≡◌}
use Rattle.std.specs.Prelude.{get_or, ℕ}
use Rattle.system_calls.specs.declared.LocalCall.TheVariants.{ExitGroup, Getpid, Getppid, Gettid, Kill, RtSigaction, RtSigreturn, SchedYield, SetTidAddress, Tgkill}

pub returns-in-ExitGroup : goal.returns-in-ExitGroup
returns-in-ExitGroup c =
    alone-by-name c.args.node.now c.exits_group.new.node c.args.memory.now.map c.args.t.0 c.args.args.now c.args.call ExitGroup c.in-ExitGroup.is c.exits_group.ensures

pub returns-in-SetTidAddress : goal.returns-in-SetTidAddress
returns-in-SetTidAddress c =
    alone-by-name c.args.node.now c.sets_clear_address.new.node c.args.memory.now.map c.args.t.0 c.args.args.now c.args.call SetTidAddress c.in-SetTidAddress.is c.sets_clear_address.ensures

pub returns-in-SchedYield : goal.returns-in-SchedYield
returns-in-SchedYield c =
    alone-by-name c.args.node.now c.answers_zero.new.node c.args.memory.now.map c.args.t.0 c.args.args.now c.args.call SchedYield c.in-SchedYield.is c.answers_zero.ensures

pub returns-in-Kill : goal.returns-in-Kill
returns-in-Kill c =
    let t = c.args.t.0 in
    let first : to_z w32 (of_z w32 c.int.result) ≡ c.int.result = search rules in
    let second : to_z w32 (of_z w32 c.int-in-Kill.result) ≡ c.int-in-Kill.result = search rules in
    alone-by-name c.args.node.now c.kill.new.node c.args.memory.now.map t c.args.args.now c.args.call Kill c.in-Kill.is
    (subst (λ (z : ℤ × ℤ). DidAlone c.args.node.now c.kill.new.node (kill t z.0 z.1)) (λ i. ((first ∙ c.int.ensures) i, (second ∙ c.int-in-Kill.ensures) i)) c.kill.ensures)

pub returns-in-Tgkill : goal.returns-in-Tgkill
returns-in-Tgkill c =
    let t = c.args.t.0 in
    let first : to_z w32 (of_z w32 c.int-in-Tgkill.result) ≡ c.int-in-Tgkill.result = search rules in
    let second : to_z w32 (of_z w32 c.int-in-Tgkill-2.result) ≡ c.int-in-Tgkill-2.result = search rules in
    let third : to_z w32 (of_z w32 c.int-in-Tgkill-3.result) ≡ c.int-in-Tgkill-3.result = search rules in
    alone-by-name c.args.node.now c.tgkill.new.node c.args.memory.now.map t c.args.args.now c.args.call Tgkill c.in-Tgkill.is
    (subst (λ (z : ℤ × ℤ × ℤ). DidAlone c.args.node.now c.tgkill.new.node (tgkill t z.0 z.1 z.2))
    (λ i. ((first ∙ c.int-in-Tgkill.ensures) i, (second ∙ c.int-in-Tgkill-2.ensures) i, (third ∙ c.int-in-Tgkill-3.ensures) i)) c.tgkill.ensures)

pub returns-in-RtSigaction : goal.returns-in-RtSigaction
returns-in-RtSigaction c =
    let t = c.args.t.0 in
    let a : ℕ → ℕ = λ k. get_or c.args.args.now k 0 in
    let first : to_z w32 (of_z w32 c.int-in-RtSigaction.result) ≡ c.int-in-RtSigaction.result = search rules in
    by-name c.args.node.now c.sigaction.new.node c.args.memory.now.map c.sigaction.new.memory.map t c.args.args.now c.args.call RtSigaction c.in-RtSigaction.is
    (subst (λ (z : ℤ). Did c.args.node.now c.args.memory.now.map c.sigaction.new.node c.sigaction.new.memory.map (sigaction t z (a 1) (a 2) (a 3))) (first ∙ c.int-in-RtSigaction.ensures) c.sigaction.ensures)

pub returns-in-RtSigreturn : goal.returns-in-RtSigreturn
returns-in-RtSigreturn c =
    by-name c.args.node.now c.return_from_handler.new.node c.args.memory.now.map c.args.memory.now.map c.args.t.0 c.args.args.now c.args.call RtSigreturn c.in-RtSigreturn.is c.return_from_handler.ensures

pub returns-in-Getpid : goal.returns-in-Getpid
returns-in-Getpid c =
    alone-by-name c.args.node.now c.getpid.new.node c.args.memory.now.map c.args.t.0 c.args.args.now c.args.call Getpid c.in-Getpid.is c.getpid.ensures

pub returns-in-Getppid : goal.returns-in-Getppid
returns-in-Getppid c =
    alone-by-name c.args.node.now c.getppid.new.node c.args.memory.now.map c.args.t.0 c.args.args.now c.args.call Getppid c.in-Getppid.is c.getppid.ensures

pub returns-in-Gettid : goal.returns-in-Gettid
returns-in-Gettid c =
    alone-by-name c.args.node.now c.gettid.new.node c.args.memory.now.map c.args.t.0 c.args.args.now c.args.call Gettid c.in-Gettid.is c.gettid.ensures
