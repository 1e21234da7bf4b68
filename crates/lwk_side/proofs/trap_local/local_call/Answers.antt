use Rattle.kernel_model.specs.SignalCalls.{kill, sigaction, tgkill}
use Rattle.lwk_side.proofs.Dispatched.{by-name}
use Rattle.lwk_side.proofs.trap_local.local_call.Goals as goal
use Rattle.lwk_views.specs.Views.{Did}
use Rattle.std.proofs.Common.{of_z, rules, subst, to_z, w32, ℤ, ◌∙◌, ◌≡◌}
use Rattle.std.specs.Prelude.{get_or, ℕ}
use Rattle.system_calls.specs.declared.LocalCall.TheVariants.{ExitGroup, Getpid, Getppid, Gettid, Kill, RtSigaction, RtSigreturn, SchedYield, SetRobustList, SetTidAddress, Tgkill}

pub returns-in-ExitGroup : goal.returns-in-ExitGroup
returns-in-ExitGroup g c =
    let rows = g.T.PageTable.rows c.args.space.now.table in
    let n = c.args.node.now in
    let pages = c.args.mem.now in
    let t = c.args.t.0 in
    let a : ℕ → ℕ = λ k. get_or c.args.args.now k 0 in
    by-name rows n c.exits_group.new.node pages pages t a c.args.call ExitGroup c.in-ExitGroup.is (c.exits_group.ensures.did rows pages c.requires.frames)

pub returns-in-SetTidAddress : goal.returns-in-SetTidAddress
returns-in-SetTidAddress g c =
    let rows = g.T.PageTable.rows c.args.space.now.table in
    let n = c.args.node.now in
    let pages = c.args.mem.now in
    let t = c.args.t.0 in
    let a : ℕ → ℕ = λ k. get_or c.args.args.now k 0 in
    by-name rows n c.sets_clear_address.new.node pages pages t a c.args.call SetTidAddress c.in-SetTidAddress.is (c.sets_clear_address.ensures.did rows pages c.requires.frames)

pub returns-in-SetRobustList : goal.returns-in-SetRobustList
returns-in-SetRobustList g c =
    let rows = g.T.PageTable.rows c.args.space.now.table in
    let n = c.args.node.now in
    let pages = c.args.mem.now in
    let t = c.args.t.0 in
    let a : ℕ → ℕ = λ k. get_or c.args.args.now k 0 in
    by-name rows n c.sets_robust_list.new.node pages pages t a c.args.call SetRobustList c.in-SetRobustList.is (c.sets_robust_list.ensures.did rows pages c.requires.frames)

pub returns-in-SchedYield : goal.returns-in-SchedYield
returns-in-SchedYield g c =
    let rows = g.T.PageTable.rows c.args.space.now.table in
    let n = c.args.node.now in
    let pages = c.args.mem.now in
    let t = c.args.t.0 in
    let a : ℕ → ℕ = λ k. get_or c.args.args.now k 0 in
    by-name rows n c.answers_zero.new.node pages pages t a c.args.call SchedYield c.in-SchedYield.is (c.answers_zero.ensures.did rows pages c.requires.frames)

pub returns-in-Getpid : goal.returns-in-Getpid
returns-in-Getpid g c =
    let rows = g.T.PageTable.rows c.args.space.now.table in
    let n = c.args.node.now in
    let pages = c.args.mem.now in
    let t = c.args.t.0 in
    let a : ℕ → ℕ = λ k. get_or c.args.args.now k 0 in
    by-name rows n c.getpid.new.node pages pages t a c.args.call Getpid c.in-Getpid.is (c.getpid.ensures.did rows pages c.requires.frames)

pub returns-in-Getppid : goal.returns-in-Getppid
returns-in-Getppid g c =
    let rows = g.T.PageTable.rows c.args.space.now.table in
    let n = c.args.node.now in
    let pages = c.args.mem.now in
    let t = c.args.t.0 in
    let a : ℕ → ℕ = λ k. get_or c.args.args.now k 0 in
    by-name rows n c.getppid.new.node pages pages t a c.args.call Getppid c.in-Getppid.is (c.getppid.ensures.did rows pages c.requires.frames)

pub returns-in-Gettid : goal.returns-in-Gettid
returns-in-Gettid g c =
    let rows = g.T.PageTable.rows c.args.space.now.table in
    let n = c.args.node.now in
    let pages = c.args.mem.now in
    let t = c.args.t.0 in
    let a : ℕ → ℕ = λ k. get_or c.args.args.now k 0 in
    by-name rows n c.gettid.new.node pages pages t a c.args.call Gettid c.in-Gettid.is (c.gettid.ensures.did rows pages c.requires.frames)

pub returns-in-Kill : goal.returns-in-Kill
returns-in-Kill g c =
    let rows = g.T.PageTable.rows c.args.space.now.table in
    let n = c.args.node.now in
    let pages = c.args.mem.now in
    let t = c.args.t.0 in
    let a : ℕ → ℕ = λ k. get_or c.args.args.now k 0 in
    let first : to_z w32 (of_z w32 c.int.result) ≡ c.int.result = search rules in
    let second : to_z w32 (of_z w32 c.int-in-Kill.result) ≡ c.int-in-Kill.result = search rules in
    by-name rows n c.kill.new.node pages pages t a c.args.call Kill c.in-Kill.is
    (subst (λ (z : ℤ × ℤ). Did rows n pages c.kill.new.node pages (kill t z.0 z.1)) (λ i. ((first ∙ c.int.ensures) i, (second ∙ c.int-in-Kill.ensures) i)) (c.kill.ensures.did rows pages c.requires.frames))

pub returns-in-Tgkill : goal.returns-in-Tgkill
returns-in-Tgkill g c =
    let rows = g.T.PageTable.rows c.args.space.now.table in
    let n = c.args.node.now in
    let pages = c.args.mem.now in
    let t = c.args.t.0 in
    let a : ℕ → ℕ = λ k. get_or c.args.args.now k 0 in
    let first : to_z w32 (of_z w32 c.int-in-Tgkill.result) ≡ c.int-in-Tgkill.result = search rules in
    let second : to_z w32 (of_z w32 c.int-in-Tgkill-2.result) ≡ c.int-in-Tgkill-2.result = search rules in
    let third : to_z w32 (of_z w32 c.int-in-Tgkill-3.result) ≡ c.int-in-Tgkill-3.result = search rules in
    by-name rows n c.tgkill.new.node pages pages t a c.args.call Tgkill c.in-Tgkill.is
    (subst (λ (z : ℤ × ℤ × ℤ). Did rows n pages c.tgkill.new.node pages (tgkill t z.0 z.1 z.2)) (λ i. ((first ∙ c.int-in-Tgkill.ensures) i, (second ∙ c.int-in-Tgkill-2.ensures) i, (third ∙ c.int-in-Tgkill-3.ensures) i)) (c.tgkill.ensures.did rows pages c.requires.frames))

pub returns-in-RtSigaction : goal.returns-in-RtSigaction
returns-in-RtSigaction g c =
    let rows = g.T.PageTable.rows c.args.space.now.table in
    let n = c.args.node.now in
    let pages = c.args.mem.now in
    let t = c.args.t.0 in
    let a : ℕ → ℕ = λ k. get_or c.args.args.now k 0 in
    let first : to_z w32 (of_z w32 c.int-in-RtSigaction.result) ≡ c.int-in-RtSigaction.result = search rules in
    by-name rows n c.sigaction.new.node pages c.sigaction.new.mem t a c.args.call RtSigaction c.in-RtSigaction.is
    (subst (λ (z : ℤ). Did rows n pages c.sigaction.new.node c.sigaction.new.mem (sigaction t z (a 1) (a 2) (a 3))) (first ∙ c.int-in-RtSigaction.ensures) c.sigaction.ensures.did)

pub returns-in-RtSigreturn : goal.returns-in-RtSigreturn
returns-in-RtSigreturn g c =
    let rows = g.T.PageTable.rows c.args.space.now.table in
    let n = c.args.node.now in
    let pages = c.args.mem.now in
    let t = c.args.t.0 in
    let a : ℕ → ℕ = λ k. get_or c.args.args.now k 0 in
    by-name rows n c.return_from_handler.new.node pages pages t a c.args.call RtSigreturn c.in-RtSigreturn.is c.return_from_handler.ensures.did
