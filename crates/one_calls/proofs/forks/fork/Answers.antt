use Rattle.kernel_model.specs.CloneCalls.{Cloned, forks}
use Rattle.kernel_model.specs.LocalCalls.{answers}
use Rattle.kernel_model.specs.Nodes.{thread_of}
use Rattle.kernel_model.specs.Signals.{View}
use Rattle.kernel_model.specs.Steps.{one_trapped, one_view, with_view}
use Rattle.kernel_model.specs.Traps.{arguments_of, cloned, past_ecall}
use Rattle.one_calls.proofs.ForkTraps.{fork-goes, fork-refused, fork-trap}
use Rattle.one_calls.proofs.Trapping.{alone-here}
use Rattle.one_calls.proofs.forks.fork.Goals as goal
use Rattle.one_calls.specs.Here.{here}
use Rattle.one_calls.specs.Words.{fork_refusal}
use Rattle.std.proofs.Common.{ap, of_z, rules, sym, to_z, w64, ◌∙◌, ◌≡◌}
use Rattle.std.specs.Prelude.{get_or, ℕ}

pub returns-in-Some : goal.returns-in-Some
returns-in-Some c = λ r free.
    let n = c.args.node.now in
    let m = c.args.memory.now.map in
    let t = c.args.t.0 in
    let p = c.args.p.0 in
    let h = here n m r in
    let regs = (thread_of h.node t).regs in
    let b : ℕ → ℕ = λ k. get_or (arguments_of regs) k 0 in
    let v = past_ecall t (one_view h) in
    let z = c.in-Some.answer in
    let same : to_z w64 (of_z w64 z) ≡ z = search rules in
    let refused = (λ i. fork_refusal (sym (c.process_count.ensures r.files) i) (free i) (sym c.count-pages.ensures i)) ∙ sym c.fork_refusal.ensures ∙ c.in-Some.is in
    let word : View → View = λ k. answers t (to_z w64 (of_z w64 z)) (past_ecall t k) in
    alone-here n m c.refuses_fork.new.node word c.refuses_fork.ensures r
    ∙ ap (λ y. with_view (answers t y v) h) same
    ∙ ap (λ (x : Cloned). one_trapped p t (cloned x) h) (sym (fork-refused t h.free (b 0) (b 1) (b 2) (b 3) (b 4) v z refused))
    ∙ fork-trap p t h (c.requires.fork r.files)

pub returns-in-None : goal.returns-in-None
returns-in-None c = λ r free.
    let n = c.args.node.now in
    let m = c.args.memory.now.map in
    let t = c.args.t.0 in
    let p = c.args.p.0 in
    let h = here n m r in
    let regs = (thread_of h.node t).regs in
    let b : ℕ → ℕ = λ k. get_or (arguments_of regs) k 0 in
    let v = past_ecall t (one_view h) in
    let args = c.arguments_of-args.ensures ∙ ap arguments_of (c.regs.ensures r.files) in
    let none = (λ i. fork_refusal (sym (c.process_count.ensures r.files) i) (free i) (sym c.count-pages.ensures i)) ∙ sym c.fork_refusal.ensures ∙ c.in-None.is in
    c.forks-child.ensures r
    ∙ (λ i. one_trapped p t (cloned (forks t (get_or (args i) 0 0) (get_or (args i) 1 0) (get_or (args i) 2 0) (get_or (args i) 3 0) (get_or (args i) 4 0) v)) h)
    ∙ ap (λ (x : Cloned). one_trapped p t (cloned x) h) (sym (fork-goes t h.free (b 0) (b 1) (b 2) (b 3) (b 4) v none))
    ∙ fork-trap p t h (c.requires.fork r.files)
