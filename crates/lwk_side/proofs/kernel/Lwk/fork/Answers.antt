use Rattle.file_model.specs.Files.{root_only, share}
use Rattle.hybrid_model.specs.OneProcess.{ran_last, view_here, with_view}
use Rattle.hybrid_model.specs.Trap.{trapped}
use Rattle.kernel_model.specs.CloneCalls.{Cloned, forks}
use Rattle.kernel_model.specs.LocalCalls.{answers}
use Rattle.kernel_model.specs.Nodes.{thread_of}
use Rattle.kernel_model.specs.Traps.{arguments_of, cloned, past_ecall}
use Rattle.lwk_calls.specs.Forks.{fork_refusal}
use Rattle.kernel_tables.specs.Shown.{node_of}
use Rattle.lwk_side.proofs.Born.{count-memory, enough-free, fork-goes, fork-refused, fork-trap}
use Rattle.lwk_side.proofs.kernel.Lwk.fork.Goals as goal
use Rattle.lwk_side.specs.Forked.{born_side}
use Rattle.lwk_side.specs.Shown.{here_of}
use Rattle.mck_word.specs.Maps.{count}
use Rattle.std.proofs.Common.{ap, of_z, rules, sym, to_z, w64, ◌∙◌, ◌≡◌}
use Rattle.std.specs.Prelude.{Some, get_or, length, ℕ}

pub forks-q-requires-clause-enough : goal.forks-q-requires-clause-enough
forks-q-requires-clause-enough g c =
    let rows = g.T.PageTable.rows c.args.task.now.space.table in
    let lwk = c.args.self.now in
    enough-free (count (node_of lwk.node root_only).processes) (length lwk.pool.free) (count rows) (sym (c.fork_refusal.ensures root_only) ∙ c.in-None.is)

pub returns-in-Some-clause-event : goal.returns-in-Some-clause-event
returns-in-Some-clause-event g c = λ channel r.
    let rows = g.T.PageTable.rows c.args.task.now.space.table in
    let lwk = c.args.self.now in
    let t = c.args.t.0 in
    let p = c.args.p.0 in
    let h = here_of lwk rows c.args.task.now channel r in
    let regs = (thread_of h.node t).regs in
    let b : ℕ → ℕ = λ k. get_or (arguments_of regs) k 0 in
    let v = past_ecall t (view_here h) in
    let z = c.in-Some.answer in
    let same : to_z w64 (of_z w64 z) ≡ z = search rules in
    let refused = ap (λ n. fork_refusal (count h.node.processes) (length lwk.pool.free) n) (count-memory rows lwk.frames) ∙ sym (c.fork_refusal.ensures r.files) ∙ c.in-Some.is in
    ap (λ l. here_of l rows c.args.task.now channel r) c.ran_last.ensures
    ∙ ap (ran_last t) (c.refuses_fork.ensures.after channel r ∙ ap (λ y. with_view (answers t y v) h) same
    ∙ ap (λ (x : Cloned). trapped p t (cloned x) h) (sym (fork-refused t (length h.free) (b 0) (b 1) (b 2) (b 3) (b 4) v z refused)))
    ∙ fork-trap p t h (c.requires.fork r.files)

pub returns-in-None-clause-event : goal.returns-in-None-clause-event
returns-in-None-clause-event g c = λ channel r.
    let rows = g.T.PageTable.rows c.args.task.now.space.table in
    let lwk = c.args.self.now in
    let t = c.args.t.0 in
    let p = c.args.p.0 in
    let h = here_of lwk rows c.args.task.now channel r in
    let regs = (thread_of h.node t).regs in
    let b : ℕ → ℕ = λ k. get_or (arguments_of regs) k 0 in
    let v = past_ecall t (view_here h) in
    let q = c.forks-q.result.0 in
    let table = g.T.PageTable.rows c.forks-q.new.child.table in
    let args = c.arguments_of-args.ensures ∙ ap arguments_of (c.regs.ensures r.files) in
    let none = ap (λ n. fork_refusal (count h.node.processes) (length lwk.pool.free) n) (count-memory rows lwk.frames) ∙ sym (c.fork_refusal.ensures r.files) ∙ c.in-None.is in
    ap (λ l. record (here_of l rows c.args.task.now channel (record r { files = share p q r.files })) { born = Some (q, born_side l.rings table) }) c.ran_last-in-None.ensures
    ∙ ap (ran_last t) (c.forks-q.ensures.after channel r
    ∙ (λ i. trapped p t (cloned (forks t (get_or (args i) 0 0) (get_or (args i) 1 0) (get_or (args i) 2 0) (get_or (args i) 3 0) (get_or (args i) 4 0) v)) h)
    ∙ ap (λ (x : Cloned). trapped p t (cloned x) h) (sym (fork-goes t (length h.free) (b 0) (b 1) (b 2) (b 3) (b 4) v none)))
    ∙ fork-trap p t h (c.requires.fork r.files)
