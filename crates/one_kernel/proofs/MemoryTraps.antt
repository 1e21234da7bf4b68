-- A memory call of a thread behind its ecall.
use Rattle.hybrid_laws.proofs.node.Primitives.{at-change}
use Rattle.kernel_model.specs.MemoryCalls.{Decision, Now, Reply, Round, decide}
use Rattle.kernel_model.specs.Nodes.{Node, Thread, change_thread, no_thread, process_of, set_pc, thread_of}
use Rattle.kernel_model.specs.OneKernel.{OneHere}
use Rattle.kernel_model.specs.Signals.{View}
use Rattle.kernel_model.specs.Steps.{one_trapped, one_view, with_node}
use Rattle.kernel_model.specs.Traps.{arguments_of, called, decided, past_ecall}
use Rattle.mck_word.specs.Maps.{at}
use Rattle.mck_word.specs.declared.Regs.{Regs}
use Rattle.std.proofs.Common.{ap, arith, refl, sym, ◌∙◌, ◌≡◌}
use Rattle.std.proofs.lemmas.Bool.Decides.{nat_tests}
use Rattle.std.specs.Prelude.{None, Option, Some, option_map, true, unwrap_or, ℕ, ◌+◌, ◌==◌}
use Rattle.system_calls.specs.declared.MemoryCall.{MemoryCall}
use Rattle.system_calls.specs.declared.SystemCall.TheVariants.{Memory}

abbrev pub past : Thread → Thread
past x = record x { regs = set_pc (x.regs.pc + 4) x.regs }

abbrev pub behind : ℕ → Node → Node
behind t node = change_thread t past node

process-there : (o : Option Thread) → (unwrap_or (option_map past o) no_thread).process ≡ (unwrap_or o no_thread).process
process-there None = refl
process-there (Some x) = refl

process-kept : (node : Node) (t : ℕ) → (thread_of (behind t node) t).process ≡ (thread_of node t).process
process-kept node t =
    let itself : at (behind t node).threads t ≡ option_map past (at node.threads t) = at-change node.threads t past t ∙ (let e : (t == t) ≡ true = grind (arith, nat_tests) in rw e refl) in
    ap (λ (o : Option Thread). (unwrap_or o no_thread).process) itself ∙ process-there (at node.threads t)

-- what is decided does away with the node that stood there
same-decided : (p t : ℕ) (v : View) (h : OneHere) (node : Node) (d : Decision) → one_trapped p t (decided t v d) (with_node node h) ≡ one_trapped p t (decided t v d) h
same-decided p t v h node (Reply answer) = refl
same-decided p t v h node (Now c) = refl
same-decided p t v h node (Round c) = refl

-- what the call with the arguments of the registers decides behind its ecall, for a process
abbrev pub decision_of : ℕ → ℕ → MemoryCall → Regs → OneHere → ℕ → Decision
decision_of t free call r h q = decide (process_of (behind t h.node) q) h.own.memory free call (arguments_of r)

pub memory-call-is : (p t free : ℕ) (call : MemoryCall) (r : Regs) (h : OneHere) → (thread_of h.node t).process ≡ p
    → one_trapped p t (decided t (one_view (with_node (behind t h.node) h)) (decision_of t free call r h p)) (with_node (behind t h.node) h)
    ≡ one_trapped p t (called t free r (past_ecall t (one_view h)) (Some (Memory call))) h
memory-call-is p t free call r h own =
    same-decided p t (past_ecall t (one_view h)) h (behind t h.node) (decision_of t free call r h p)
    ∙ ap (λ (q : ℕ). one_trapped p t (decided t (past_ecall t (one_view h)) (decision_of t free call r h q)) h) (sym (process-kept h.node t ∙ own))
