-- A thread behind its ecall, and what a step from there comes to.
use Rattle.hybrid_laws.proofs.node.Primitives.{at-change}
use Rattle.hybrid_model.specs.Sides.{Row}
use Rattle.hybrid_model.specs.Spaces.{written_back}
use Rattle.kernel_model.specs.LocalCalls.{waiters}
use Rattle.kernel_model.specs.Nodes.{Node as KernelNode, Thread, change_thread, most_threads, no_thread, set_pc, thread_of}
use Rattle.kernel_model.specs.Signals.{View, on_node, stored_all, view}
use Rattle.kernel_tables.specs.Room.{KeepsRoom}
use Rattle.kernel_tables.specs.Shown.{node_of}
use Rattle.kernel_tables.specs.declared.tables.KernelTables.{KernelTables}
use Rattle.lwk_side.specs.Resting.{MayRest}
use Rattle.lwk_space.specs.Frames.{frames_map}
use Rattle.lwk_space.specs.Lacks.{memory}
use Rattle.lwk_views.specs.Views.{Did, Stepped}
use Rattle.mck_word.specs.Maps.{Map, at}
use Rattle.std.proofs.Common.{ap, arith, refl, subst, sym, ◌∙◌, ◌≡◌}
use Rattle.std.proofs.lemmas.Bool.Decides.{nat_tests}
use Rattle.std.specs.List.{list_any}
use Rattle.std.specs.Prelude.{List, None, Option, Some, length, option_map, true, unwrap_or, ℕ, ◌+◌, ◌<◌, ◌==◌}

abbrev pub past : Thread → Thread
past x = record x { regs = set_pc (x.regs.pc + 4) x.regs }

abbrev pub behind : ℕ → KernelNode → KernelNode
behind t node = change_thread t past node

process-there : (o : Option Thread) → (unwrap_or (option_map past o) no_thread).process ≡ (unwrap_or o no_thread).process
process-there None = refl
process-there (Some x) = refl

pub at-itself : (node : KernelNode) (t : ℕ) → at (behind t node).threads t ≡ option_map past (at node.threads t)
at-itself node t = at-change node.threads t past t ∙ (let e : (t == t) ≡ true = grind (arith, nat_tests) in rw e refl)

pub process-kept : (node : KernelNode) (t : ℕ) → (thread_of (behind t node) t).process ≡ (thread_of node t).process
process-kept node t = ap (λ (o : Option Thread). (unwrap_or o no_thread).process) (at-itself node t) ∙ process-there (at node.threads t)

pub may-rest : (before after : KernelTables) (t : ℕ) → KeepsRoom before after → Stepped before after (behind t) → MayRest before t → MayRest after t
may-rest before after t room step h = record {
  room = let a = h.room in let b = room.sleepers in omega (arith, a, b);
  awake = λ files. ap (λ (k : KernelNode). list_any (λ s. s.thread == t) k.sleepers) (step files) ∙ h.awake files;
  few = λ files address.
      let path : length (waiters (node_of after files) (thread_of (node_of after files) t).process address) ≡ length (waiters (node_of before files) (thread_of (node_of before files) t).process address) =
      ap (λ (k : KernelNode). length (waiters k (thread_of k t).process address)) (step files)
      ∙ ap (λ (p : ℕ). length (waiters (node_of before files) p address)) (process-kept (node_of before files) t) in
      subst (λ (n : ℕ). n < most_threads) (sym path) (h.few files address);
}

-- a step of the node, and a word from there
pub did-after : (rows : Map Row) (before middle after : KernelTables) (pages left : List (List ℕ)) (f : KernelNode → KernelNode) (word : View → View)
    → Stepped before middle f → Did rows middle pages after left word → Did rows before pages after left (λ v. word (on_node f v))
did-after rows before middle after pages left f word step d = record {
  node = λ files. d.node files ∙ ap (λ (k : KernelNode). (word (view k (memory rows pages))).node) (step files);
  frames = λ files. d.frames files ∙ ap (λ (k : KernelNode). written_back rows (stored_all (word (view k (memory rows pages))).stores (memory rows pages)) (frames_map pages)) (step files);
  count = d.count;
}
