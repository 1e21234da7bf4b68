-- What a node shows after a fork.
use Rattle.file_model.specs.Files.{Files, share}
use Rattle.key_rows.specs.Table.{Table}
use Rattle.kernel_model.specs.CloneCalls.{child_process, child_thread, with_child}
use Rattle.kernel_model.specs.Nodes.{Node as KernelNode, Process as KernelProcess, Thread as KernelThread, has_process, process_of, thread_of}
use Rattle.kernel_model.specs.declared.Does.{Does}
use Rattle.kernel_tables.proofs.Living.{files_are, files_set}
use Rattle.kernel_tables.proofs.Made.{process_put, thread_is, thread_put}
use Rattle.kernel_tables.proofs.Rows.{next_is, process_at, shown_thread}
use Rattle.kernel_tables.specs.Shown.{node_of, shown_process}
use Rattle.kernel_tables.specs.declared.process_rows.Process.{Process}
use Rattle.kernel_tables.specs.declared.tables.KernelTables.{KernelTables}
use Rattle.lwk_threads.specs.Threads.{Spared, with_thread}
use Rattle.lwk_threads.specs.declared.Thread.{Thread}
use Rattle.mck_word.specs.Maps.{Map, at, put}
use Rattle.std.proofs.Common.{ap, arith, refl, sym, ◌∙◌}
use Rattle.std.specs.Prelude.{List, None, Option, Some, is_some, max, option_map, slice_index, ℕ, ◌+◌, ◌≡◌}

is-shown : (o : Option Process) → is_some (option_map shown_process o) ≡ is_some o
is-shown None = refl
is-shown (Some x) = refl

pub there_shown : (n : KernelTables) (files : Files) (p : ℕ) → has_process (node_of n files) p ≡ is_some (at n.processes.map p)
there_shown n files p = ap (λ o. is_some o) (process_at n files p) ∙ is-shown (at n.processes.map p)

next_one : (a b : ℕ) → a ≡ b → max b (a + 1) ≡ b + 1
next_one a b e = omega arith

module _ (n : KernelTables) (files : Files) (t child : ℕ) (x y : Thread Does) (w : Process) (args : List ℕ) where
  abbrev node : KernelNode
  node = node_of n files

  abbrev shared : Files
  shared = share (thread_of node t).process child files

  abbrev made : Map KernelProcess → Map KernelThread → Files → ℕ → KernelNode
  made ps ts fs k = record node { processes = ps; threads = ts; files = fs; next_number = k }

  pub forked : (pq : Table Process) (tq : Spared Does) → at n.threads.threads.rows t ≡ Some x → child ≡ n.threads.threads.next
      → pq.map ≡ put n.processes.map child w → shown_process w ≡ child_process x.pid.0 (process_of node x.pid.0)
      → tq.threads ≡ with_thread y n.threads.threads → y.tid.0 ≡ child
      → shown_thread y ≡ child_thread (shown_thread x) child (slice_index args 0) (slice_index args 1) (slice_index args 3) (slice_index args 4)
      → node_of (record n { processes = pq; threads = tq }) shared ≡ with_child t child (slice_index args 0) (slice_index args 1) (slice_index args 3) (slice_index args 4) node
  forked pq tq there next ps ws ts number ys =
      let is = thread_is n files t x there in
      let base = process_put n shared pq child w ps ∙ ap (λ (m : KernelNode). record m { processes = put m.processes child (shown_process w) }) (files_set n files shared) in
      let all = thread_put (record n { processes = pq }) shared tq y ts ∙ ap (λ (m : KernelNode). record m { threads = put m.threads y.tid.0 (shown_thread y); next_number = max m.next_number (y.tid.0 + 1) }) base in
      let ps_are = ap (put node.processes child) (ws ∙ ap (λ (z : KernelThread). child_process z.process (process_of node z.process)) (sym is)) in
      let ts_are = (λ i. put node.threads (number i) (ys i)) ∙ ap (λ (z : KernelThread). put node.threads child (child_thread z child (slice_index args 0) (slice_index args 1) (slice_index args 3) (slice_index args 4))) (sym is) in
      let fs_are = ap (λ fs. share (thread_of node t).process child fs) (sym (files_are n files)) in
      let next_are = next_one y.tid.0 node.next_number (number ∙ next ∙ sym (next_is n files)) in
      all ∙ (λ i. made (ps_are i) (ts_are i) (fs_are i) (next_are i))
