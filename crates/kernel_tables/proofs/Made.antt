-- What a node shows after a row is put in.
use Rattle.file_model.specs.Files.{Files}
use Rattle.futex_queues.specs.Sleep.{Queue}
use Rattle.key_rows.specs.Table.{Table}
use Rattle.kernel_model.specs.CloneCalls.{cloned_thread, with_thread as with_next}
use Rattle.kernel_model.specs.Nodes.{Process as KernelProcess, Sleeper, Thread as KernelThread, has_thread, no_thread, thread_of, threads_of}
use Rattle.kernel_model.specs.declared.Does.TheVariants.{Ready}
use Rattle.kernel_model.specs.declared.Does.{Does}
use Rattle.kernel_tables.proofs.Living.{live_shown}
use Rattle.kernel_tables.proofs.Rows.{shown_thread, thread_at}
use Rattle.kernel_tables.specs.Shown.{node_of, shown_process}
use Rattle.kernel_tables.specs.declared.process_rows.Process.{Process}
use Rattle.kernel_tables.specs.declared.tables.KernelTables.{KernelTables}
use Rattle.lwk_threads.proofs.Showing.{cloned-shown}
use Rattle.lwk_threads.specs.Shown.{shown_threads}
use Rattle.lwk_threads.specs.Threads.{Spared, Threads, cloned, peers_of, with_clone, with_thread}
use Rattle.lwk_threads.specs.declared.Thread.{Thread}
use Rattle.mck_word.specs.EachLaws.{each-put}
use Rattle.mck_word.specs.Maps.{Map, at, each, put}
use Rattle.std.proofs.Common.{ap, refl, sym, ◌∙◌}
use Rattle.std.specs.Prelude.{List, None, Option, Some, false, is_some, length, max, option_map, slice_index, true, unwrap_or, ℕ, ◌+◌, ◌≡◌}

-- tables that hold the same show the same
module _ (n : KernelTables) (files : Files) where
  pub same_processes : (q : Table Process) → q.map ≡ n.processes.map → node_of (record n { processes = q }) files ≡ node_of n files
  unfolding node_of
  same_processes q e = ap (λ (m : Map Process). record (node_of n files) { processes = each shown_process m }) e

  pub same_threads : (q : Spared Does) → q.threads ≡ n.threads.threads → node_of (record n { threads = q }) files ≡ node_of n files
  unfolding node_of
  same_threads q e = ap (λ (t : Threads Does). record (node_of n files) { threads = shown_threads (λ (d : Does). d) t; next_number = t.next }) e

  pub same_sleepers : (q : Queue) → q.list ≡ n.sleepers.list → node_of (record n { sleepers = q }) files ≡ node_of n files
  unfolding node_of
  same_sleepers q e = ap (λ (ss : List Sleeper). record (node_of n files) { sleepers = ss }) e

  -- a process is put in, and a thread
  pub process_put : (q : Table Process) (p : ℕ) (w : Process) → q.map ≡ put n.processes.map p w → node_of (record n { processes = q }) files ≡ record (node_of n files) { processes = put (node_of n files).processes p (shown_process w) }
  unfolding node_of
  process_put q p w e = ap (λ (m : Map KernelProcess). record (node_of n files) { processes = m }) (ap (each shown_process) e ∙ each-put shown_process n.processes.map p w)

  pub thread_put : (q : Spared Does) (x : Thread Does) → q.threads ≡ with_thread x n.threads.threads
      → node_of (record n { threads = q }) files ≡ record (node_of n files) { threads = put (node_of n files).threads x.tid.0 (shown_thread x); next_number = max (node_of n files).next_number (x.tid.0 + 1) }
  unfolding node_of
  thread_put q x e =
      ap (λ (t : Threads Does). record (node_of n files) { threads = shown_threads (λ (d : Does). d) t; next_number = t.next }) e
      ∙ ap (λ (m : Map KernelThread). record (node_of n files) { threads = m; next_number = max n.threads.threads.next (x.tid.0 + 1) }) (each-put shown_thread n.threads.threads.rows x.tid.0 x)

  -- the thread that a number names
  pub thread_is : (t : ℕ) (x : Thread Does) → at n.threads.threads.rows t ≡ Some x → thread_of (node_of n files) t ≡ shown_thread x
  thread_is t x e = ap (λ (o : Option KernelThread). unwrap_or o no_thread) (thread_at n files t ∙ ap (option_map shown_thread) e)

  cloned_next : (q : Spared Does) (x : Thread Does) (args : List ℕ) → q.threads ≡ with_clone args Ready (Some x) n.threads.threads
      → node_of (record n { threads = q }) files ≡ with_next (shown_thread (cloned args Ready x n.threads.threads)) (node_of n files)
  unfolding node_of
  cloned_next q x args e =
      ap (λ (t : Threads Does). record (node_of n files) { threads = shown_threads (λ (d : Does). d) t; next_number = t.next }) e
      ∙ ap (λ (m : Map KernelThread). record (node_of n files) { threads = m; next_number = n.threads.threads.next + 1 }) (each-put shown_thread n.threads.threads.rows n.threads.threads.next (cloned args Ready x n.threads.threads))

  threads_shown : (node_of n files).threads ≡ shown_threads (λ (d : Does). d) n.threads.threads
  unfolding node_of
  threads_shown = refl

  pub clone_put : (q : Spared Does) (t : ℕ) (args : List ℕ) → is_some (at n.threads.threads.rows t) ≡ true → q.threads ≡ with_clone args Ready (at n.threads.threads.rows t) n.threads.threads
      → node_of (record n { threads = q }) files ≡ with_next (cloned_thread (node_of n files) (thread_of (node_of n files) t) (slice_index args 0) (slice_index args 1) (slice_index args 3) (slice_index args 4)) (node_of n files)
  clone_put q t args lives e = go (at n.threads.threads.rows t) refl lives e
    where
      go : (o : Option (Thread Does)) → at n.threads.threads.rows t ≡ o → is_some o ≡ true → q.threads ≡ with_clone args Ready o n.threads.threads
          → node_of (record n { threads = q }) files ≡ with_next (cloned_thread (node_of n files) (thread_of (node_of n files) t) (slice_index args 0) (slice_index args 1) (slice_index args 3) (slice_index args 4)) (node_of n files)
      go None f l e = absurd (cc)
      go (Some x) f l e =
          cloned_next q x args e
          ∙ ap (λ y. with_next y (node_of n files)) (sym (cloned-shown (λ (d : Does). d) (node_of n files) n.threads.threads x args Ready threads_shown refl)
          ∙ ap (λ y. cloned_thread (node_of n files) y (slice_index args 0) (slice_index args 1) (slice_index args 3) (slice_index args 4)) (sym (thread_is t x f)))

-- from the words on a node to its tables
module _ (n : KernelTables) where
  is-shown : (o : Option (Thread Does)) → is_some (option_map shown_thread o) ≡ is_some o
  is-shown None = refl
  is-shown (Some x) = refl

  pub lives_shown : (files : Files) (t : ℕ) → has_thread (node_of n files) t ≡ is_some (at n.threads.threads.rows t)
  lives_shown files t = ap (λ o. is_some o) (thread_at n files t) ∙ is-shown (at n.threads.threads.rows t)

  pub no_row : (t : ℕ) → is_some (at n.threads.threads.rows t) ≡ false → at n.threads.threads.rows t ≡ None
  no_row t e = go (at n.threads.threads.rows t) refl e
    where
      go : (o : Option (Thread Does)) → at n.threads.threads.rows t ≡ o → is_some o ≡ false → at n.threads.threads.rows t ≡ None
      go None f g = f
      go (Some x) f g = absurd (cc)

  pub peers_shown : (files : Files) (t : ℕ) → is_some (at n.threads.threads.rows t) ≡ true → peers_of (at n.threads.threads.rows t) n.threads.threads ≡ length (threads_of (node_of n files) (thread_of (node_of n files) t).process)
  peers_shown files t lives = go (at n.threads.threads.rows t) refl lives
    where
      go : (o : Option (Thread Does)) → at n.threads.threads.rows t ≡ o → is_some o ≡ true → peers_of o n.threads.threads ≡ length (threads_of (node_of n files) (thread_of (node_of n files) t).process)
      go None f g = absurd (cc)
      go (Some x) f g = sym (live_shown n files x.pid.0) ∙ ap (λ (y : KernelThread). length (threads_of (node_of n files) y.process)) (sym (thread_is n files t x f))
