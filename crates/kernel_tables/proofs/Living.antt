-- How many threads of a process a node shows, and its files.
use Rattle.file_model.specs.Files.{Files}
use Rattle.kernel_model.specs.Nodes.{Thread as KernelThread, threads_of}
use Rattle.kernel_model.specs.declared.Does.{Does}
use Rattle.kernel_tables.proofs.Rows.{shown_thread}
use Rattle.kernel_tables.specs.Shown.{node_of}
use Rattle.kernel_tables.specs.declared.tables.KernelTables.{KernelTables}
use Rattle.lwk_threads.proofs.Showing.{values-each}
use Rattle.lwk_threads.specs.Threads.{is_of, live_threads}
use Rattle.lwk_threads.specs.declared.Thread.{Thread}
use Rattle.mck_word.specs.Maps.{values}
use Rattle.std.proofs.Common.{ap, refl, suc, ◌∙◌}
use Rattle.std.specs.Prelude.{Bool, List, [], cond, false, filter, length, map, true, ℕ, ◌==◌, ◌∷◌, ◌≡◌}

live-mapped : (p : ℕ) (xs : List (Thread Does)) → length (filter (λ (x : KernelThread). x.process == p) (map shown_thread xs)) ≡ length (filter (is_of p) xs)
live-mapped p [] = refl
live-mapped p (x ∷ xs) = go (x.pid.0 == p) (live-mapped p xs)
  where
    go : (b : Bool) → length (filter (λ (x : KernelThread). x.process == p) (map shown_thread xs)) ≡ length (filter (is_of p) xs)
        → length (cond b (shown_thread x ∷ filter (λ (x : KernelThread). x.process == p) (map shown_thread xs)) (filter (λ (x : KernelThread). x.process == p) (map shown_thread xs))) ≡ length (cond b (x ∷ filter (is_of p) xs) (filter (is_of p) xs))
    go true e = ap (λ k. suc k) e
    go false e = e

module _ (n : KernelTables) (files : Files) where
  pub live_shown : (p : ℕ) → length (threads_of (node_of n files) p) ≡ live_threads p n.threads.threads
  unfolding node_of
  live_shown p = ap (λ xs. length (filter (λ (x : KernelThread). x.process == p) xs)) (values-each shown_thread n.threads.threads.rows) ∙ live-mapped p (values n.threads.threads.rows)

  -- other files beside the same tables
  pub files_set : (other : Files) → node_of n other ≡ record (node_of n files) { files = other }
  unfolding node_of
  files_set other = refl

  pub files_are : (node_of n files).files ≡ files
  unfolding node_of
  files_are = refl
