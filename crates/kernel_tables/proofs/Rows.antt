-- What the tables of a node show of a row.
use Rattle.file_model.specs.Files.{Files}
use Rattle.kernel_model.specs.Nodes.{Process as KernelProcess, Thread as KernelThread, Sleeper, change_process, change_thread, instructions_in_all, without_thread as kernel_without_thread}
use Rattle.kernel_model.specs.declared.Does.{Does}
use Rattle.key_rows.specs.Table.{Table}
use Rattle.kernel_tables.specs.Shown.{node_of, shown_process}
use Rattle.kernel_tables.specs.declared.process_rows.Process.{Process}
use Rattle.kernel_tables.specs.declared.tables.KernelTables.{KernelTables}
use Rattle.lwk_threads.proofs.Showing.{entries-each, pair_of}
use Rattle.kernel_tables.specs.Totals.{instructions_in}
use Rattle.std.proofs.lemmas.List.Sums.{sum_by-cons}
use Rattle.lwk_threads.specs.Shown.{shown, shown_threads}
use Rattle.lwk_threads.specs.Threads.{Spared, changed, without_thread}
use Rattle.lwk_threads.specs.declared.Thread.{Thread}
use Rattle.mck_word.specs.EachLaws.{at-each, each-change, each-cut}
use Rattle.mck_word.specs.Maps.{Map, at, change, change_row, cut, each, entries, put}
use Rattle.mck_word.specs.MapLaws.{at-cut, same_rows}
use Rattle.futex_queues.specs.Sleep.{Queue}
use Rattle.std.proofs.lemmas.Bool.Decides.{nat_tests}
use Rattle.std.proofs.Common.{◌∙◌, ap, arith, refl, sym}
use Rattle.std.specs.Prelude.{Bool, List, None, Some, [], cond, false, map as map_list, option_map, sum_by, true, ℕ, ◌+◌, ◌==◌, ◌∷◌, ◌≡◌}

abbrev pub shown_thread : Thread Does → KernelThread
shown_thread x = shown (λ (d : Does). d) x

module _ (n : KernelTables) (files : Files) where
  pub process_at : (p : ℕ) → at (node_of n files).processes p ≡ option_map shown_process (at n.processes.map p)
  unfolding node_of
  process_at p = at-each shown_process n.processes.map p

  pub thread_at : (t : ℕ) → at (node_of n files).threads t ≡ option_map shown_thread (at n.threads.threads.rows t)
  unfolding node_of
  thread_at t = at-each shown_thread n.threads.threads.rows t

-- a row that is there, changed in two ways that come to the same
pub change_there : {V : Type 0} (m : Map V) (k : ℕ) (x : V) (f g : V → V) → at m k ≡ Some x → f x ≡ g x → change m k f ≡ change m k g
change_there m k x f g e h = ap (change_row m k f) e ∙ ap (put m k) h ∙ sym (ap (change_row m k g) e)

-- a row that isn't there
pub change_none : {V : Type 0} (m : Map V) (k : ℕ) (f : V → V) → at m k ≡ None → change m k f ≡ m
change_none m k f e = ap (change_row m k f) e

-- what a node shows after a process, or a thread, is changed
module _ (n : KernelTables) (files : Files) where
  pub process_changed : (q : Table Process) (p : ℕ) (f : Process → Process) (g : KernelProcess → KernelProcess)
      → q ≡ record n.processes { map = change n.processes.map p f } → ((x : Process) → shown_process (f x) ≡ g (shown_process x))
      → node_of (record n { processes = q }) files ≡ change_process p g (node_of n files)
  unfolding node_of
  process_changed q p f g e h =
      ap (λ (m : Map KernelProcess). record (node_of n files) { processes = m })
      (ap (λ (t : Table Process). each shown_process t.map) e ∙ each-change shown_process n.processes.map p f g h)

  pub thread_changed : (q : Spared Does) (t : ℕ) (f : Thread Does → Thread Does) (g : KernelThread → KernelThread)
      → q ≡ record n.threads { threads = changed t f n.threads.threads } → ((x : Thread Does) → shown_thread (f x) ≡ g (shown_thread x))
      → node_of (record n { threads = q }) files ≡ change_thread t g (node_of n files)
  unfolding node_of
  thread_changed q t f g e h =
      (λ i. record (node_of n files) { threads = shown_threads (λ (d : Does). d) (e i).threads; next_number = (e i).threads.next })
      ∙ ap (λ (m : Map KernelThread). record (node_of n files) { threads = m }) (each-change shown_thread n.threads.threads.rows t f g h)

sum-shown : (es : List (ℕ × Process)) → sum_by (λ (e : ℕ × KernelProcess). e.1.instructions) (map_list (pair_of shown_process) es) ≡ sum_by (λ (e : ℕ × Process). e.1.instructions) es
sum-shown [] = refl
sum-shown (e ∷ es) =
    sum_by-cons (λ (e : ℕ × KernelProcess). e.1.instructions) (pair_of shown_process e) (map_list (pair_of shown_process) es)
    ∙ ap (λ k. e.1.instructions + k) (sum-shown es) ∙ sym (sum_by-cons (λ (e : ℕ × Process). e.1.instructions) e es)

module _ (n : KernelTables) (files : Files) where
  pub all_instructions : instructions_in_all (node_of n files) ≡ instructions_in n.processes.map
  unfolding node_of
  all_instructions =
      ap (λ (es : List (ℕ × KernelProcess)). sum_by (λ (e : ℕ × KernelProcess). e.1.instructions) es) (entries-each shown_process n.processes.map) ∙ sum-shown (entries n.processes.map)

  pub limit_is : (node_of n files).limit ≡ n.limit
  unfolding node_of
  limit_is = refl

  pub next_is : (node_of n files).next_number ≡ n.threads.threads.next
  unfolding node_of
  next_is = refl

pub cut_none : {V : Type 0} (m : Map V) (k : ℕ) → at m k ≡ None → cut m k ≡ m
cut_none m k e = same_rows (cut m k) m (λ q. at-cut m k q ∙ row q (q == k) refl)
  where
    row : (q : ℕ) (b : Bool) → (q == k) ≡ b → cond b None (at m q) ≡ at m q
    row q true h = let same : q ≡ k = grind (arith, nat_tests, h) in sym (ap (at m) same ∙ e)
    row q false h = refl

module _ (n : KernelTables) (files : Files) where
  pub thread_cut : (q : Spared Does) (t : ℕ) → q.threads ≡ without_thread t n.threads.threads → node_of (record n { threads = q }) files ≡ kernel_without_thread t (node_of n files)
  unfolding node_of
  thread_cut q t e =
      (λ i. record (node_of n files) { threads = shown_threads (λ (d : Does). d) (e i); next_number = (e i).next })
      ∙ ap (λ (m : Map KernelThread). record (node_of n files) { threads = m }) (each-cut shown_thread n.threads.threads.rows t)

  pub sleepers_are : (q : Queue) (f : List Sleeper → List Sleeper) → q.list ≡ f n.sleepers.list → node_of (record n { sleepers = q }) files ≡ record (node_of n files) { sleepers = f (node_of n files).sleepers }
  unfolding node_of
  sleepers_are q f e = ap (λ (xs : List Sleeper). record (node_of n files) { sleepers = xs }) e

  pub sleepers_shown : (node_of n files).sleepers ≡ n.sleepers.list
  unfolding node_of
  sleepers_shown = refl
