-- What a node shows after a pass over its threads.
use Rattle.file_model.specs.Files.{Files}
use Rattle.kernel_model.specs.Nodes.{Thread as KernelThread}
use Rattle.kernel_model.specs.declared.Does.{Does}
use Rattle.kernel_tables.proofs.Rows.{shown_thread}
use Rattle.kernel_tables.specs.Shown.{node_of}
use Rattle.kernel_tables.specs.declared.tables.KernelTables.{KernelTables}
use Rattle.lwk_threads.specs.Shown.{shown_threads}
use Rattle.lwk_threads.specs.Threads.{Spared}
use Rattle.lwk_threads.specs.declared.Thread.{Thread}
use Rattle.mck_word.specs.EachLaws.{at-each}
use Rattle.mck_word.specs.MapLaws.{at-collect, same_rows}
use Rattle.mck_word.specs.Maps.{Map, and_then, at, collect, each}
use Rattle.std.proofs.Common.{ap, refl, sym, ◌∙◌}
use Rattle.std.specs.Prelude.{None, Option, Some, option_map, ℕ, ◌≡◌}

module _ {V W : Type 0} (f : V → W) (h : V → Option V) (g : W → Option W) (e : (x : V) → option_map f (h x) ≡ g (f x)) where
  of-row : (o : Option V) → option_map f (and_then o h) ≡ and_then (option_map f o) g
  of-row None = refl
  of-row (Some x) = e x

  pub each-collect : (m : Map V) → each f (collect (λ (k : ℕ) x. h x) m) ≡ collect (λ (k : ℕ) x. g x) (each f m)
  each-collect m = same_rows _ _ (λ q.
      at-each f (collect (λ (k : ℕ) x. h x) m) q ∙ ap (option_map f) (at-collect (λ (k : ℕ) x. h x) m q) ∙ of-row (at m q)
      ∙ ap (λ o. and_then o g) (sym (at-each f m q)) ∙ sym (at-collect (λ (k : ℕ) x. g x) (each f m) q))

module _ (n : KernelTables) (files : Files) (h : Thread Does → Option (Thread Does)) (g : KernelThread → Option KernelThread) (e : (x : Thread Does) → option_map shown_thread (h x) ≡ g (shown_thread x)) where
  pub threads_collected : (q : Spared Does) → q.threads ≡ record n.threads.threads { rows = collect (λ (k : ℕ) (x : Thread Does). h x) n.threads.threads.rows }
      → node_of (record n { threads = q }) files ≡ record (node_of n files) { threads = collect (λ (k : ℕ) (x : KernelThread). g x) (node_of n files).threads }
  unfolding node_of
  threads_collected q is =
      (λ i. record (node_of n files) { threads = shown_threads (λ (d : Does). d) (is i); next_number = (is i).next })
      ∙ ap (λ (m : Map KernelThread). record (node_of n files) { threads = m }) (each-collect shown_thread h g e n.threads.threads.rows)
