-- Rows of a node that pass a test.
use Rattle.file_model.specs.Files.{Files}
use Rattle.kernel_model.specs.CloneCalls.{any_selected, ended_child, is_selected, is_selected_end}
use Rattle.kernel_model.specs.Nodes.{Node as KernelNode, Sleeper, Thread as KernelThread, answered, is_called}
use Rattle.kernel_model.specs.LocalCalls.{wake_threads}
use Rattle.futex_queues.specs.Sleep.{thread_of}
use Rattle.kernel_tables.specs.Steps.{all_answered}
use Rattle.kernel_model.specs.Steps.{some_called}
use Rattle.kernel_model.specs.declared.Does.{Does}
use Rattle.kernel_tables.proofs.Rows.{shown_thread}
use Rattle.kernel_tables.specs.Shown.{node_of, shown_process}
use Rattle.kernel_tables.specs.declared.process_rows.Process.{Process}
use Rattle.kernel_tables.specs.declared.tables.KernelTables.{KernelTables}
use Rattle.lwk_threads.proofs.Showing.{entries-each, pair_of}
use Rattle.lwk_threads.specs.declared.Thread.{Thread}
use Rattle.mck_word.specs.Maps.{Map, at, each, entries, some_row}
use Rattle.std.proofs.Common.{ap, arith, inl, inr, refl, sym, ◌∙◌}
use Rattle.std.proofs.lemmas.Bool.{cases_lt, eq-eqb, or_right, true≢false}
use Rattle.std.specs.Cmp.{unsigned_tied}
use Rattle.std.specs.FinMap as finmap
use Rattle.std.specs.Ordering.{eq_by_cmp, nat_cmp}
use Rattle.std.specs.List.{list_any}
use Rattle.std.specs.Prelude.{Bool, List, None, Option, Some, [], cond, false, find, is_some, map, option_map, pos, true, ℕ, ℤ, ◌&&◌, ◌<◌, ◌==◌, ◌^◌, ◌||◌, ◌∷◌, ◌≡◌, ◌≤◌}

module _ {V W : Type 0} (f : V → W) (test : ℕ → W → Bool) where
  any-mapped : (es : List (ℕ × V)) → list_any (λ (e : ℕ × W). test e.0 e.1) (map (pair_of f) es) ≡ list_any (λ (e : ℕ × V). test e.0 (f e.1)) es
  any-mapped [] = refl
  any-mapped (e ∷ es) = ap (λ b. test e.0 (f e.1) || b) (any-mapped es)

  -- a row of the map as it is shown passes where one of the map does
  pub some-each : (m : Map V) → some_row test (each f m) ≡ list_any (λ (e : ℕ × V). test e.0 (f e.1)) (entries m)
  some-each m = ap (list_any (λ (e : ℕ × W). test e.0 e.1)) (entries-each f m) ∙ any-mapped (entries m)

pub called_shown : (n : KernelTables) (files : Files) (p : ℕ) → some_called (node_of n files) p ≡ list_any (λ (e : ℕ × Thread Does). e.1.pid.0 == p && is_called e.1.state) (entries n.threads.threads.rows)
unfolding node_of
called_shown n files p = some-each shown_thread (λ (t : ℕ) (x : KernelThread). x.process == p && is_called x.does) n.threads.threads.rows

module _ {V W : Type 0} (f : V → W) (test : ℕ → W → Bool) where
  found-mapped : (es : List (ℕ × V)) → option_map (λ (e : ℕ × W). e.0) (find (λ (e : ℕ × W). test e.0 e.1) (map (pair_of f) es)) ≡ option_map (λ (e : ℕ × V). e.0) (find (λ (e : ℕ × V). test e.0 (f e.1)) es)
  found-mapped [] = refl
  found-mapped (e ∷ es) = go (test e.0 (f e.1)) (found-mapped es)
    where
      go : (b : Bool) → option_map (λ (e : ℕ × W). e.0) (find (λ (e : ℕ × W). test e.0 e.1) (map (pair_of f) es)) ≡ option_map (λ (e : ℕ × V). e.0) (find (λ (e : ℕ × V). test e.0 (f e.1)) es)
          → option_map (λ (e : ℕ × W). e.0) (cond b (Some (pair_of f e)) (find (λ (e : ℕ × W). test e.0 e.1) (map (pair_of f) es))) ≡ option_map (λ (e : ℕ × V). e.0) (cond b (Some e) (find (λ (e : ℕ × V). test e.0 (f e.1)) es))
      go true k = refl
      go false k = k

  -- the first row of the map as it is shown that passes
  found-each : (m : Map V) → option_map (λ (e : ℕ × W). e.0) (find (λ (e : ℕ × W). test e.0 e.1) (entries (each f m))) ≡ option_map (λ (e : ℕ × V). e.0) (find (λ (e : ℕ × V). test e.0 (f e.1)) (entries m))
  found-each m = ap (λ (es : List (ℕ × W)). option_map (λ (e : ℕ × W). e.0) (find (λ (e : ℕ × W). test e.0 e.1) es)) (entries-each f m) ∙ found-mapped (entries m)

pub selected_shown : (n : KernelTables) (files : Files) (p : ℕ) (pid : ℤ) → any_selected (node_of n files) p pid ≡ list_any (λ (e : ℕ × Process). is_selected p pid e.0 (shown_process e.1)) (entries n.processes.map)
unfolding node_of
selected_shown n files p pid = some-each shown_process (is_selected p pid) n.processes.map

pub child_shown : (n : KernelTables) (files : Files) (p : ℕ) (pid : ℤ) → ended_child (node_of n files) p pid ≡ option_map (λ (e : ℕ × Process). e.0) (find (λ (e : ℕ × Process). is_selected_end p pid e.0 (shown_process e.1)) (entries n.processes.map))
unfolding node_of
child_shown n files p pid = found-each shown_process (is_selected_end p pid) n.processes.map

module _ {V : Type 0} (test : ℕ × V → Bool) (x : ℕ × V) where
  find-member : (es : List (ℕ × V)) → find test es ≡ Some x → list_any (eq_by_cmp nat_cmp x.0) (map (λ (e : ℕ × V). e.0) es) ≡ true
  find-member [] h = absurd (cc)
  find-member (e ∷ es) h = go (test e) h (λ k. find-member es k)
    where
      go : (b : Bool) → cond b (Some e) (find test es) ≡ Some x → (find test es ≡ Some x → list_any (eq_by_cmp nat_cmp x.0) (map (λ (e : ℕ × V). e.0) es) ≡ true) → (eq_by_cmp nat_cmp x.0 e.0 || list_any (eq_by_cmp nat_cmp x.0) (map (λ (e : ℕ × V). e.0) es)) ≡ true
      go true k rest = let same : e ≡ x = cc in let e2 : x.0 ≡ e.0 = sym (ap (λ (y : ℕ × V). y.0) same) in rw (unsigned_tied x.0 e.0, eq-eqb x.0 e.0 e2) refl
      go false k rest = or_right (eq_by_cmp nat_cmp x.0 e.0) (list_any (eq_by_cmp nat_cmp x.0) (map (λ (e : ℕ × V). e.0) es)) (rest k)

  -- a row that is found has a number of the map
  pub found_small : (m : Map V) → ((k : ℕ) → 2 ^ 32 ≤ k → at m k ≡ None) → find test (entries m) ≡ Some x → x.0 < 2 ^ 32
  found_small m small h = elim (cases_lt x.0 (2 ^ 32)) [
    | inl l ↦ l
    | inr u ↦ absurd (true≢false (sym (finmap.contains_key-keys m x.0 ∙ find-member (entries m) h) ∙ ap is_some (small x.0 u)))
  ]

pub answered_as_woken : (ss : List Sleeper) (node : KernelNode) → all_answered (map thread_of ss) node ≡ wake_threads ss node
answered_as_woken [] node = refl
answered_as_woken (s ∷ ss) node = answered_as_woken ss (answered s.thread (pos 0) node)

module _ (p : ℕ) (pid : ℤ) where
  abbrev pub ended : ℕ × Process → Bool
  ended e = is_selected_end p pid e.0 (shown_process e.1)

  pub child_small : (m : Map Process) (k : ℕ) → ((q : ℕ) → 2 ^ 32 ≤ q → at m q ≡ None) → Some k ≡ option_map (λ (e : ℕ × Process). e.0) (find ended (entries m)) → k < 2 ^ 32
  child_small m k small e = go (find ended (entries m)) refl e
    where
      go : (o : Option (ℕ × Process)) → find ended (entries m) ≡ o → Some k ≡ option_map (λ (e : ℕ × Process). e.0) o → k < 2 ^ 32
      go None f g = absurd (cc)
      go (Some x) f g = let low = found_small ended x m small f in let same : k ≡ x.0 = cc in omega (arith, low, same)
