-- What each change of the node keeps: one lemma for each of the few words by which calls and signals change it.
use Rattle.file_model.specs.Errno.{EINTR, EPIPE}
use Rattle.hybrid_laws.proofs.node.Keeps.{Keeps, Keeps-same, Keeps-then, ThreadKeeps, thread-same}
use Rattle.hybrid_model.specs.Tallies.{Each}
use Rattle.kernel_model.specs.LocalCalls.{wake_threads}
use Rattle.kernel_model.specs.Nodes.{Node, Process, Sleeper, Thread, answered, change_process, change_thread, dies, is_called, is_living, no_process, process_of, sent_back, set_a0, set_does, set_pc, thread_of, without_sleeper, without_thread}
use Rattle.kernel_model.specs.SignalSets.{with_signal, without_signal, has}
use Rattle.kernel_model.specs.Signals.{drop_ignored, generate_for_process, generate_for_thread, ignores, moved_to_own, next_signal, raised, taken, with_action}
use Rattle.kernel_model.specs.Traps.{called_back, finishes, is_error, returns}
use Rattle.kernel_model.specs.declared.Action.{Action}
use Rattle.kernel_model.specs.declared.Does.TheVariants.{Ready}
use Rattle.kernel_model.specs.declared.Does.{Does}
use Rattle.mck_word.specs.MapLaws.{at-collect, at-cut, at-put}
use Rattle.mck_word.specs.Maps.{Map, and_then, at, change, change_row, put}
use Rattle.mck_word.specs.Words.{word_of}
use Rattle.mck_word.specs.declared.End.TheVariants.{Killed}
use Rattle.mck_word.specs.declared.End.{End}
use Rattle.std.proofs.Common.{ap, arith, refl, subst, sym, ◌∙◌}
use Rattle.std.proofs.lemmas.Bool.Decides.{nat_tests}
use Rattle.std.specs.Prelude.{Bool, List, None, Option, Some, [], cond, false, option_map, pos, slice_set, true, unwrap_or, ℕ, ℤ, ◌+◌, ◌-◌, ◌==◌, ◌^◌, ◌||◌, ◌∷◌, ◌≡◌}

pub at-change : {V : Type 0} (m : Map V) (k : ℕ) (f : V → V) (j : ℕ) → at (change m k f) j ≡ cond (j == k) (option_map f (at m k)) (at m j)
at-change m k f j = go (at m k) refl (j == k) refl
  where
    go : (o : Option _) → at m k ≡ o → (b : Bool) → (j == k) ≡ b → at (change_row m k f o) j ≡ cond b (option_map f o) (at m j)
    go None e true g = let h : j ≡ k = grind (arith, nat_tests, g) in ap (at m) h ∙ e
    go None e false g = refl
    go (Some v) e b g = at-put m k (f v) j ∙ ap (λ c. cond c (Some (f v)) (at m j)) g

-- ---- one row

-- a free thread changes: it stays in its process, and is not Called unless it was
pub record FreeChange (p : ℕ) (f : Thread → Thread) (o : Option Thread) : Type 0 where
  pub process : (x : Thread) → o ≡ Some x → (f x).process ≡ p → x.process ≡ p
  pub called : (x : Thread) → o ≡ Some x → is_called (f x).does ≡ true → is_called x.does ≡ true

row-free : (p : ℕ) (f : Thread → Thread) (o : Option Thread) → FreeChange p f o → ThreadKeeps p true o (option_map f o)
row-free p f None h = record { kept = λ x e m n k. absurd (grind (arith, n)); called = λ y e m k. absurd (grind (arith, e)) }
row-free p f (Some z) h = record {
  kept = λ x e m n k. absurd (grind (arith, n));
  called = λ y e m k.
      let g : f z ≡ y = cc in
      (z, refl, h.process z refl (ap (λ (w : Thread). w.process) g ∙ m), h.called z refl (ap (λ (w : Thread). is_called w.does) g ∙ k));
}

-- a thread keeps process, place and doing
pub record Quiet (f : Thread → Thread) : Type 0 where
  pub process : (x : Thread) → (f x).process ≡ x.process
  pub place : (x : Thread) → (f x).place ≡ x.place
  pub does : (x : Thread) → (f x).does ≡ x.does

row-quiet : (p : ℕ) (free : Bool) (f : Thread → Thread) (o : Option Thread) → Quiet f → ThreadKeeps p free o (option_map f o)
row-quiet p free f None h = record { kept = λ x e m n k. absurd (grind (arith, e)); called = λ y e m k. absurd (grind (arith, e)) }
row-quiet p free f (Some z) h = record {
  kept = λ x e m n k.
      let g : z ≡ x = cc in
      (f z, refl, h.process z ∙ ap (λ (w : Thread). w.process) g ∙ m, h.place z ∙ ap (λ (w : Thread). w.place) g, h.does z ∙ ap (λ (w : Thread). w.does) g);
  called = λ y e m k.
      let g : f z ≡ y = cc in
      (z, refl, sym (h.process z) ∙ ap (λ (w : Thread). w.process) g ∙ m, ap is_called (sym (h.does z)) ∙ ap (λ (w : Thread). is_called w.does) g ∙ k);
}

pub row-gone : (p : ℕ) (o : Option Thread) → ThreadKeeps p true o None
row-gone p o = record { kept = λ x e m n k. absurd (grind (arith, n)); called = λ y e m k. absurd (grind (arith, e)) }

-- ---- the node

-- a process changes, and the base of its heap stays
abbrev pub SameHeap : (Process → Process) → Type 0
SameHeap f = (x : Process) → (f x).heap_base ≡ x.heap_base

module _ (p : ℕ) (free : ℕ → Bool) where
  pub same-node : (node : Node) → Keeps p free node node
  same-node node = Keeps-same p free node node refl refl

  pub then : {a b c : Node} → Keeps p free a b → Keeps p free b c → Keeps p free a c
  then {a} {b} {c} k l = Keeps-then p free a b c k l

  pub either : {a x y : Node} (b : Bool) → Keeps p free a x → Keeps p free a y → Keeps p free a (cond b x y)
  either true k l = k
  either false k l = l

  row-at : (m : Map Thread) (t : ℕ) (f : Thread → Thread) → ThreadKeeps p (free t) (at m t) (option_map f (at m t)) → (u : ℕ) → ThreadKeeps p (free u) (at m u) (at (change m t f) u)
  row-at m t f h u = subst (ThreadKeeps p (free u) (at m u)) (sym (at-change m t f u)) (go (u == t) refl)
    where
      go : (b : Bool) → (u == t) ≡ b → ThreadKeeps p (free u) (at m u) (cond b (option_map f (at m t)) (at m u))
      go true e = let g : u ≡ t = grind (arith, nat_tests, e) in rw g h
      go false e = thread-same p (free u) (at m u) (at m u) refl

  pub change-free : (node : Node) (t : ℕ) (f : Thread → Thread) → free t ≡ true → FreeChange p f (at node.threads t) → Keeps p free node (change_thread t f node)
  change-free node t f e h = record { threads = row-at node.threads t f (rw e (row-free p f (at node.threads t) h)); heap = refl }

  pub change-quiet : (node : Node) (t : ℕ) (f : Thread → Thread) → Quiet f → Keeps p free node (change_thread t f node)
  change-quiet node t f h = record { threads = row-at node.threads t f (row-quiet p (free t) f (at node.threads t) h); heap = refl }

  pub change-heap : (node : Node) (q : ℕ) (f : Process → Process) → SameHeap f → Keeps p free node (change_process q f node)
  change-heap node q f h = record {
    threads = λ u. thread-same p (free u) (at node.threads u) (at node.threads u) refl;
    heap = ap (λ (o : Option Process). (unwrap_or o no_process).heap_base) (at-change node.processes q f p) ∙ go (p == q) refl (at node.processes q) refl;
  }
    where
      go : (b : Bool) → (p == q) ≡ b → (o : Option Process) → at node.processes q ≡ o → (unwrap_or (cond b (option_map f o) (at node.processes p)) no_process).heap_base ≡ (process_of node p).heap_base
      go true e None k = let g : p ≡ q = grind (arith, nat_tests, e) in rw (g, k) refl
      go true e (Some x) k = let g : p ≡ q = grind (arith, nat_tests, e) in rw (g, k) (h x)
      go false e o k = refl

  pub without-free : (node : Node) (t : ℕ) → free t ≡ true → Keeps p free node (without_thread t node)
  without-free node t e = record { threads = λ u. subst (ThreadKeeps p (free u) (at node.threads u)) (sym (at-cut node.threads t u)) (go u (u == t) refl); heap = refl }
    where
      go : (u : ℕ) (b : Bool) → (u == t) ≡ b → ThreadKeeps p (free u) (at node.threads u) (cond b None (at node.threads u))
      go u true k = let g : u ≡ t = grind (arith, nat_tests, k) in rw (g, e) (row-gone p (at node.threads t))
      go u false k = thread-same p (free u) (at node.threads u) (at node.threads u) refl

  -- a thread that is new
  pub put-new : (m : Map Thread) (n : ℕ) (x : Thread) → at m n ≡ None → is_called x.does ≡ false → (u : ℕ) → ThreadKeeps p (free u) (at m u) (at (put m n x) u)
  put-new m n x none e u = subst (ThreadKeeps p (free u) (at m u)) (sym (at-put m n x u)) (go (u == n) refl)
    where
      fresh : ThreadKeeps p (free u) None (Some x)
      fresh = record { kept = λ z f j l k. absurd (grind (arith, f)); called = λ y f j k. (let g : x ≡ y = cc in absurd (let z = sym e ∙ ap (λ (w : Thread). is_called w.does) g ∙ k in grind (arith, z))) }

      go : (b : Bool) → (u == n) ≡ b → ThreadKeeps p (free u) (at m u) (cond b (Some x) (at m u))
      go true k = let g : u ≡ n = grind (arith, nat_tests, k) in rw (g, none) (rw g at fresh)
      go false k = thread-same p (free u) (at m u) (at m u) refl

  -- a thread's doing anew, which is not Called
  pub does-free : (node : Node) (t : ℕ) (d : Does) → free t ≡ true → is_called d ≡ false → Keeps p free node (set_does t d node)
  does-free node t d e n = change-free node t (λ x. record x { does = d }) e (record { process = λ x f k. k; called = λ x f k. absurd (grind (arith, n, k)) })

  pub answered-free : (node : Node) (t : ℕ) (a : ℤ) → free t ≡ true → Keeps p free node (answered t a node)
  answered-free node t a e = change-free node t (λ x. record x { regs = set_a0 (word_of a) x.regs; does = Ready }) e (record { process = λ x f k. k; called = λ x f k. absurd (grind (arith, k)) })

  pub sent_back-free : (node : Node) (t : ℕ) → free t ≡ true → Keeps p free node (sent_back t node)
  sent_back-free node t e = change-free node t (λ x. record x { regs = set_pc (x.regs.pc + (2 ^ 64 - 4)) x.regs; back = true; does = Ready }) e (record { process = λ x f k. k; called = λ x f k. absurd (grind (arith, k)) })

  -- ---- signals
  pub for_process-keeps : (node : Node) (q signal : ℕ) → Keeps p free node (generate_for_process q signal node)
  for_process-keeps node q signal = either (ignores (process_of node q) signal) (same-node node) (change-heap node q (λ x. record x { pending = with_signal signal x.pending }) (λ x. refl))

  pub for_thread-keeps : (node : Node) (t signal : ℕ) → Keeps p free node (generate_for_thread t signal node)
  for_thread-keeps node t signal = either (ignores (process_of node (thread_of node t).process) signal) (same-node node)
      (change-quiet node t (λ x. record x { pending = with_signal signal x.pending }) (record { process = λ x. refl; place = λ x. refl; does = λ x. refl }))

  pub taken-keeps : (node : Node) (t signal : ℕ) → Keeps p free node (taken t signal node)
  taken-keeps node t signal = either (has signal (thread_of node t).pending)
      (change-quiet node t (λ y. record y { pending = without_signal signal y.pending }) (record { process = λ x. refl; place = λ x. refl; does = λ x. refl }))
      (change-heap node (thread_of node t).process (λ x. record x { pending = without_signal signal x.pending }) (λ x. refl))

  pub moved-keeps : (node : Node) (t : ℕ) → Keeps p free node (moved_to_own t node)
  moved-keeps node t = go (next_signal node t)
    where
      go : (o : Option ℕ) → Keeps p free node (elim o [ None ↦ node | Some signal ↦ change_thread t (λ (y : Thread). record y { pending = with_signal signal y.pending }) (taken t signal node) ])
      go None = same-node node
      go (Some signal) = then (taken-keeps node t signal) (change-quiet (taken t signal node) t (λ y. record y { pending = with_signal signal y.pending }) (record { process = λ x. refl; place = λ x. refl; does = λ x. refl }))

  pub dies-keeps : (node : Node) (q : ℕ) (end : End) → Keeps p free node (change_process q (dies end) node)
  dies-keeps node q end = change-heap node q (dies end) (λ x. refl)

  pub raised-free : (node : Node) (t signal : ℕ) → free t ≡ true → Keeps p free node (raised t signal node)
  raised-free node t signal e = either (has signal (thread_of node t).mask || ignores (process_of node (thread_of node t).process) signal)
      (then (does-free node t Ready e refl) (dies-keeps (set_does t Ready node) (thread_of node t).process (Killed signal)))
      (change-free node t (λ y. record y { pending = with_signal signal y.pending; does = Ready }) e (record { process = λ x f k. k; called = λ x f k. absurd (grind (arith, k)) }))

  -- pending signals that are ignored from now on are dropped
  pub drop_ignored-keeps : (node : Node) (q signal : ℕ) → Keeps p free node (drop_ignored q signal node)
  drop_ignored-keeps node q signal = either (ignores (process_of node q) signal)
      (then (change-heap node q less (λ x. refl)) (record { threads = λ u. subst (ThreadKeeps p (free u) (at node.threads u)) (sym (at-collect (λ k v. Some (dropped v)) node.threads u)) (go u (at node.threads u)); heap = refl }))
      (same-node node)
    where
      less : Process → Process
      less x = record x { pending = without_signal signal x.pending }

      dropped : Thread → Thread
      dropped y = cond (y.process == q) (record y { pending = without_signal signal y.pending }) y

      split : (b : Bool) (y : Thread) → ((cond b (record y { pending = without_signal signal y.pending }) y).process ≡ y.process) × ((cond b (record y { pending = without_signal signal y.pending }) y).place ≡ y.place) × ((cond b (record y { pending = without_signal signal y.pending }) y).does ≡ y.does)
      split true y = (refl, refl, refl)
      split false y = (refl, refl, refl)

      quiet : Quiet dropped
      quiet = record { process = λ y. (split (y.process == q) y).0; place = λ y. (split (y.process == q) y).1; does = λ y. (split (y.process == q) y).2 }

      mapped : (o : Option Thread) → and_then o (λ v. Some (dropped v)) ≡ option_map dropped o
      mapped None = refl
      mapped (Some y) = refl

      go : (u : ℕ) (o : Option Thread) → ThreadKeeps p (free u) o (and_then o (λ v. Some (dropped v)))
      go u o = subst (ThreadKeeps p (free u) o) (sym (mapped o)) (row-quiet p (free u) dropped o quiet)

  pub with_action-keeps : (node : Node) (q signal : ℕ) (a : Action) → Keeps p free node (with_action q signal a node)
  with_action-keeps node q signal a = change-heap node q (λ x. record x { actions = slice_set x.actions (signal - 1) a }) (λ x. refl)

  -- ---- answers that come later
  pub returns-free : (node : Node) (t : ℕ) (a : ℤ) → free t ≡ true → Keeps p free node (returns t a node)
  unfolding returns
  returns-free node t a e = either (is_living node (thread_of node t).process)
      (either (is_error EINTR a) (sent_back-free node t e)
      (either (is_error EPIPE a) (then (answered-free node t a e) (for_thread-keeps (answered t a node) t 13)) (answered-free node t a e)))
      (without-free node t e)

  pub finishes-free : (node : Node) (t : ℕ) (a : ℤ) → free t ≡ true → Keeps p free node (finishes t a node)
  unfolding finishes
  finishes-free node t a e = either (is_living node (thread_of node t).process) (answered-free node t a e) (without-free node t e)

  pub called_back-free : (node : Node) (t : ℕ) → free t ≡ true → Keeps p free node (called_back t node)
  unfolding called_back
  called_back-free node t e = then (Keeps-same p free node (without_sleeper t node) refl refl) (sent_back-free (without_sleeper t node) t e)

  -- ---- wake: the sleepers' threads are free
  pub woken-free : (ss : List Sleeper) (node : Node) → Each (λ (s : Sleeper). free s.thread ≡ true) ss → Keeps p free node (wake_threads ss node)
  woken-free [] node h = same-node node
  woken-free (s ∷ ss) node h = then (answered-free node s.thread (pos 0) h.0) (woken-free ss (answered s.thread (pos 0) node) h.1)
