-- What is left to do for threads and processes, through each of the few words by which calls and signals change a node.
use Rattle.hybrid_laws.proofs.maps.Sums.{counted_in, total-cut, total-le, total-put}
use Rattle.kernel_model.specs.LocalCalls.{falls_asleep, is_waiter, waiters, wake, wake_threads}
use Rattle.kernel_model.specs.Nodes.{Node, Process, Sleeper, Thread, answered, change_process, change_thread, dies, dies_from, has_ended, sent_back, set_a0, set_does, set_pc, without_thread, process_of, thread_of, process_of}
use Rattle.kernel_model.specs.SignalSets.{has, with_signal, without_signal}
use Rattle.kernel_model.specs.Signals.{drop_ignored, generate_for_process, generate_for_thread, ignores, raised}
use Rattle.kernel_model.specs.declared.Does.TheVariants.{Asleep, Ready}
use Rattle.kernel_model.specs.declared.Does.{Does}
use Rattle.kernel_model.specs.declared.Life.TheVariants.{Dying, Ended, Living}
use Rattle.kernel_model.specs.declared.Life.{Life}
use Rattle.mck_word.specs.MapLaws.{at-collect}
use Rattle.mck_word.specs.Maps.{Map, and_then, at, change, change_row, each, total}
use Rattle.mck_word.specs.Words.{word_of}
use Rattle.mck_word.specs.declared.End.TheVariants.{Killed}
use Rattle.mck_word.specs.declared.End.{End}
use Rattle.std.proofs.Common.{ap, arith, refl, ◌∙◌}
use Rattle.std.specs.Prelude.{Bool, List, None, Option, Some, [], cond, false, filter, not, pos, take, true, ℕ, ℤ, ◌+◌, ◌-◌, ◌==◌, ◌^◌, ◌∷◌, ◌≡◌, ◌≤◌, ◌||◌}
use Rattle.work_laws.proofs.node.Signals.{with-most, without-most}
use Rattle.work_laws.specs.KernelLeft.{Prices, node_left, of_does, of_process, of_thread}
use Rattle.work_laws.specs.SignalCount.{signals}

-- ---- a row that changes
module _ {V : Type 0} (f : V → ℕ) (m : Map V) (k : ℕ) (g : V → V) where
  pub total-change : (c : ℕ) → ((v : V) → f (g v) ≤ f v + c) → total f (change m k g) ≤ total f m + c
  total-change c h = go (at m k) refl
    where
      go : (o : Option V) → at m k ≡ o → total f (change_row m k g o) ≤ total f m + c
      go None e = omega arith
      go (Some v) e =
          let a = total-put f m k (g v) in
          let b = ap (counted_in f) e in
          let d = h v in
          omega (arith, a, b, d)

  -- where the row is known
  pub total-changed : (v : V) → at m k ≡ Some v → total f (change m k g) + f v ≡ total f m + f (g v)
  total-changed v e =
      let a = total-put f m k (g v) in
      let b = ap (counted_in f) e in
      let c = ap (λ o. total f (change_row m k g o)) e in
      omega (arith, a, b, c)

pub total-each : {V : Type 0} (f : V → ℕ) (m : Map V) (g : V → V) → ((v : V) → f (g v) ≤ f v) → total f (each g m) ≤ total f m
total-each f m g h = total-le f (each g m) m (λ k. (let a = ap (counted_in f) (at-collect (λ j v. Some (g v)) m k) in let b = row (at m k) in omega (arith, a, b)))
  where
    row : (o : Option _) → counted_in f (and_then o (λ v. Some (g v))) ≤ counted_in f o
    row None = omega arith
    row (Some v) = h v

-- ---- from one node to another: so much more at most, and the files stay
pub record Adds (k : Prices) (c : ℕ) (a b : Node) : Type 0 where
  pub less : node_left k b ≤ node_left k a + c
  pub files : b.files ≡ a.files

module _ (k : Prices) where
  pub adds-none : (a : Node) → Adds k 0 a a
  adds-none a = record { less = omega arith; files = refl }

  pub adds-then : (a b d : Node) (m n : ℕ) → Adds k m a b → Adds k n b d → Adds k (m + n) a d
  adds-then a b d m n f g = record { less = (let x = f.less in let y = g.less in omega (arith, x, y)); files = g.files ∙ f.files }

  pub adds-more : (a b : Node) (m n : ℕ) → m ≤ n → Adds k m a b → Adds k n a b
  adds-more a b m n l f = record { less = (let x = f.less in omega (arith, x, l)); files = f.files }

  pub thread-adds : (a : Node) (t : ℕ) (f : Thread → Thread) (c : ℕ) → ((x : Thread) → of_thread k.change (f x) ≤ of_thread k.change x + c) → Adds k c a (change_thread t f a)
  thread-adds a t f c h = record { less = (let x = total-change (of_thread k.change) a.threads t f c h in omega (arith, x)); files = refl }

  pub process-adds : (a : Node) (q : ℕ) (f : Process → Process) (c : ℕ) → ((x : Process) → of_process k.process (f x) ≤ of_process k.process x + c) → Adds k c a (change_process q f a)
  process-adds a q f c h = record { less = (let x = total-change (of_process k.process) a.processes q f c h in omega (arith, x)); files = refl }

  pub answered-adds : (a : Node) (t : ℕ) (answer : ℤ) → Adds k 0 a (answered t answer a)
  answered-adds a t answer = thread-adds a t (λ x. record x { regs = set_a0 (word_of answer) x.regs; does = Ready }) 0 (λ x. omega arith)

  pub sent_back-adds : (a : Node) (t : ℕ) → Adds k 0 a (sent_back t a)
  sent_back-adds a t = thread-adds a t (λ x. record x { regs = set_pc (x.regs.pc + (2 ^ 64 - 4)) x.regs; back = true; does = Ready }) 0 (λ x. omega arith)

  pub does-adds : (a : Node) (t : ℕ) (d : Does) → Adds k (of_does k.change d) a (set_does t d a)
  does-adds a t d = thread-adds a t (λ x. record x { does = d }) (of_does k.change d) (λ x. omega arith)

  pub gone-adds : (a : Node) (t : ℕ) → Adds k 0 a (without_thread t a)
  gone-adds a t = record { less = (let x = total-cut (of_thread k.change) a.threads t in omega (arith, x)); files = refl }

  -- ---- lives
  pub dies-ended : (e : End) (l : Life) → has_ended (dies_from e l) ≡ has_ended l
  dies-ended e Living = refl
  dies-ended e (Dying d) = refl
  dies-ended e (Ended d) = refl

  pub dies-adds : (a : Node) (q : ℕ) (e : Process → End) → Adds k 0 a (change_process q (λ x. dies (e x) x) a)
  dies-adds a q e = process-adds a q (λ x. dies (e x) x) 0 (λ x. (let b = ap (λ b. cond b 0 k.process + signals x.pending) (dies-ended (e x) x.life) in omega (arith, b)))

  -- ---- signals
  pub for_process-adds : (a : Node) (q signal : ℕ) → Adds k 1 a (generate_for_process q signal a)
  for_process-adds a q signal = go (ignores (process_of a q) signal)
    where
      go : (b : Bool) → Adds k 1 a (cond b a (change_process q (λ (x : Process). record x { pending = with_signal signal x.pending }) a))
      go true = adds-more a a 0 1 (omega arith) (adds-none a)
      go false = process-adds a q (λ x. record x { pending = with_signal signal x.pending }) 1 (λ x. (let m = with-most signal x.pending in omega (arith, m)))

  pub for_thread-adds : (a : Node) (t signal : ℕ) → Adds k 1 a (generate_for_thread t signal a)
  for_thread-adds a t signal = go (ignores (process_of a (thread_of a t).process) signal)
    where
      go : (b : Bool) → Adds k 1 a (cond b a (change_thread t (λ (x : Thread). record x { pending = with_signal signal x.pending }) a))
      go true = adds-more a a 0 1 (omega arith) (adds-none a)
      go false = thread-adds a t (λ x. record x { pending = with_signal signal x.pending }) 1 (λ x. (let m = with-most signal x.pending in omega (arith, m)))

  pub raised-adds : (a : Node) (t signal : ℕ) → Adds k 1 a (raised t signal a)
  raised-adds a t signal = go (has signal (thread_of a t).mask || ignores (process_of a (thread_of a t).process) signal)
    where
      go : (b : Bool) → Adds k 1 a (cond b (change_process (thread_of a t).process (dies (Killed signal)) (set_does t Ready a)) (change_thread t (λ (y : Thread). record y { pending = with_signal signal y.pending; does = Ready }) a))
      go true = adds-more a _ 0 1 (omega arith) (adds-then a (set_does t Ready a) _ 0 0 (does-adds a t Ready) (dies-adds (set_does t Ready a) (thread_of a t).process (λ x. Killed signal)))
      go false = thread-adds a t (λ y. record y { pending = with_signal signal y.pending; does = Ready }) 1 (λ x. (let m = with-most signal x.pending in omega (arith, m)))

  pub ignored-adds : (a : Node) (q signal : ℕ) → Adds k 0 a (drop_ignored q signal a)
  ignored-adds a q signal = go (ignores (process_of a q) signal)
    where
      without : Thread → Thread
      without y = cond (y.process == q) (record y { pending = without_signal signal y.pending }) y

      row : (y : Thread) (b : Bool) → of_thread k.change (cond b (record y { pending = without_signal signal y.pending }) y) ≤ of_thread k.change y
      row y true = let m = without-most signal y.pending in omega (arith, m)
      row y false = omega arith

      go : (b : Bool) → Adds k 0 a (cond b (record (change_process q (λ (x : Process). record x { pending = without_signal signal x.pending }) a) { threads = each without a.threads }) a)
      go false = adds-none a
      go true = record {
        less =
            let x = total-change (of_process k.process) a.processes q (λ x. record x { pending = without_signal signal x.pending }) 0 (λ x. (let m = without-most signal x.pending in omega (arith, m))) in
            let y = total-each (of_thread k.change) a.threads without (λ y. row y (y.process == q)) in
            omega (arith, x, y);
        files = refl;
      }

  -- ---- sleepers
  woken-adds : (ss : List Sleeper) (a : Node) → Adds k 0 a (wake_threads ss a)
  woken-adds [] a = adds-none a
  woken-adds (s ∷ ss) a = adds-then a (answered s.thread (pos 0) a) _ 0 0 (answered-adds a s.thread (pos 0)) (woken-adds ss (answered s.thread (pos 0) a))

  pub wake-adds : (a : Node) (process address n : ℕ) → Adds k 0 a (wake process address n a)
  wake-adds a process address n =
      let woken = take n (waiters a process address) in
      let begun : Node = record a { sleepers = filter (λ s. not (is_waiter woken s)) a.sleepers } in
      let w = woken-adds woken begun in
      record { less = (let x = w.less in omega (arith, x)); files = w.files }

  pub falls-adds : (a : Node) (t address : ℕ) → Adds k 1 a (falls_asleep t address a)
  falls-adds a t address = record { less = (let x = total-change (of_thread k.change) a.threads t (λ x. record x { does = Asleep address }) 1 (λ x. omega arith) in omega (arith, x)); files = refl }
