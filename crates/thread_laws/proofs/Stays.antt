-- Words on a node that leave each thread in its process, and those that may end the one thread.
use Rattle.hybrid_laws.proofs.calls.Closed.{Closed}
use Rattle.hybrid_laws.proofs.node.Primitives.{at-change}
use Rattle.hybrid_model.specs.Events.{of_thread}
use Rattle.kernel_model.specs.LocalCalls.{falls_asleep, is_waiter, waiters, wake, wake_threads}
use Rattle.kernel_model.specs.Nodes.{Node, Process, Sleeper, Thread, answered, change_process, change_thread, has_thread, no_thread, process_of, set_a0, without_thread}
use Rattle.kernel_model.specs.SignalSets.{with_signal, without_signal}
use Rattle.kernel_model.specs.Signals.{drop_ignored, generate_for_process, generate_for_thread, ignores}
use Rattle.kernel_model.specs.declared.Does.TheVariants.{Asleep, Ready}
use Rattle.mck_word.specs.EachLaws.{at-each}
use Rattle.mck_word.specs.Lists.{without}
use Rattle.mck_word.specs.MapLaws.{at-cut}
use Rattle.mck_word.specs.Maps.{at, each}
use Rattle.mck_word.specs.Words.{word_of}
use Rattle.std.proofs.Common.{ap, arith, refl, sym, ◌∙◌}
use Rattle.std.proofs.lemmas.Bool.Decides.{nat_tests}
use Rattle.std.specs.Prelude.{Bool, List, None, Option, Some, [], cond, false, is_some, option_map, pos, take, true, unwrap_or, ℕ, ◌==◌, ◌∷◌, ◌≡◌}
use Rattle.thread_laws.proofs.Members.{OnlyOwn}
use Rattle.thread_laws.specs.Members.{SameThreads, StaysOrGoes, process_at, process_in}

pub joined-same : (a b c : Node) → SameThreads a b → SameThreads b c → SameThreads a c
joined-same a b c f g u = g u ∙ f u

pub either-same : (a x y : Node) (b : Bool) → SameThreads a x → SameThreads a y → SameThreads a (cond b x y)
either-same a x y true f g = f
either-same a x y false f g = g

-- ---- one thread changed
row-same : (f : Thread → Thread) (o : Option Thread) → ((x : Thread) → (f x).process ≡ x.process) → process_in (option_map f o) ≡ process_in o
row-same f None h = refl
row-same f (Some x) h = ap Some (h x)

pub changed-same : (a : Node) (t : ℕ) (f : Thread → Thread) → ((x : Thread) → (f x).process ≡ x.process) → SameThreads a (change_thread t f a)
changed-same a t f h u = ap process_in (at-change a.threads t f u) ∙ go (u == t) refl
  where
    go : (b : Bool) → (u == t) ≡ b → process_in (cond b (option_map f (at a.threads t)) (at a.threads u)) ≡ process_in (at a.threads u)
    go true e = let g : u ≡ t = grind (arith, nat_tests, e) in rw g (row-same f (at a.threads t) h)
    go false e = refl

-- the process of a thread, 0 where it isn't there
pub of_thread-is : (a : Node) (t : ℕ) → of_thread a t ≡ unwrap_or (process_at a t) 0
of_thread-is a t = go (at a.threads t)
  where
    go : (o : Option Thread) → (unwrap_or o no_thread).process ≡ unwrap_or (process_in o) 0
    go None = refl
    go (Some x) = refl

pub same-process : (a b : Node) (t : ℕ) → SameThreads a b → of_thread b t ≡ of_thread a t
same-process a b t f = of_thread-is b t ∙ ap (λ (o : Option ℕ). unwrap_or o 0) (f t) ∙ sym (of_thread-is a t)

-- ---- signals
pub for_process-same : (a : Node) (q signal : ℕ) → SameThreads a (generate_for_process q signal a)
for_process-same a q signal = either-same a a (change_process q (λ (x : Process). record x { pending = with_signal signal x.pending }) a) (ignores (process_of a q) signal) (λ u. refl) (λ u. refl)

pub for_thread-same : (a : Node) (t signal : ℕ) → SameThreads a (generate_for_thread t signal a)
for_thread-same a t signal = either-same a a (change_thread t (λ (x : Thread). record x { pending = with_signal signal x.pending }) a) (ignores (process_of a (of_thread a t)) signal) (λ u. refl) (changed-same a t (λ (x : Thread). record x { pending = with_signal signal x.pending }) (λ x. refl))

module _ (a : Node) (q signal : ℕ) where
  abbrev less : Thread → Thread
  less y = cond (y.process == q) (record y { pending = without_signal signal y.pending }) y

  less-same : (b : Bool) (y : Thread) → (cond b (record y { pending = without_signal signal y.pending }) y).process ≡ y.process
  less-same true y = refl
  less-same false y = refl

  pub dropped-same : SameThreads a (drop_ignored q signal a)
  dropped-same u = go (ignores (process_of a q) signal)
    where
      go : (b : Bool) → process_at (cond b (record (change_process q (λ (x : Process). record x { pending = without_signal signal x.pending }) a) { threads = each less a.threads }) a) u ≡ process_at a u
      go true = ap process_in (at-each less a.threads u) ∙ row-same less (at a.threads u) (λ y. less-same (y.process == q) y)
      go false = refl

-- ---- waking
woken-same : (ss : List Sleeper) (a : Node) → SameThreads a (wake_threads ss a)
woken-same [] a u = refl
woken-same (s ∷ ss) a u = woken-same ss (answered s.thread (pos 0) a) u ∙ changed-same a s.thread (λ x. record x { regs = set_a0 (word_of (pos 0)) x.regs; does = Ready }) (λ x. refl) u

pub wake-same : (a : Node) (process address n : ℕ) → SameThreads a (wake process address n a)
wake-same a process address n u = woken-same (take n (waiters a process address)) (record a { sleepers = without (is_waiter (take n (waiters a process address))) a.sleepers }) u

-- ---- the one thread, which may end
pub own-of-same : (t : ℕ) (a b : Node) → SameThreads a b → OnlyOwn t a b
own-of-same t a b f = record { others = λ u n. f u; own = λ q e. sym (f t) ∙ e }

pub joined-own : (t : ℕ) (a b c : Node) → OnlyOwn t a b → OnlyOwn t b c → OnlyOwn t a c
joined-own t a b c f g = record { others = λ u n. g.others u n ∙ f.others u n; own = λ q e. f.own q (g.own q e) }

pub none-left : (t : ℕ) (a : Node) → process_at (without_thread t a) t ≡ None
none-left t a = let same : (t == t) ≡ true = grind (arith, nat_tests) in ap process_in (at-cut a.threads t t ∙ ap (λ b. cond b None (at a.threads t)) same)

pub gone-own : (t : ℕ) (a : Node) → OnlyOwn t a (without_thread t a)
gone-own t a = record { others = λ u n. ap process_in (at-cut a.threads t u ∙ ap (λ b. cond b None (at a.threads u)) n); own = λ q e. absurd (let k = sym (none-left t a) ∙ e in grind (arith, k)) }

-- by what is found of a thread: it is gone, or it is where it was
pub found-or-gone : (u : ℕ) (a b : Node) → StaysOrGoes u a b → process_at b u ≡ cond (has_thread b u) (process_at a u) None
found-or-gone u a b f = go (at b.threads u) f
  where
    go : (o : Option Thread) → ((q : ℕ) → process_in o ≡ Some q → process_at a u ≡ Some q) → process_in o ≡ cond (is_some o) (process_at a u) None
    go None k = refl
    go (Some x) k = sym (k x.process refl)

-- so each call leaves it
pub own-closed : (t : ℕ) → Closed t (OnlyOwn t) (OnlyOwn t)
own-closed t = record {
  same = λ a. own-of-same t a a (λ u. refl);
  joined = joined-own t;
  lift = λ a b f. f;
  quiet = λ a u f h. own-of-same t a (change_thread u f a) (changed-same a u f h.process);
  moves = λ a f h. own-of-same t a (change_thread t f a) (changed-same a t f h.process);
  process = λ a q f h. own-of-same t a (change_process q f a) (λ u. refl);
  gone = gone-own t;
  woken = λ a process address n. own-of-same t a (wake process address n a) (wake-same a process address n);
  ignored = λ a q signal. own-of-same t a (drop_ignored q signal a) (dropped-same a q signal);
  falls = λ a address. own-of-same t a (falls_asleep t address a) (changed-same (record a { sleepers = (falls_asleep t address a).sleepers }) t (λ x. record x { does = Asleep address }) (λ x. refl));
}
