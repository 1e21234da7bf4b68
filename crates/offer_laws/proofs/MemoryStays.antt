-- What the words of which calls and signals are made leave of heaps and of the changes that threads wait for.
use Rattle.hybrid_laws.proofs.calls.Closed.{Closed}
use Rattle.hybrid_laws.proofs.node.Primitives.{Quiet, at-change}
use Rattle.job_model.specs.Images.{highest}
use Rattle.kernel_model.specs.LocalCalls.{falls_asleep, is_waiter, waiters, wake, wake_threads}
use Rattle.kernel_model.specs.Nodes.{Node, Process, Sleeper, Thread, answered, change_in, change_process, change_thread, process_of, set_a0, without_thread}
use Rattle.kernel_model.specs.SignalSets.{without_signal}
use Rattle.kernel_model.specs.Signals.{drop_ignored, ignores}
use Rattle.kernel_model.specs.declared.Change.{Change}
use Rattle.kernel_model.specs.declared.Does.TheVariants.{Asleep, Ready}
use Rattle.mck_word.specs.EachLaws.{at-each}
use Rattle.mck_word.specs.MapLaws.{at-cut, at-put}
use Rattle.mck_word.specs.Maps.{at, each, put}
use Rattle.mck_word.specs.Words.{word_of}
use Rattle.offer_laws.specs.ChangeFits.{wanted}
use Rattle.std.proofs.Common.{ap, arith, refl, sym, ◌∙◌}
use Rattle.std.proofs.lemmas.Bool.Decides.{nat_tests}
use Rattle.std.specs.Prelude.{Bool, List, None, Option, Some, [], cond, false, filter, not, option_map, pos, take, true, ℕ, ◌==◌, ◌∷◌, ◌≡◌, ◌≤◌}

-- the change for which thread t waits
abbrev pub wants : ℕ → Node → Option Change
wants t a = wanted (at a.threads t)

abbrev pub HeapsFit : Node → Type 0
HeapsFit a = (p : ℕ) (x : Process) → at a.processes p ≡ Some x → x.heap_base ≤ highest

-- thread u waits for no other change than before
abbrev pub Waits : ℕ → Node → Node → Type 0
Waits u a b = (c : Change) → wants u b ≡ Some c → wants u a ≡ Some c

-- heaps stay low, and each thread but t waits for no other change than before
pub record Stays (t : ℕ) (a b : Node) : Type 0 where
  pub heaps : HeapsFit a → HeapsFit b
  pub others : (u : ℕ) → (u == t) ≡ false → Waits u a b

pub stays-same : (t : ℕ) (a : Node) → Stays t a a
stays-same t a = record { heaps = λ h. h; others = λ u n c e. e }

pub stays-then : (t : ℕ) (a b c : Node) → Stays t a b → Stays t b c → Stays t a c
stays-then t a b c f g = record { heaps = λ h. g.heaps (f.heaps h); others = λ u n x e. f.others u n x (g.others u n x e) }

-- ---- a row of threads changed
row-wants : (f : Thread → Thread) (o : Option Thread) → ((x : Thread) → (f x).does ≡ x.does) → wanted (option_map f o) ≡ wanted o
row-wants f None h = refl
row-wants f (Some x) h = ap change_in (h x)

pub quiet-wants : (a : Node) (v : ℕ) (f : Thread → Thread) → Quiet f → (u : ℕ) → wants u (change_thread v f a) ≡ wants u a
quiet-wants a v f h u = ap wanted (at-change a.threads v f u) ∙ go (u == v) refl
  where
    go : (b : Bool) → (u == v) ≡ b → wanted (cond b (option_map f (at a.threads v)) (at a.threads u)) ≡ wanted (at a.threads u)
    go true e = let g : u ≡ v = grind (arith, nat_tests, e) in rw g (row-wants f (at a.threads v) h.does)
    go false e = refl

pub other-wants : (a : Node) (v : ℕ) (f : Thread → Thread) (u : ℕ) → (u == v) ≡ false → wants u (change_thread v f a) ≡ wants u a
other-wants a v f u n = ap wanted (at-change a.threads v f u ∙ ap (λ b. cond b (option_map f (at a.threads v)) (at a.threads u)) n)

same-key : (t : ℕ) → (t == t) ≡ true
same-key t = grind (arith, nat_tests)

pub own-wants : (a : Node) (t : ℕ) (f : Thread → Thread) → wants t (change_thread t f a) ≡ wanted (option_map f (at a.threads t))
own-wants a t f = ap wanted (at-change a.threads t f t ∙ ap (λ b. cond b (option_map f (at a.threads t)) (at a.threads t)) (same-key t))

-- a thread that does something else than to wait for a change
pub rests-own : (a : Node) (t : ℕ) (f : Thread → Thread) → ((x : Thread) → change_in (f x).does ≡ None) → wants t (change_thread t f a) ≡ None
rests-own a t f h = own-wants a t f ∙ go (at a.threads t)
  where
    go : (o : Option Thread) → wanted (option_map f o) ≡ None
    go None = refl
    go (Some x) = h x

pub gone-own : (a : Node) (t : ℕ) → wants t (without_thread t a) ≡ None
gone-own a t = ap wanted (at-cut a.threads t t ∙ ap (λ b. cond b None (at a.threads t)) (same-key t))

pub gone-other : (a : Node) (t u : ℕ) → (u == t) ≡ false → wants u (without_thread t a) ≡ wants u a
gone-other a t u n = ap wanted (at-cut a.threads t u ∙ ap (λ b. cond b None (at a.threads u)) n)

never : (u : ℕ) (a b : Node) → wants u b ≡ None → Waits u a b
never u a b e c f = absurd (let g = sym e ∙ f in grind (arith, g))

pub answered-rests : (a : Node) (t : ℕ) (x : Thread → Thread) → ((y : Thread) → change_in (x y).does ≡ None) → (u : ℕ) → Waits u a (change_thread t x a)
answered-rests a t x h u = go (u == t) refl
  where
    go : (b : Bool) → (u == t) ≡ b → Waits u a (change_thread t x a)
    go true e = let g : u ≡ t = grind (arith, nat_tests, e) in never u a (change_thread t x a) (ap (λ k. wants k (change_thread t x a)) g ∙ rests-own a t x h)
    go false e = λ c f. sym (other-wants a t x u e) ∙ f

-- a thread that is new waits for none
pub put-waits : (a b : Node) (n : ℕ) (x : Thread) → b.threads ≡ put a.threads n x → change_in x.does ≡ None → (u : ℕ) → Waits u a b
put-waits a b n x is none u c e = go (u == n) refl (sym (ap (λ m. wanted (at m u)) is ∙ ap wanted (at-put a.threads n x u)) ∙ e)
  where
    go : (d : Bool) → (u == n) ≡ d → wanted (cond d (Some x) (at a.threads u)) ≡ Some c → wants u a ≡ Some c
    go true f g = absurd (let h = sym none ∙ g in grind (arith, h))
    go false f g = g

-- ---- processes
pub process-stays : (t : ℕ) (a : Node) (q : ℕ) (f : Process → Process) → ((x : Process) → (f x).heap_base ≡ x.heap_base) → Stays t a (change_process q f a)
process-stays t a q f h = record { heaps = λ low p x e. go low p x (p == q) refl (sym (at-change a.processes q f p) ∙ e); others = λ u n c e. e }
  where
    row : (o : Option Process) (x : Process) → ((y : Process) → o ≡ Some y → y.heap_base ≤ highest) → option_map f o ≡ Some x → x.heap_base ≤ highest
    row None x low e = absurd (grind (arith, e))
    row (Some y) x low e = let g : f y ≡ x = cc in let b = ap (λ (z : Process). z.heap_base) (sym g) ∙ h y in let l = low y refl in omega (arith, b, l)

    go : HeapsFit a → (p : ℕ) (x : Process) (b : Bool) → (p == q) ≡ b → cond b (option_map f (at a.processes q)) (at a.processes p) ≡ Some x → x.heap_base ≤ highest
    go low p x true g e = row (at a.processes q) x (λ y k. low q y k) e
    go low p x false g e = low p x e

-- ---- waking
woken-waits : (ss : List Sleeper) (a : Node) (u : ℕ) → Waits u a (wake_threads ss a)
woken-waits [] a u c e = e
woken-waits (s ∷ ss) a u c e = answered-rests a s.thread (λ x. record x { regs = set_a0 (word_of (pos 0)) x.regs; does = Ready }) (λ y. refl) u c (woken-waits ss (answered s.thread (pos 0) a) u c e)

woken-processes : (ss : List Sleeper) (a : Node) → (wake_threads ss a).processes ≡ a.processes
woken-processes [] a = refl
woken-processes (s ∷ ss) a = woken-processes ss (answered s.thread (pos 0) a)

pub woken-stays : (t : ℕ) (a : Node) (process address n : ℕ) → Stays t a (wake process address n a)
woken-stays t a process address n = record {
  heaps = λ low p x e. low p x (ap (λ m. at m p) (sym (woken-processes woken begun)) ∙ e);
  others = λ u k c e. woken-waits woken begun u c e;
}
  where
    woken : List Sleeper
    woken = take n (waiters a process address)

    begun : Node
    begun = record a { sleepers = filter (λ s. not (is_waiter woken s)) a.sleepers }

-- ---- signals that are ignored from now on
module _ (a : Node) (q signal : ℕ) where
  abbrev less : Thread → Thread
  less y = cond (y.process == q) (record y { pending = without_signal signal y.pending }) y

  less-does : (b : Bool) (y : Thread) → (cond b (record y { pending = without_signal signal y.pending }) y).does ≡ y.does
  less-does true y = refl
  less-does false y = refl

  pub dropped-wants : (u : ℕ) → wants u (drop_ignored q signal a) ≡ wants u a
  dropped-wants u = go (ignores (process_of a q) signal)
    where
      go : (b : Bool) → wants u (cond b (record (change_process q (λ (x : Process). record x { pending = without_signal signal x.pending }) a) { threads = each less a.threads }) a) ≡ wants u a
      go true = ap wanted (at-each less a.threads u) ∙ row-wants less (at a.threads u) (λ y. less-does (y.process == q) y)
      go false = refl

  pub dropped-heaps : HeapsFit a → HeapsFit (drop_ignored q signal a)
  dropped-heaps low = go (ignores (process_of a q) signal)
    where
      go : (b : Bool) → HeapsFit (cond b (record (change_process q (λ (x : Process). record x { pending = without_signal signal x.pending }) a) { threads = each less a.threads }) a)
      go true = (process-stays 0 a q (λ (x : Process). record x { pending = without_signal signal x.pending }) (λ x. refl)).heaps low
      go false = low

pub same-waits : (u : ℕ) (a b : Node) → wants u b ≡ wants u a → Waits u a b
same-waits u a b e c f = sym e ∙ f

-- ---- so each call leaves them, and each delivery
pub stays-closed : (t : ℕ) → Closed t (Stays t) (Stays t)
stays-closed t = record {
  same = stays-same t;
  joined = stays-then t;
  lift = λ a b f. f;
  quiet = λ a u f h. record { heaps = λ low. low; others = λ v n. same-waits v a (change_thread u f a) (quiet-wants a u f h v) };
  moves = λ a f h. record { heaps = λ low. low; others = λ v n. same-waits v a (change_thread t f a) (other-wants a t f v n) };
  process = λ a q f h. process-stays t a q f h.heap;
  gone = λ a. record { heaps = λ low. low; others = λ v n. same-waits v a (without_thread t a) (gone-other a t v n) };
  woken = λ a process address n. woken-stays t a process address n;
  ignored = λ a q signal. record { heaps = dropped-heaps a q signal; others = λ v n. same-waits v a (drop_ignored q signal a) (dropped-wants a q signal v) };
  falls = λ a address. record { heaps = λ low. low; others = λ v n. same-waits v a (falls_asleep t address a) (other-wants (record a { sleepers = (falls_asleep t address a).sleepers }) t (λ x. record x { does = Asleep address }) v n) };
}
