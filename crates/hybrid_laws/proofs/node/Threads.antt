-- The thread of an event: from the tests to what they say of it, and what the changes of the node leave of it.
use Rattle.file_model.specs.Errno.{EINTR, EPIPE}
use Rattle.hybrid_laws.proofs.maps.Sums.{counted_in, total-put}
use Rattle.hybrid_laws.proofs.node.Keeps.{is_pinned}
use Rattle.hybrid_laws.proofs.node.Primitives.{at-change}
use Rattle.isa_model.specs.Instr.{Outcome}
use Rattle.isa_model.specs.declared.stops.Stop.{Stop}
use Rattle.kernel_model.specs.Nodes.{Node, Process, Thread, change_process, change_thread, instructions_in_all, is_living, is_stopped, lives, no_process, no_thread, process_of, ready_to_run, rests, thread_of, answered, is_called, sent_back, set_a0, set_pc, without_thread}
use Rattle.kernel_model.specs.SignalSets.{with_signal}
use Rattle.kernel_model.specs.Signals.{is_deliverable, next_of_sets, generate_for_thread, ignores}
use Rattle.kernel_model.specs.Traps.{counted, does_after, finishes, is_error, returns}
use Rattle.kernel_model.specs.declared.Does.TheVariants.{Asleep, Called, InVm, InWait, Ready, Stopped}
use Rattle.kernel_model.specs.declared.Does.{Does}
use Rattle.mck_word.specs.MapLaws.{at-cut}
use Rattle.mck_word.specs.Maps.{at, change, change_row, put, total}
use Rattle.mck_word.specs.Words.{word_of}
use Rattle.std.proofs.Common.{ap, arith, refl, sym, ◌∙◌}
use Rattle.std.proofs.lemmas.Bool.Decides.{nat_tests}
use Rattle.std.specs.Prelude.{Bool, None, Option, Some, cond, false, is_some, option_map, true, unwrap_or, ℕ, ◌+◌, ◌==◌, ◌≡◌, ℤ, ◌-◌, ◌^◌}

-- the thread t of the node
abbrev pub IsThread : Node → ℕ → Thread → Type 0
IsThread node t x = at node.threads t ≡ Some x

pub thread-is : (node : Node) (t : ℕ) (x : Thread) → IsThread node t x → thread_of node t ≡ x
thread-is node t x e = ap (λ (o : Option Thread). unwrap_or o no_thread) e

pub ready-is : (d : Does) → ready_to_run d ≡ true → d ≡ Ready
ready-is Ready e = refl
ready-is (Stopped s) e = absurd (grind (arith, e))
ready-is Called e = absurd (grind (arith, e))
ready-is (InVm c) e = absurd (grind (arith, e))
ready-is (Asleep a) e = absurd (grind (arith, e))
ready-is (InWait n s) e = absurd (grind (arith, e))

pub stopped-is : (d : Does) → is_stopped d ≡ true → (s : Stop) × (d ≡ Stopped s)
stopped-is (Stopped s) e = (s, refl)
stopped-is Ready e = absurd (grind (arith, e))
stopped-is Called e = absurd (grind (arith, e))
stopped-is (InVm c) e = absurd (grind (arith, e))
stopped-is (Asleep a) e = absurd (grind (arith, e))
stopped-is (InWait n s) e = absurd (grind (arith, e))

-- a thread that rests is not pinned, and a living process was made
pub rests-free : (d : Does) → rests d ≡ true → is_pinned d ≡ false
rests-free (Asleep a) e = refl
rests-free (InWait n s) e = refl
rests-free Ready e = refl
rests-free (Stopped s) e = refl
rests-free Called e = absurd (grind (arith, e))
rests-free (InVm c) e = absurd (grind (arith, e))

pub living-made : (node : Node) (p : ℕ) → is_living node p ≡ true → (x : Process) × (at node.processes p ≡ Some x) × (lives x.life ≡ true)
living-made node p e = go (at node.processes p) refl e
  where
    go : (o : Option Process) → at node.processes p ≡ o → lives (unwrap_or o no_process).life ≡ true → (x : Process) × (at node.processes p ≡ Some x) × (lives x.life ≡ true)
    go None f k = absurd (grind (arith, k))
    go (Some x) f k = (x, f, k)

-- the one free thread is not pinned
pub idle-one : (p t : ℕ) (node : Node) (x : Thread) → IsThread node t x → is_pinned x.does ≡ false → (u : ℕ) (y : Thread) → (u == t) ≡ true → at node.threads u ≡ Some y → y.process ≡ p → is_pinned y.does ≡ false
idle-one p t node x there free u y e f own =
    let g : u ≡ t = grind (arith, nat_tests, e) in
    let o = sym there ∙ ap (at node.threads) (sym g) ∙ f in
    let k : x ≡ y = cc in
    ap (λ (z : Thread). is_pinned z.does) (sym k) ∙ free

-- ---- a thread or a process changed
pub thread-changed : (node : Node) (t : ℕ) (f : Thread → Thread) (x : Thread) → IsThread node t x → IsThread (change_thread t f node) t (f x)
thread-changed node t f x there = at-change node.threads t f t ∙ (let e : (t == t) ≡ true = grind (arith, nat_tests) in rw (e, there) refl)

pub thread-other : (node : Node) (t u : ℕ) (f : Thread → Thread) → (u == t) ≡ false → at (change_thread t f node).threads u ≡ at node.threads u
thread-other node t u f n = at-change node.threads t f u ∙ rw n refl

-- what a change of a process leaves of every process
pub process-changed : {V : Type 0} (g : Process → V) (node : Node) (p q : ℕ) (f : Process → Process) → ((x : Process) → g (f x) ≡ g x) → g (process_of (change_process p f node) q) ≡ g (process_of node q)
process-changed g node p q f h = ap (λ (o : Option Process). g (unwrap_or o no_process)) (at-change node.processes p f q) ∙ go (q == p) refl (at node.processes p) refl
  where
    go : (b : Bool) → (q == p) ≡ b → (o : Option Process) → at node.processes p ≡ o → g (unwrap_or (cond b (option_map f o) (at node.processes q)) no_process) ≡ g (process_of node q)
    go true e None k = let z : q ≡ p = grind (arith, nat_tests, e) in rw (z, k) refl
    go true e (Some x) k = let z : q ≡ p = grind (arith, nat_tests, e) in rw (z, k) (h x)
    go false e o k = refl

-- ---- an instruction is counted
module _ (node : Node) (t : ℕ) (o : Outcome) (x : Thread) (there : IsThread node t x) where
  abbrev moved : Thread → Thread
  moved y = record y { regs = o.regs; does = does_after o.stop; back = false }

  pub counted-thread : IsThread (counted t o node) t (moved x)
  counted-thread = thread-changed node t moved x there

  same-life : (q : ℕ) → (process_of (counted t o node) q).life ≡ (process_of node q).life
  same-life q = process-changed (λ y. y.life) (change_thread t moved node) (thread_of node t).process q (λ (y : Process). record y { instructions = y.instructions + 1 }) (λ y. refl)

  pub counted-living : (q : ℕ) → is_living (counted t o node) q ≡ is_living node q
  counted-living q = ap lives (same-life q)

  pub counted-deliverable : is_deliverable (counted t o node) t ≡ is_deliverable node t
  counted-deliverable =
      let a = counted-thread in
      let p = process-changed (λ y. y.pending) (change_thread t moved node) (thread_of node t).process x.process (λ (y : Process). record y { instructions = y.instructions + 1 }) (λ y. refl) in
      ap (λ (y : Thread). is_some (next_of_sets y.pending (process_of (counted t o node) y.process).pending y.mask)) (thread-is (counted t o node) t (moved x) a)
      ∙ ap (λ s. is_some (next_of_sets x.pending s x.mask)) p
      ∙ sym (ap (λ (y : Thread). is_some (next_of_sets y.pending (process_of node y.process).pending y.mask)) (thread-is node t x there))

  pub counted-more : is_living node x.process ≡ true → instructions_in_all (counted t o node) ≡ instructions_in_all node + 1
  counted-more living =
      let y = living-made node x.process living in
      let e = thread-is node t x there in
      let f = ap (λ (z : Thread). z.process) e in
      let c : change node.processes (thread_of node t).process (λ (z : Process). record z { instructions = z.instructions + 1 }) ≡ put node.processes x.process (record y.0 { instructions = y.0.instructions + 1 })
      = ap (λ q. change node.processes q (λ (z : Process). record z { instructions = z.instructions + 1 })) f ∙ ap (change_row node.processes x.process (λ (z : Process). record z { instructions = z.instructions + 1 })) y.1 in
      let s = total-put (λ (z : Process). z.instructions) node.processes x.process (record y.0 { instructions = y.0.instructions + 1 }) in
      let b = ap (counted_in (λ (z : Process). z.instructions)) y.1 in
      ap (total (λ (z : Process). z.instructions)) c ∙ omega (arith, s, b)

-- ---- whether the thread is Called after a change
abbrev pub called_in : Option Thread → Bool
called_in None = false
called_in (Some x) = is_called x.does

pub called-changed : (node : Node) (t : ℕ) (f : Thread → Thread) → ((x : Thread) → is_called (f x).does ≡ false) → called_in (at (change_thread t f node).threads t) ≡ false
called-changed node t f h = ap called_in (at-change node.threads t f t) ∙ (let e : (t == t) ≡ true = grind (arith, nat_tests) in rw e (go (at node.threads t)))
  where
    go : (o : Option Thread) → called_in (option_map f o) ≡ false
    go None = refl
    go (Some x) = h x

pub called-stays : (node : Node) (t : ℕ) (f : Thread → Thread) → ((x : Thread) → (f x).does ≡ x.does) → called_in (at (change_thread t f node).threads t) ≡ called_in (at node.threads t)
called-stays node t f h = ap called_in (at-change node.threads t f t) ∙ (let e : (t == t) ≡ true = grind (arith, nat_tests) in rw e (go (at node.threads t)))
  where
    go : (o : Option Thread) → called_in (option_map f o) ≡ called_in o
    go None = refl
    go (Some x) = ap is_called (h x)

pub answered-not : (t : ℕ) (a : ℤ) (node : Node) → called_in (at (answered t a node).threads t) ≡ false
answered-not t a node = called-changed node t (λ x. record x { regs = set_a0 (word_of a) x.regs; does = Ready }) (λ x. refl)

pub without-not : (t : ℕ) (node : Node) → called_in (at (without_thread t node).threads t) ≡ false
without-not t node = ap called_in (at-cut node.threads t t) ∙ (let e : (t == t) ≡ true = grind (arith, nat_tests) in rw e refl)

pub finished-not : (t : ℕ) (a : ℤ) (node : Node) → called_in (at (finishes t a node).threads t) ≡ false
unfolding finishes
finished-not t a node = go (is_living node (thread_of node t).process)
  where
    go : (b : Bool) → called_in (at (cond b (answered t a node) (without_thread t node)).threads t) ≡ false
    go true = answered-not t a node
    go false = without-not t node

pub returned-not : (t : ℕ) (a : ℤ) (node : Node) → called_in (at (returns t a node).threads t) ≡ false
unfolding returns
returned-not t a node = go (is_living node (thread_of node t).process) (is_error EINTR a) (is_error EPIPE a)
  where
    b : Node
    b = answered t a node

    told : (c : Bool) → called_in (at (cond c b (change_thread t (λ (x : Thread). record x { pending = with_signal 13 x.pending }) b)).threads t) ≡ false
    told true = answered-not t a node
    told false = called-stays b t (λ x. record x { pending = with_signal 13 x.pending }) (λ x. refl) ∙ answered-not t a node

    go : (c d e : Bool) → called_in (at (cond c (cond d (sent_back t node) (cond e (generate_for_thread t 13 b) b)) (without_thread t node)).threads t) ≡ false
    go true true e = called-changed node t (λ x. record x { regs = set_pc (x.regs.pc + (2 ^ 64 - 4)) x.regs; back = true; does = Ready }) (λ x. refl)
    go true false true = told (ignores (process_of b (thread_of b t).process) 13)
    go true false false = answered-not t a node
    go false d e = without-not t node
