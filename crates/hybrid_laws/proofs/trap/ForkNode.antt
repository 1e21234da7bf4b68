-- The node after a process begins: it is sound, and the new process is paid for by the thread that was Stopped.
use Rattle.hybrid_laws.proofs.calls.Closed.{answered-closed}
use Rattle.hybrid_laws.proofs.maps.Sums.{counted_in, total-put}
use Rattle.hybrid_laws.proofs.node.Goes.{GoesAwake, GoesOn, IsAwake, goes-closed}
use Rattle.hybrid_laws.proofs.node.Sound.{Sound}
use Rattle.hybrid_laws.proofs.node.Threads.{thread-is}
use Rattle.hybrid_laws.proofs.states.Pair.{there-has}
use Rattle.hybrid_laws.proofs.trap.DoneAtOnce.{awake-steps}
use Rattle.hybrid_laws.proofs.trap.Goes.{NodeSteps, stops-fewer}
use Rattle.hybrid_laws.specs.Stopped.{stops}
use Rattle.hybrid_model.specs.Globals.{HeapHolds}
use Rattle.kernel_model.specs.CloneCalls.{child_process, child_thread, with_child}
use Rattle.kernel_model.specs.Nodes.{Node, Process, Thread, answered, has_ended, has_process, instructions_in_all, is_ended, is_stopped, is_there, no_process, process_of, set_a0, thread_of}
use Rattle.kernel_model.specs.declared.Does.TheVariants.{Ready}
use Rattle.mck_word.specs.MapLaws.{at-put}
use Rattle.mck_word.specs.Maps.{at, total}
use Rattle.mck_word.specs.Words.{word_of}
use Rattle.std.proofs.Common.{ap, arith, inl, inr, refl, subst, sym, ◌∙◌}
use Rattle.std.proofs.lemmas.Bool.Decides.{nat_tests}
use Rattle.std.specs.Prelude.{Bool, None, Option, Some, cond, false, is_some, not, pos, true, unwrap_or, ℕ, ◌&&◌, ◌+◌, ◌==◌, ◌≡◌, ◌⊎◌}

module _ (a : Node) (s : Sound a) (t : ℕ) (x : Thread) (there : at a.threads t ≡ Some x) (flags stack tls child_tid : ℕ) where
  abbrev n : ℕ
  n = a.next_number

  abbrev parent : ℕ
  parent = (thread_of a t).process

  abbrev y : Thread
  y = child_thread (thread_of a t) n flags stack tls child_tid

  abbrev new : Process
  new = child_process parent (process_of a parent)

  abbrev forked : Node
  forked = with_child t n flags stack tls child_tid a

  abbrev pub left_by_fork : Node
  left_by_fork = answered t (pos n) forked

  in-parent : x.process ≡ parent
  in-parent = sym (ap (λ (z : Thread). z.process) (thread-is a t x there))

  none-made : at a.processes n ≡ None
  none-made = go (at a.processes n) refl
    where
      go : (o : Option Process) → at a.processes n ≡ o → o ≡ None
      go None e = refl
      go (Some z) e = absurd (let l = s.processes_below n z e in omega (arith, l))

  fresh : at a.threads n ≡ None
  fresh = go (at a.threads n) refl
    where
      go : (o : Option Thread) → at a.threads n ≡ o → o ≡ None
      go None e = refl
      go (Some z) e = absurd (let l = s.threads_below n z e in omega (arith, l))

  not-new : (u : ℕ) (z : Thread) → at a.threads u ≡ Some z → (z.process == n) ≡ false
  not-new u z e = go (z.process == n) refl
    where
      go : (b : Bool) → (z.process == n) ≡ b → b ≡ false
      go false f = refl
      go true f = absurd (let g : z.process ≡ n = grind (arith, nat_tests, f) in let l = sym (ap (has_process a) g) ∙ there-has a z.process (s.threads_there u z e) in let k = ap is_some none-made in grind (arith, l, k))

  same-key : (n == n) ≡ true
  same-key = grind (arith, nat_tests)

  new-or-old : (u : ℕ) (z : Thread) → at forked.threads u ≡ Some z → ((u ≡ n) × (z ≡ y)) ⊎ (at a.threads u ≡ Some z)
  new-or-old u z e = go (u == n) refl (sym (at-put a.threads n y u) ∙ e)
    where
      go : (b : Bool) → (u == n) ≡ b → cond b (Some y) (at a.threads u) ≡ Some z → ((u ≡ n) × (z ≡ y)) ⊎ (at a.threads u ≡ Some z)
      go true f k = inl (grind (arith, nat_tests, f), (let g : y ≡ z = cc in sym g))
      go false f k = inr k

  made-or-old : (q : ℕ) (z : Process) → at forked.processes q ≡ Some z → ((q ≡ n) × (z ≡ new)) ⊎ (at a.processes q ≡ Some z)
  made-or-old q z e = go (q == n) refl (sym (at-put a.processes n new q) ∙ e)
    where
      go : (b : Bool) → (q == n) ≡ b → cond b (Some new) (at a.processes q) ≡ Some z → ((q ≡ n) × (z ≡ new)) ⊎ (at a.processes q ≡ Some z)
      go true f k = inl (grind (arith, nat_tests, f), (let g : new ≡ z = cc in sym g))
      go false f k = inr k

  old-same : (u : ℕ) (z : Thread) → at a.threads u ≡ Some z → at forked.threads u ≡ Some z
  old-same u z e = at-put a.threads n y u ∙ (let l = s.threads_below u z e in let d : (u == n) ≡ false = grind (arith, nat_tests, l) in ap (λ b. cond b (Some y) (at a.threads u)) d) ∙ e

  process-old : (q : ℕ) → (q == n) ≡ false → at forked.processes q ≡ at a.processes q
  process-old q d = at-put a.processes n new q ∙ ap (λ b. cond b (Some new) (at a.processes q)) d

  process-new : at forked.processes n ≡ Some new
  process-new = at-put a.processes n new n ∙ ap (λ b. cond b (Some new) (at a.processes n)) same-key

  pub fork-made : (q : ℕ) → (q == n) ≡ false → has_process left_by_fork q ≡ has_process a q
  fork-made q d = ap is_some (process-old q d)

  pub fork-ended : (q : ℕ) → (q == n) ≡ false → is_ended left_by_fork q ≡ is_ended a q
  fork-ended q d = ap (λ (o : Option Process). has_ended (unwrap_or o no_process).life) (process-old q d)

  pub fork-there : has_process left_by_fork n ≡ true
  fork-there = ap is_some process-new

  pub fork-open : is_ended left_by_fork n ≡ false
  fork-open = ap (λ (o : Option Process). has_ended (unwrap_or o no_process).life) process-new

  there-old : (q : ℕ) → (q == n) ≡ false → is_there forked q ≡ is_there a q
  there-old q d = λ i. fork-made q d i && not (fork-ended q d i)

  there-new : is_there forked n ≡ true
  there-new = λ i. fork-there i && not (fork-open i)

  heap : HeapHolds new
  heap = go (at a.processes parent) refl
    where
      go : (o : Option Process) → at a.processes parent ≡ o → HeapHolds new
      go (Some w) e =
          let h = s.heaps parent w e in
          let same : process_of a parent ≡ w = ap (λ (o : Option Process). unwrap_or o no_process) e in
          let v = subst HeapHolds (sym same) h in
          record { aligned = v.aligned; below = v.below }
      go None e = absurd (let l = there-has a x.process (s.threads_there t x there) in let k = ap (has_process a) in-parent in let g = ap is_some e in grind (arith, l, k, g))

  sound : Sound forked
  sound = record {
    threads_below = λ u z e. elim (new-or-old u z e) [ inl w ↦ (let g = w.0 in omega (arith, g)) | inr w ↦ (let l = s.threads_below u z w in omega (arith, l)) ];
    threads_there = λ u z e. elim (new-or-old u z e) [ inl w ↦ ap (λ (v : Thread). is_there forked v.process) w.1 ∙ there-new | inr w ↦ there-old z.process (not-new u z w) ∙ s.threads_there u z w ];
    processes_below = λ q z e. elim (made-or-old q z e) [ inl w ↦ (let g = w.0 in omega (arith, g)) | inr w ↦ (let l = s.processes_below q z w in omega (arith, l)) ];
    sleeping = record { asleep = λ k z e. (let w = s.sleeping.asleep k z e in (w.0, old-same z.thread w.0 w.1, w.2, w.3)); once = s.sleeping.once };
    places = record {
      below = λ u z e. elim (new-or-old u z e) [ inl w ↦ (let g = ap (λ (v : Thread). v.place) w.1 in omega (arith, g)) | inr w ↦ s.places.below u z w ];
      apart = λ u v z w e f p q. elim (new-or-old u z e) [
        | inl i ↦ elim (new-or-old v w f) [
          | inl j ↦ i.0 ∙ sym j.0
          | inr j ↦ absurd (let d = not-new v w j in let g : w.process ≡ n = sym p ∙ ap (λ (m : Thread). m.process) i.1 in grind (arith, nat_tests, d, g))
        ]
        | inr i ↦ elim (new-or-old v w f) [
          | inl j ↦ absurd (let d = not-new u z i in let g : z.process ≡ n = p ∙ ap (λ (m : Thread). m.process) j.1 in grind (arith, nat_tests, d, g))
          | inr j ↦ s.places.apart u v z w i j p q
        ]
      ];
    };
    heaps = λ q z e. elim (made-or-old q z e) [ inl w ↦ subst HeapHolds (sym w.1) heap | inr w ↦ s.heaps q z w ];
  }

  module _ (awake : IsAwake t a) (stopped : is_stopped x.does ≡ true) where
    pub fork-answers : NodeSteps forked left_by_fork
    fork-answers = awake-steps t forked left_by_fork sound awake (answered-closed t (GoesAwake t) (GoesOn t) (goes-closed t) forked (pos n))

    pub fork-paid : total stops left_by_fork.threads + 1 ≡ total stops a.threads
    fork-paid =
        let l = stops-fewer forked t x (λ z. record z { regs = set_a0 (word_of (pos n)) z.regs; does = Ready }) (old-same t x there) stopped refl in
        let p = total-put stops a.threads n y in
        let f = ap (counted_in stops) fresh in
        omega (arith, l, p, f)

    pub fork-instructions : instructions_in_all left_by_fork ≡ instructions_in_all a
    fork-instructions =
        let p = total-put (λ (z : Process). z.instructions) a.processes n new in
        let f = ap (counted_in (λ (z : Process). z.instructions)) none-made in
        omega (arith, p, f)
