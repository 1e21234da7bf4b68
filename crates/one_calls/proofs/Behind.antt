-- A thread behind its ecall: what it may do there.
use Rattle.kernel_model.specs.LocalCalls.{waiters}
use Rattle.kernel_model.specs.Nodes.{Node as KernelNode, Thread, change_thread, has_process, has_thread, most_threads, no_thread, set_pc, thread_of}
use Rattle.kernel_tables.specs.Room.{KeepsRoom}
use Rattle.kernel_tables.specs.Shown.{node_of}
use Rattle.kernel_tables.specs.declared.tables.KernelTables.{KernelTables}
use Rattle.mck_word.specs.MapLaws.{at-put}
use Rattle.mck_word.specs.Maps.{Map, at, change, change_row}
use Rattle.one_calls.specs.Resting.{MayClone, MayFork, MayRest}
use Rattle.one_calls.specs.Views.{Stepped}
use Rattle.std.proofs.Common.{ap, arith, refl, subst, sym, ◌∙◌, ◌≡◌}
use Rattle.std.proofs.lemmas.Bool.{eq-eqb}
use Rattle.std.specs.List.{list_any}
use Rattle.std.specs.Prelude.{Bool, IsTrue, None, Option, Some, cond, is_some, length, option_map, unwrap_or, ℕ, ◌+◌, ◌-◌, ◌<◌, ◌==◌, ◌^◌}

abbrev pub behind : ℕ → KernelNode → KernelNode
behind t node = change_thread t (λ (x : Thread). record x { regs = set_pc (x.regs.pc + 4) x.regs }) node

-- the row that is changed
at-changed : {V : Type 0} (m : Map V) (k : ℕ) (f : V → V) → at (change m k f) k ≡ option_map f (at m k)
at-changed {V} m k f = go (at m k) refl
  where
    go : (o : Option V) → at m k ≡ o → at (change_row m k f o) k ≡ option_map f o
    go None e = e
    go (Some x) e = at-put m k (f x) k ∙ ap (λ b. cond b (Some (f x)) (at m k)) (eq-eqb k k refl)

module _ (t : ℕ) where
  row : Option Thread → Option Thread
  row o = option_map (λ (x : Thread). record x { regs = set_pc (x.regs.pc + 4) x.regs }) o

  process-row : (o : Option Thread) → (unwrap_or (row o) no_thread).process ≡ (unwrap_or o no_thread).process
  unfolding row
  process-row None = refl
  process-row (Some x) = refl

  there-row : (o : Option Thread) → is_some (row o) ≡ is_some o
  unfolding row
  there-row None = refl
  there-row (Some x) = refl

  pub process-kept : (k : KernelNode) → (thread_of (behind t k) t).process ≡ (thread_of k t).process
  unfolding row
  process-kept k = ap (λ (o : Option Thread). (unwrap_or o no_thread).process) (at-changed k.threads t (λ (x : Thread). record x { regs = set_pc (x.regs.pc + 4) x.regs })) ∙ process-row (at k.threads t)

  thread-kept : (k : KernelNode) → has_thread (behind t k) t ≡ has_thread k t
  unfolding row
  thread-kept k = ap is_some (at-changed k.threads t (λ (x : Thread). record x { regs = set_pc (x.regs.pc + 4) x.regs })) ∙ there-row (at k.threads t)

  module _ (before after : KernelTables) (room : KeepsRoom before after) (step : Stepped before after (behind t)) where
    pub may-rest : MayRest before t → MayRest after t
    may-rest h = record {
      room = let a = h.room in let b = room.sleepers in omega (arith, a, b);
      awake = λ files. ap (λ (k : KernelNode). list_any (λ s. s.thread == t) k.sleepers) (step files) ∙ h.awake files;
      few = λ files address.
          let path : length (waiters (node_of after files) (thread_of (node_of after files) t).process address) ≡ length (waiters (node_of before files) (thread_of (node_of before files) t).process address) =
          ap (λ (k : KernelNode). length (waiters k (thread_of k t).process address)) (step files) ∙ ap (λ (p : ℕ). length (waiters (node_of before files) p address)) (process-kept (node_of before files)) in
          subst (λ (n : ℕ). n < most_threads) (sym path) (h.few files address);
    }

    pub may-clone : MayClone before t → MayClone after t
    may-clone h = record {
      room = let a = h.room in let b = room.threads in omega (arith, a, b);
      lives = λ files. subst (λ (b : Bool). IsTrue b) (sym (ap (λ (k : KernelNode). has_thread k t) (step files) ∙ thread-kept (node_of before files))) (h.lives files);
      below = λ files. subst (λ n. n < 2 ^ 32 - 1) (sym (ap (λ (k : KernelNode). k.next_number) (step files))) (h.below files);
    }

    pub may-fork : MayFork before t → MayFork after t
    may-fork h = record {
      clone = may-clone h.clone;
      room = let a = h.room in let b = room.processes in omega (arith, a, b);
      there = λ files.
          let path = ap (λ (k : KernelNode). has_process k (thread_of k t).process) (step files) ∙ ap (λ (p : ℕ). has_process (node_of before files) p) (process-kept (node_of before files)) in
          subst (λ (b : Bool). IsTrue b) (sym path) (h.there files);
    }
