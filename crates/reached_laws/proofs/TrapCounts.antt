-- No trap changes how many instructions were executed: no call and no signal does, and a process begins with none.
use Rattle.file_model.specs.Errno.{EAGAIN, EINVAL, ENOMEM}
use Rattle.hybrid_laws.proofs.calls.Closed.{Closed, calls-closed, raised-closed}
use Rattle.hybrid_laws.proofs.maps.Sums.{counted_in, total-put, total-same}
use Rattle.hybrid_laws.proofs.node.Goes.{ignored-goes, wake-goes}
use Rattle.hybrid_laws.proofs.node.Primitives.{at-change}
use Rattle.hybrid_laws.proofs.node.Sound.{same-instructions}
use Rattle.isa_model.specs.Memory.{may_access}
use Rattle.isa_model.specs.declared.stops.Stop.TheVariants.{Break, Ecall, Illegal, Misaligned, On, Fault as StopFault}
use Rattle.isa_model.specs.declared.stops.Stop.{Stop}
use Rattle.kernel_model.specs.Calls.{clone_call, local_call}
use Rattle.kernel_model.specs.CloneCalls.{CallDone, are_clone_flags, are_fork_flags, clone, clone_or_fork, cloned_thread, clones, forks, with_thread, with_child, child_process}
use Rattle.kernel_model.specs.LocalCalls.{refuses, wake}
use Rattle.kernel_model.specs.MemoryCalls.{Decision, Now, Reply as DecidedReply, Round as DecidedRound, decide}
use Rattle.kernel_model.specs.Nodes.{Node, Process, most_processes, most_threads, process_of, stop_in, thread_of, threads_of, instructions_in_all, answered}
use Rattle.kernel_model.specs.Signals.{View, drop_ignored, on_node, raised, signal_of_stop, store}
use Rattle.kernel_model.specs.Traps.{Begins, Changes, Done, Forks, Trapped, arguments_of, call_named, called, cloned, decided, past_ecall, trap, trap_of_stop}
use Rattle.mck_word.specs.Maps.{count, Map, at, change, put, total}
use Rattle.mck_word.specs.Words.{has_bit, little_endian}
use Rattle.mck_word.specs.declared.Access.TheVariants.{Write}
use Rattle.mck_word.specs.declared.Regs.{Regs}
use Rattle.std.proofs.Common.{ap, arith, refl, ◌∙◌, sym}
use Rattle.std.proofs.lemmas.Bool.Decides.{nat_tests}
use Rattle.std.specs.Prelude.{Bool, List, None, Option, Some, cond, false, get_or, length, nat_le, nat_lt, not, true, ℕ, ◌==◌, ◌≡◌, option_map, pos}
use Rattle.system_calls.specs.declared.LocalCall.{LocalCall}
use Rattle.system_calls.specs.declared.SystemCall.TheVariants.{Clone, File, Local, Memory}
use Rattle.system_calls.specs.declared.SystemCall.{SystemCall}

-- ---- the instructions of all processes, which no call and no signal changes
abbrev own_count : Process → ℕ
own_count x = x.instructions

abbrev pub SameCount : Node → Node → Type 0
SameCount a b = instructions_in_all b ≡ instructions_in_all a

-- a row changed, and a row put that counts none
pub change-count : (m : Map Process) (q : ℕ) (f : Process → Process) → ((x : Process) → (f x).instructions ≡ x.instructions) → total (λ (x : Process). x.instructions) (change m q f) ≡ total (λ (x : Process). x.instructions) m
change-count m q f h = total-same own_count (change m q f) m (λ r. ap (counted_in own_count) (at-change m q f r) ∙ go r (r == q) refl)
  where
    row : (o : Option Process) → counted_in own_count (option_map f o) ≡ counted_in own_count o
    row None = refl
    row (Some x) = h x

    go : (r : ℕ) (b : Bool) → (r == q) ≡ b → counted_in own_count (cond b (option_map f (at m q)) (at m r)) ≡ counted_in own_count (at m r)
    go r true e = let g : r ≡ q = grind (arith, nat_tests, e) in row (at m q) ∙ ap (λ (k : ℕ). counted_in own_count (at m k)) (sym g)
    go r false e = refl

put-count : (m : Map Process) (q : ℕ) (x : Process) → at m q ≡ None → x.instructions ≡ 0 → total (λ (y : Process). y.instructions) (put m q x) ≡ total (λ (y : Process). y.instructions) m
put-count m q x none zero-is =
    let a = total-put own_count m q x in
    let b = ap (counted_in own_count) none in
    omega (arith, a, b, zero-is)

pub same-count : (t : ℕ) → Closed t SameCount SameCount
same-count t = record {
  same = λ a. refl;
  joined = λ a b c f g. g ∙ f;
  lift = λ a b f. f;
  quiet = λ a u f h. refl;
  moves = λ a f h. refl;
  process = λ a q f h. change-count a.processes q f h.instructions;
  gone = λ a. refl;
  woken = λ a process address n. same-instructions a (wake process address n a) (wake-goes a process address n);
  ignored = λ a q signal. same-instructions a (drop_ignored q signal a) (ignored-goes a q signal);
  falls = λ a address. refl;
}

-- ---- traps

-- the instructions stay
abbrev pub TrapCounts : View → Trapped → Type 0
TrapCounts v (Done w) = SameCount v.node w.node
TrapCounts v (Forks w child stores) = SameCount v.node w.node
TrapCounts v (Begins node progress) = SameCount v.node node
TrapCounts v (Changes node change) = SameCount v.node node

module _ (t frames : ℕ) (v : View) (fresh : at v.node.processes v.node.next_number ≡ None) where
  abbrev own_regs : Regs
  own_regs = (thread_of v.node t).regs

  abbrev behind : View
  behind = past_ecall t v

  tried : (b c : Bool) (a : ℕ) (bytes : List ℕ) (w : View) → instructions_in_all (cond b (cond c (store a bytes w) w) w).node ≡ instructions_in_all w.node
  tried true true a bytes w = refl
  tried true false a bytes w = refl
  tried false c a bytes w = refl

  tried-node : (b c : Bool) (a : ℕ) (bytes : List ℕ) (w : View) → (cond b (cond c (store a bytes w) w) w).node ≡ w.node
  tried-node true true a bytes w = refl
  tried-node true false a bytes w = refl
  tried-node false c a bytes w = refl

  clones-counts : (flags stack parent_tid tls child_tid : ℕ) → TrapCounts v (cloned (CallDone (clones t flags stack parent_tid tls child_tid behind)))
  clones-counts flags stack parent_tid tls child_tid =
      tried (has_bit 24 flags) (may_access told.memory Write child_tid (length (little_endian 4 n))) child_tid (little_endian 4 n) told
      ∙ tried (has_bit 20 flags) (may_access made.memory Write parent_tid (length (little_endian 4 n))) parent_tid (little_endian 4 n) made
    where
      n : ℕ
      n = behind.node.next_number

      made : View
      made = on_node (with_thread (cloned_thread behind.node (thread_of behind.node t) flags stack tls child_tid)) behind

      told : View
      told = cond (has_bit 20 flags) (cond (may_access made.memory Write parent_tid (length (little_endian 4 n))) (store parent_tid (little_endian 4 n) made) made) made

  clone-counts : (flags stack parent_tid tls child_tid : ℕ) → TrapCounts v (cloned (CallDone (clone t flags stack parent_tid tls child_tid behind)))
  clone-counts flags stack parent_tid tls child_tid = go (not (are_clone_flags flags)) (nat_le most_threads (length (threads_of behind.node (thread_of behind.node t).process)))
    where
      go : (b c : Bool) → TrapCounts v (cloned (CallDone (cond b (refuses t EINVAL behind) (cond c (refuses t EAGAIN behind) (clones t flags stack parent_tid tls child_tid behind)))))
      go true c = refl
      go false true = refl
      go false false = clones-counts flags stack parent_tid tls child_tid

  fork-counts : (flags stack parent_tid tls child_tid : ℕ) → TrapCounts v (cloned (clone_or_fork t frames flags stack parent_tid tls child_tid behind))
  fork-counts flags stack parent_tid tls child_tid = go (are_fork_flags flags) (nat_le most_processes (count v.node.processes)) (nat_lt frames (count v.memory))
    where
      n : ℕ
      n = v.node.next_number

      told : View
      told = cond (has_bit 20 flags) (cond (may_access v.memory Write parent_tid (length (little_endian 4 n))) (store parent_tid (little_endian 4 n) behind) behind) behind

      born : (w : View) → w.node ≡ behind.node → SameCount v.node (answered t (pos n) (with_child t n flags stack tls child_tid w.node))
      born w e = ap (λ (a : Node). instructions_in_all (answered t (pos n) (with_child t n flags stack tls child_tid a))) e ∙ put-count v.node.processes n (child_process (thread_of behind.node t).process (process_of behind.node (thread_of behind.node t).process)) fresh refl

      go : (b c d : Bool) → TrapCounts v (cloned (cond b (cond c (CallDone (refuses t EAGAIN behind)) (cond d (CallDone (refuses t ENOMEM behind)) (forks t flags stack parent_tid tls child_tid behind))) (CallDone (clone t flags stack parent_tid tls child_tid behind))))
      go true true d = refl
      go true false true = refl
      go true false false = born told (tried-node (has_bit 20 flags) (may_access v.memory Write parent_tid (length (little_endian 4 n))) parent_tid (little_endian 4 n) behind)
      go false c d = clone-counts flags stack parent_tid tls child_tid

  local-counts : (call : LocalCall) (arguments : List ℕ) → SameCount v.node (local_call t call arguments behind).node
  unfolding local_call
  local-counts call arguments = calls-closed t SameCount SameCount (same-count t) call (λ k. get_or arguments k 0) behind

  clone_call-counts : (arguments : List ℕ) → TrapCounts v (cloned (clone_call t frames arguments behind))
  unfolding clone_call
  clone_call-counts arguments = fork-counts (get_or arguments 0 0) (get_or arguments 1 0) (get_or arguments 2 0) (get_or arguments 3 0) (get_or arguments 4 0)

  decided-counts : (d : Decision) → TrapCounts v (decided t behind d)
  decided-counts (DecidedReply answer) = refl
  decided-counts (Now change) = refl
  decided-counts (DecidedRound change) = refl

  called-counts : (o : Option SystemCall) → TrapCounts v (called t frames own_regs behind o)
  called-counts None = refl
  called-counts (Some Clone) = clone_call-counts (arguments_of own_regs)
  called-counts (Some (Local call)) = local-counts call (arguments_of own_regs)
  called-counts (Some (Memory call)) = decided-counts (decide (process_of behind.node (thread_of behind.node t).process) v.memory frames call (arguments_of own_regs))
  called-counts (Some (File call)) = refl

  pub trap-counts : TrapCounts v (trap t frames v)
  unfolding trap
  trap-counts = go (stop_in (thread_of v.node t).does)
    where
      raise : (z : Stop) → SameCount v.node (raised t (signal_of_stop z) v.node)
      raise z = raised-closed t SameCount SameCount (same-count t) v.node (signal_of_stop z)

      go : (o : Option Stop) → TrapCounts v (trap_of_stop t frames v o)
      go None = refl
      go (Some Ecall) = called-counts (call_named own_regs)
      go (Some On) = raise On
      go (Some Break) = raise Break
      go (Some Illegal) = raise Illegal
      go (Some Misaligned) = raise Misaligned
      go (Some (StopFault l)) = raise (StopFault l)
