-- What a trap leaves of the node: one thread fewer is Stopped, and no line of the script more and no instruction more.
use Rattle.file_model.specs.Errno.{EAGAIN, EINVAL, ENOMEM, ENOSYS}
use Rattle.hybrid_laws.proofs.calls.Closed.{answered-closed, calls-closed, does-closed, past-closed, raised-closed}
use Rattle.hybrid_laws.proofs.maps.Sums.{counted_in, total-cut, total-le, total-put}
use Rattle.hybrid_laws.proofs.node.Goes.{Goes, WasThere}
use Rattle.hybrid_laws.proofs.node.Sound.{same-instructions}
use Rattle.hybrid_laws.proofs.node.Threads.{thread-other}
use Rattle.hybrid_laws.specs.Stopped.{stops}
use Rattle.hybrid_model.specs.Tallies.{as_number}
use Rattle.isa_model.specs.Memory.{may_access}
use Rattle.isa_model.specs.declared.stops.Stop.TheVariants.{Break, Ecall, Illegal, Misaligned, On, Fault as StopFault}
use Rattle.isa_model.specs.declared.stops.Stop.{Stop}
use Rattle.kernel_model.specs.Calls.{clone_call, local_call, one_of_calls}
use Rattle.kernel_model.specs.CloneCalls.{CallDone, are_clone_flags, are_fork_flags, child_process, child_thread, clone, clone_or_fork, cloned_thread, clones, forks, with_child, with_thread}
use Rattle.kernel_model.specs.LocalCalls.{refuses}
use Rattle.kernel_model.specs.MemoryCalls.{Decision, Now, Reply, Round, decide}
use Rattle.kernel_model.specs.Nodes.{Node, Process, Thread, answered, instructions_in_all, is_stopped, most_processes, most_threads, process_of, set_a0, set_does, stop_in, thread_of, threads_of}
use Rattle.kernel_model.specs.Signals.{View, on_node, raised, signal_of_stop, store}
use Rattle.kernel_model.specs.Traps.{Begins, Changes, Done, Forks, Trapped, arguments_of, call_named, called, cloned, decided, past_ecall, trap, trap_of_stop}
use Rattle.kernel_model.specs.declared.Does.TheVariants.{InVm, Ready}
use Rattle.mck_word.specs.MapLaws.{at-cut, at-put}
use Rattle.mck_word.specs.Maps.{at, count, cut, put, total}
use Rattle.mck_word.specs.Words.{has_bit, little_endian, refused, word_of}
use Rattle.mck_word.specs.declared.Access.TheVariants.{Write}
use Rattle.mck_word.specs.declared.Regs.{Regs}
use Rattle.std.proofs.Common.{ap, arith, refl, subst, sym, ◌∙◌}
use Rattle.std.specs.Prelude.{Bool, List, None, Option, Some, cond, false, get_or, length, nat_le, nat_lt, not, pos, true, ℕ, ℤ, ◌+◌, ◌==◌, ◌≡◌, ◌≤◌}
use Rattle.system_calls.specs.declared.LocalCall.{LocalCall}
use Rattle.system_calls.specs.declared.SystemCall.{SystemCall}
use Rattle.system_calls.specs.declared.SystemCall.TheVariants.{Clone, File, Local, Memory}
use Rattle.work_laws.proofs.node.Calmer.{Along, along}
use Rattle.work_laws.proofs.node.Settled.{Settled, answered-settled, calls-settled, does-settled, raised-settled}

-- ---- threads but one
abbrev pub Others : ℕ → Node → Node → Type 0
Others t a b = (u : ℕ) → (u == t) ≡ false → counted_in stops (at b.threads u) ≤ counted_in stops (at a.threads u)

row-stops : (o p : Option Thread) → ((y : Thread) → p ≡ Some y → WasThere o y) → counted_in stops p ≤ counted_in stops o
row-stops o None f = omega arith
row-stops o (Some y) f =
    let w = f y refl in
    let there = ap (counted_in stops) w.1 in
    let l = least (is_stopped y.does) (is_stopped w.0.does) w.4 in
    omega (arith, there, l)
  where
    least : (b c : Bool) → (b ≡ true → c ≡ true) → as_number b ≤ as_number c
    least false c g = omega arith
    least true true g = omega arith
    least true false g = absurd (let k = g refl in grind (arith, k))

pub goes-others : (t : ℕ) (a b : Node) → Goes a b → Others t a b
goes-others t a b g u d = row-stops (at a.threads u) (at b.threads u) (g.rows u)

-- one that was Stopped isn't any more
pub one-fewer : (t : ℕ) (a b : Node) → Others t a b → Settled t b → counted_in stops (at a.threads t) ≡ 1 → total stops b.threads + 1 ≤ total stops a.threads
one-fewer t a b others settled stopped =
    let c = total-cut stops b.threads t in
    let d = total-cut stops a.threads t in
    let l = total-le stops (cut b.threads t) (cut a.threads t) row in
    let z = settled.none in
    omega (arith, c, d, l, z, stopped)
  where
    row : (u : ℕ) → counted_in stops (at (cut b.threads t) u) ≤ counted_in stops (at (cut a.threads t) u)
    row u = let p = ap (counted_in stops) (at-cut b.threads t u) in let q = ap (counted_in stops) (at-cut a.threads t u) in let r = go (u == t) refl in omega (arith, p, q, r)
      where
        go : (x : Bool) → (u == t) ≡ x → counted_in stops (cond x None (at b.threads u)) ≤ counted_in stops (cond x None (at a.threads u))
        go true e = omega arith
        go false e = others u e

-- ---- a thread more, which is Ready
more-others : (t n : ℕ) (a b : Node) (y : Thread) → stops y ≡ 0 → b.threads ≡ put a.threads n y → Others t a b
more-others t n a b y ready threads u d = let p = ap (λ m. counted_in stops (at m u)) threads in let q = ap (counted_in stops) (at-put a.threads n y u) in let r = go (u == n) in omega (arith, p, q, r)
  where
    go : (x : Bool) → counted_in stops (cond x (Some y) (at a.threads u)) ≤ counted_in stops (at a.threads u)
    go true = omega (arith, ready)
    go false = omega arith

others-then : (t : ℕ) (a b c : Node) → Others t a b → Others t b c → Others t a c
others-then t a b c f g u d = let x = f u d in let y = g u d in omega (arith, x, y)

-- ---- what a trap comes to
pub record Ends (t : ℕ) (a b : Node) : Type 0 where
  pub others : Others t a b
  pub settled : Settled t b
  pub unsent : b.unsent ≡ a.unsent
  pub instructions : instructions_in_all b ≡ instructions_in_all a

abbrev pub TrapEnds : ℕ → Node → Trapped → Type 0
TrapEnds t a (Done w) = Ends t a w.node
TrapEnds t a (Forks w child stores) = Ends t a w.node
TrapEnds t a (Begins node progress) = Along a node
TrapEnds t a (Changes node change) = Along a node

module _ (t free : ℕ) (v : View) (fresh : at v.node.processes v.node.next_number ≡ None) where
  abbrev own_regs : Regs
  own_regs = (thread_of v.node t).regs

  abbrev behind : View
  behind = past_ecall t v

  abbrev n : ℕ
  n = v.node.next_number

  past : Along v.node behind.node
  past = past-closed t Along Along (along t) v.node

  ended : (a b : Node) → Along a b → Settled t b → Ends t a b
  ended a b g s = record { others = goes-others t a b g.goes; settled = s; unsent = g.unsent; instructions = same-instructions a b g.goes }

  done : (w : View) → Along behind.node w.node → Settled t w.node → TrapEnds t v.node (Done w)
  done w g s = ended v.node w.node ((along t).joined v.node behind.node w.node past g) s

  answers-done : (answer : ℤ) → Ends t v.node (answered t answer behind.node)
  answers-done answer = done (on_node (answered t answer) behind) (answered-closed t Along Along (along t) behind.node answer) (answered-settled t behind.node answer)

  stored : (b c : Bool) (address : ℕ) (bytes : List ℕ) (w : View) → (cond b (cond c (store address bytes w) w) w).node ≡ w.node
  stored true true address bytes w = refl
  stored true false address bytes w = refl
  stored false c address bytes w = refl

  -- ---- clone
  module _ (flags stack parent_tid tls child_tid : ℕ) where
    abbrev new_thread : Thread
    new_thread = cloned_thread behind.node (thread_of behind.node t) flags stack tls child_tid

    abbrev more : Node
    more = with_thread new_thread behind.node

    answered-others : (a : Node) → Others t a (answered t (pos n) a)
    answered-others a u d = let e = ap (counted_in stops) (thread-other a t u (λ (x : Thread). record x { regs = set_a0 (word_of (pos n)) x.regs; does = Ready }) d) in omega (arith, e)

    clone-made : Ends t v.node (answered t (pos n) more)
    clone-made = record {
      others = others-then t v.node behind.node (answered t (pos n) more) (goes-others t v.node behind.node past.goes) (others-then t behind.node more (answered t (pos n) more) (more-others t n behind.node more new_thread refl refl) (answered-others more));
      settled = answered-settled t more (pos n);
      unsent = past.unsent;
      instructions = same-instructions v.node behind.node past.goes;
    }

    clones-ends : Ends t v.node (clones t flags stack parent_tid tls child_tid behind).node
    clones-ends =
        let s = stored (has_bit 24 flags) (may_access told.memory Write child_tid (length (little_endian 4 n))) child_tid (little_endian 4 n) told
        ∙ stored (has_bit 20 flags) (may_access made.memory Write parent_tid (length (little_endian 4 n))) parent_tid (little_endian 4 n) made in
        subst (λ (m : Node). Ends t v.node (answered t (pos n) m)) (sym s) clone-made
      where
        made : View
        made = on_node (with_thread new_thread) behind

        told : View
        told = cond (has_bit 20 flags) (cond (may_access made.memory Write parent_tid (length (little_endian 4 n))) (store parent_tid (little_endian 4 n) made) made) made

    clone-ends : Ends t v.node (clone t flags stack parent_tid tls child_tid behind).node
    clone-ends = go (not (are_clone_flags flags)) (nat_le most_threads (length (threads_of behind.node (thread_of behind.node t).process)))
      where
        go : (b c : Bool) → Ends t v.node (cond b (refuses t EINVAL behind) (cond c (refuses t EAGAIN behind) (clones t flags stack parent_tid tls child_tid behind))).node
        go true c = answers-done (refused EINVAL)
        go false true = answers-done (refused EAGAIN)
        go false false = clones-ends

    -- ---- fork
    abbrev child : Node
    child = with_child t n flags stack tls child_tid behind.node

    abbrev child_row : Thread
    child_row = child_thread (thread_of behind.node t) n flags stack tls child_tid

    abbrev counts : Process → ℕ
    counts x = x.instructions

    fork-made : Ends t v.node (answered t (pos n) child)
    fork-made = record {
      others = others-then t v.node behind.node (answered t (pos n) child) (goes-others t v.node behind.node past.goes) (others-then t behind.node child (answered t (pos n) child) (more-others t n behind.node child child_row refl refl) (answered-others child));
      settled = answered-settled t child (pos n);
      unsent = past.unsent;
      instructions = (
          let q = (thread_of behind.node t).process in
          let a = total-put counts behind.node.processes n (child_process q (process_of behind.node q)) in
          let b = ap (counted_in counts) fresh in
          let c = same-instructions v.node behind.node past.goes in
          omega (arith, a, b, c)
          );
    }

    forks-ends : TrapEnds t v.node (cloned (forks t flags stack parent_tid tls child_tid behind))
    forks-ends =
        let s = stored (has_bit 20 flags) (may_access behind.memory Write parent_tid (length (little_endian 4 n))) parent_tid (little_endian 4 n) behind in
        subst (λ (m : Node). Ends t v.node (answered t (pos n) (with_child t n flags stack tls child_tid m))) (sym s) fork-made

    fork-ends : TrapEnds t v.node (cloned (clone_or_fork t free flags stack parent_tid tls child_tid behind))
    fork-ends = go (are_fork_flags flags) (nat_le most_processes (count v.node.processes)) (nat_lt free (count v.memory))
      where
        go : (b c d : Bool) → TrapEnds t v.node (cloned (cond b (cond c (CallDone (refuses t EAGAIN behind)) (cond d (CallDone (refuses t ENOMEM behind)) (forks t flags stack parent_tid tls child_tid behind))) (CallDone (clone t flags stack parent_tid tls child_tid behind))))
        go true true d = answers-done (refused EAGAIN)
        go true false true = answers-done (refused ENOMEM)
        go true false false = forks-ends
        go false c d = clone-ends

  -- ---- all calls
  cloned-ends : (arguments : List ℕ) → TrapEnds t v.node (cloned (clone_call t free arguments behind))
  unfolding clone_call
  cloned-ends arguments = fork-ends (get_or arguments 0 0) (get_or arguments 1 0) (get_or arguments 2 0) (get_or arguments 3 0) (get_or arguments 4 0)

  local-ends : (call : LocalCall) (arguments : List ℕ) → TrapEnds t v.node (Done (local_call t call arguments behind))
  unfolding local_call
  local-ends call arguments = done (one_of_calls t call (λ j. get_or arguments j 0) behind) (calls-closed t Along Along (along t) call (λ j. get_or arguments j 0) behind) (calls-settled t call (λ j. get_or arguments j 0) behind)

  decided-ends : (d : Decision) → TrapEnds t v.node (decided t behind d)
  decided-ends (Reply answer) = answers-done answer
  decided-ends (Now change) = past
  decided-ends (Round change) = done (on_node (set_does t (InVm change)) behind) (does-closed t Along Along (along t) behind.node (InVm change) refl) (does-settled t behind.node (InVm change) refl)

  called-ends : (o : Option SystemCall) → TrapEnds t v.node (called t free own_regs behind o)
  called-ends None = answers-done (refused ENOSYS)
  called-ends (Some Clone) = cloned-ends (arguments_of own_regs)
  called-ends (Some (Local call)) = local-ends call (arguments_of own_regs)
  called-ends (Some (Memory call)) = decided-ends (decide (process_of behind.node (thread_of behind.node t).process) v.memory free call (arguments_of own_regs))
  called-ends (Some (File call)) = past

  pub trap-ends : (stop : Stop) → stop_in (thread_of v.node t).does ≡ Some stop → TrapEnds t v.node (trap t free v)
  unfolding trap
  trap-ends stop is = go (stop_in (thread_of v.node t).does) is
    where
      raise : (z : Stop) → Ends t v.node (raised t (signal_of_stop z) v.node)
      raise z = ended v.node (raised t (signal_of_stop z) v.node) (raised-closed t Along Along (along t) v.node (signal_of_stop z)) (raised-settled t v.node (signal_of_stop z))

      go : (o : Option Stop) → o ≡ Some stop → TrapEnds t v.node (trap_of_stop t free v o)
      go None e = absurd (grind (arith, e))
      go (Some Ecall) e = called-ends (call_named own_regs)
      go (Some On) e = raise On
      go (Some Break) e = raise Break
      go (Some Illegal) e = raise Illegal
      go (Some Misaligned) e = raise Misaligned
      go (Some (StopFault l)) e = raise (StopFault l)
