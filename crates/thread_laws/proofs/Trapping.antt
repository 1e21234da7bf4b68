-- A trap may end its own thread and make one with the next number, and leaves every other thread in its process.
use Rattle.hybrid_model.specs.declared.events.Event.TheVariants as Events
use Rattle.file_model.specs.Errno.{EAGAIN, EINVAL, ENOMEM, ENOSYS}
use Rattle.hybrid_laws.proofs.calls.Closed.{calls-closed, finishes-closed, raised-closed}
use Rattle.hybrid_model.specs.Events.{after_here, of_thread}
use Rattle.hybrid_model.specs.OneProcess.{set_break, view_here}
use Rattle.hybrid_model.specs.Trap.{after_trap, trapped}
use Rattle.hybrid_model.specs.Pairs.{Here}
use Rattle.isa_model.specs.Memory.{may_access}
use Rattle.isa_model.specs.declared.stops.Stop.TheVariants.{Break, Ecall, Illegal, Misaligned, On, Fault as StopFault}
use Rattle.isa_model.specs.declared.stops.Stop.{Stop}
use Rattle.kernel_model.specs.Calls.{clone_call, local_call}
use Rattle.kernel_model.specs.CloneCalls.{CallDone, are_clone_flags, are_fork_flags, child_thread, clone, clone_or_fork, cloned_thread, clones, forks, with_child, with_thread}
use Rattle.kernel_model.specs.LocalCalls.{answers, refuses}
use Rattle.kernel_model.specs.MemoryCalls.{Decision, Now, Reply as DecidedReply, Round as DecidedRound, answer_of_change, decide, effect_of}
use Rattle.kernel_model.specs.Nodes.{Node, Thread, answered, most_processes, most_threads, process_of, set_does, set_pc, stop_in, thread_of, threads_of}
use Rattle.kernel_model.specs.Signals.{View, on_node, raised, signal_of_stop, store}
use Rattle.kernel_model.specs.Traps.{Begins, Changes, Done, Forks, Trapped, arguments_of, call_named, called, cloned, decided, finishes, past_ecall, trap, trap_of_stop}
use Rattle.kernel_model.specs.declared.Does.TheVariants.{Called, InVm}
use Rattle.mck_word.specs.MapLaws.{at-put}
use Rattle.mck_word.specs.Maps.{at, count}
use Rattle.mck_word.specs.Words.{has_bit, little_endian, refused}
use Rattle.mck_word.specs.declared.Access.TheVariants.{Write}
use Rattle.mck_word.specs.declared.Regs.{Regs}
use Rattle.mck_word.specs.declared.Tid.{Tid}
use Rattle.std.proofs.Common.{ap, arith, refl, sym, ◌∙◌}
use Rattle.std.proofs.lemmas.Bool.Decides.{nat_tests}
use Rattle.std.specs.Prelude.{Bool, List, None, Option, Some, cond, false, get_or, length, nat_le, nat_lt, not, pos, true, ℕ, ℤ, ◌+◌, ◌==◌, ◌||◌, ◌≡◌}
use Rattle.system_calls.specs.declared.LocalCall.{LocalCall}
use Rattle.system_calls.specs.declared.SystemCall.TheVariants.{Clone, File, Local, Memory}
use Rattle.system_calls.specs.declared.SystemCall.{SystemCall}
use Rattle.thread_laws.proofs.Members.{OnlyOwn, TrapThreads}
use Rattle.thread_laws.proofs.Others.{answered-same}
use Rattle.thread_laws.proofs.Stays.{changed-same, joined-own, own-closed, own-of-same, same-process}
use Rattle.thread_laws.specs.Members.{SameThreads, process_at, process_in}

-- thread n is made, in process q
abbrev Made : (n q : ℕ) → Node → Node → Type 0
Made n q a b = (u : ℕ) → process_at b u ≡ cond (u == n) (Some q) (process_at a u)

put-made : (n : ℕ) (x : Thread) (u : ℕ) (m : Node) → process_in (cond (u == n) (Some x) (at m.threads u)) ≡ cond (u == n) (Some x.process) (process_at m u)
put-made n x u m = go (u == n)
  where
    go : (b : Bool) → process_in (cond b (Some x) (at m.threads u)) ≡ cond b (Some x.process) (process_at m u)
    go true = refl
    go false = refl

-- ---- from what a part of a trap leaves: the next number is free, and isn't that of t
module _ (t : ℕ) (a : Node) (unmade : process_at a a.next_number ≡ None) (other : (t == a.next_number) ≡ false) where
  none-made : (b : Node) → process_at b a.next_number ≡ process_at a a.next_number → (q : ℕ) → process_at b a.next_number ≡ Some q → (q == of_thread a t || q == a.next_number) ≡ true
  none-made b f q e = absurd (let k = sym unmade ∙ sym f ∙ e in grind (arith, k))

  trap-of-own : (b : Node) → OnlyOwn t a b → TrapThreads t a b
  trap-of-own b f = record {
    others = λ u n m. f.others u n;
    own = f.own;
    unmade = unmade;
    made = none-made b (f.others a.next_number (grind (arith, nat_tests, other)));
  }

  trap-of-same : (b : Node) → SameThreads a b → TrapThreads t a b
  trap-of-same b f = trap-of-own b (own-of-same t a b f)

  trap-of-made : (b : Node) (q : ℕ) → (q == of_thread a t || q == a.next_number) ≡ true → Made a.next_number q a b → TrapThreads t a b
  trap-of-made b q is f = record {
    others = λ u n m. f u ∙ ap (λ c. cond c (Some q) (process_at a u)) m;
    own = λ r e. sym (f t ∙ ap (λ c. cond c (Some q) (process_at a t)) other) ∙ e;
    unmade = unmade;
    made = λ r e. named r (let same : (a.next_number == a.next_number) ≡ true = grind (arith, nat_tests) in sym (f a.next_number ∙ ap (λ c. cond c (Some q) (process_at a a.next_number)) same) ∙ e);
  }
    where
      named : (r : ℕ) → Some q ≡ Some r → (r == of_thread a t || r == a.next_number) ≡ true
      named r e = let g : q ≡ r = cc in ap (λ (z : ℕ). z == of_thread a t || z == a.next_number) (sym g) ∙ is

-- ---- a trap
-- a call that begins and a change that is made at once leave the threads as they are before that
abbrev TrapLeaves : ℕ → View → Trapped → Type 0
TrapLeaves t v (Done w) = TrapThreads t v.node w.node
TrapLeaves t v (Forks w child stores) = TrapThreads t v.node w.node
TrapLeaves t v (Begins node progress) = SameThreads v.node node
TrapLeaves t v (Changes node change) = SameThreads v.node node

module _ (t frames : ℕ) (v : View) (unmade : process_at v.node v.node.next_number ≡ None) (other : (t == v.node.next_number) ≡ false) where
  abbrev own_regs : Regs
  own_regs = (thread_of v.node t).regs

  abbrev behind : View
  behind = past_ecall t v

  abbrev n : ℕ
  n = v.node.next_number

  past-same : SameThreads v.node behind.node
  past-same = changed-same v.node t (λ (x : Thread). record x { regs = set_pc (x.regs.pc + 4) x.regs }) (λ x. refl)

  of-same : (b : Node) → SameThreads behind.node b → TrapThreads t v.node b
  of-same b f = trap-of-same t v.node unmade other b (λ u. f u ∙ past-same u)

  of-own : (b : Node) → OnlyOwn t behind.node b → TrapThreads t v.node b
  of-own b f = trap-of-own t v.node unmade other b (joined-own t v.node behind.node b (own-of-same t v.node behind.node past-same) f)

  replied : (z : ℤ) → TrapThreads t v.node (answers t z behind).node
  replied z = of-same (answers t z behind).node (answered-same behind.node t z)

  tried : (b c : Bool) (a : ℕ) (bytes : List ℕ) (w : View) → SameThreads w.node (cond b (cond c (store a bytes w) w) w).node
  tried true true a bytes w u = refl
  tried true false a bytes w u = refl
  tried false c a bytes w u = refl

  clones-leaves : (flags stack parent_tid tls child_tid : ℕ) → TrapThreads t v.node (clones t flags stack parent_tid tls child_tid behind).node
  clones-leaves flags stack parent_tid tls child_tid = trap-of-made t v.node unmade other (clones t flags stack parent_tid tls child_tid behind).node new.process own made-is
    where
      new : Thread
      new = cloned_thread behind.node (thread_of behind.node t) flags stack tls child_tid

      made : View
      made = on_node (with_thread (cloned_thread behind.node (thread_of behind.node t) flags stack tls child_tid)) behind

      told : View
      told = cond (has_bit 20 flags) (cond (may_access made.memory Write parent_tid (length (little_endian 4 n))) (store parent_tid (little_endian 4 n) made) made) made

      ended : View
      ended = cond (has_bit 24 flags) (cond (may_access told.memory Write child_tid (length (little_endian 4 n))) (store child_tid (little_endian 4 n) told) told) told

      own : (new.process == of_thread v.node t || new.process == n) ≡ true
      own = let e = same-process v.node behind.node t past-same in let f : (of_thread behind.node t == of_thread v.node t) ≡ true = grind (arith, nat_tests, e) in ap (λ b. b || of_thread behind.node t == n) f

      made-is : Made n new.process v.node (answered t (pos n) ended.node)
      made-is u =
          answered-same ended.node t (pos n) u
          ∙ tried (has_bit 24 flags) (may_access told.memory Write child_tid (length (little_endian 4 n))) child_tid (little_endian 4 n) told u
          ∙ tried (has_bit 20 flags) (may_access made.memory Write parent_tid (length (little_endian 4 n))) parent_tid (little_endian 4 n) made u
          ∙ ap process_in (at-put behind.node.threads n new u) ∙ put-made n new u behind.node ∙ ap (cond (u == n) (Some new.process)) (past-same u)

  clone-leaves : (flags stack parent_tid tls child_tid : ℕ) → TrapLeaves t v (cloned (CallDone (clone t flags stack parent_tid tls child_tid behind)))
  clone-leaves flags stack parent_tid tls child_tid = go (not (are_clone_flags flags)) (nat_le most_threads (length (threads_of behind.node (thread_of behind.node t).process)))
    where
      go : (b c : Bool) → TrapLeaves t v (cloned (CallDone (cond b (refuses t EINVAL behind) (cond c (refuses t EAGAIN behind) (clones t flags stack parent_tid tls child_tid behind)))))
      go true c = replied (refused EINVAL)
      go false true = replied (refused EAGAIN)
      go false false = clones-leaves flags stack parent_tid tls child_tid

  forks-leaves : (flags stack parent_tid tls child_tid : ℕ) → TrapLeaves t v (cloned (forks t flags stack parent_tid tls child_tid behind))
  forks-leaves flags stack parent_tid tls child_tid = trap-of-made t v.node unmade other (answered t (pos n) (with_child t n flags stack tls child_tid told.node)) n named made-is
    where
      told : View
      told = cond (has_bit 20 flags) (cond (may_access behind.memory Write parent_tid (length (little_endian 4 n))) (store parent_tid (little_endian 4 n) behind) behind) behind

      new : Thread
      new = child_thread (thread_of told.node t) n flags stack tls child_tid

      named : (n == of_thread v.node t || n == n) ≡ true
      named = grind (arith, nat_tests)

      made-is : Made n n v.node (answered t (pos n) (with_child t n flags stack tls child_tid told.node))
      made-is u =
          answered-same (with_child t n flags stack tls child_tid told.node) t (pos n) u
          ∙ ap process_in (at-put told.node.threads n new u) ∙ put-made n new u told.node
          ∙ ap (cond (u == n) (Some n)) (tried (has_bit 20 flags) (may_access behind.memory Write parent_tid (length (little_endian 4 n))) parent_tid (little_endian 4 n) behind u ∙ past-same u)

  fork-leaves : (flags stack parent_tid tls child_tid : ℕ) → TrapLeaves t v (cloned (clone_or_fork t frames flags stack parent_tid tls child_tid behind))
  fork-leaves flags stack parent_tid tls child_tid = go (are_fork_flags flags) (nat_le most_processes (count v.node.processes)) (nat_lt frames (count v.memory))
    where
      go : (b c d : Bool) → TrapLeaves t v (cloned (cond b (cond c (CallDone (refuses t EAGAIN behind)) (cond d (CallDone (refuses t ENOMEM behind)) (forks t flags stack parent_tid tls child_tid behind))) (CallDone (clone t flags stack parent_tid tls child_tid behind))))
      go true true d = replied (refused EAGAIN)
      go true false true = replied (refused ENOMEM)
      go true false false = forks-leaves flags stack parent_tid tls child_tid
      go false c d = clone-leaves flags stack parent_tid tls child_tid

  local-leaves : (call : LocalCall) (arguments : List ℕ) → TrapThreads t v.node (local_call t call arguments behind).node
  unfolding local_call
  local-leaves call arguments = of-own (local_call t call arguments behind).node (calls-closed t (OnlyOwn t) (OnlyOwn t) (own-closed t) call (λ j. get_or arguments j 0) behind)

  clone_call-leaves : (arguments : List ℕ) → TrapLeaves t v (cloned (clone_call t frames arguments behind))
  unfolding clone_call
  clone_call-leaves arguments = fork-leaves (get_or arguments 0 0) (get_or arguments 1 0) (get_or arguments 2 0) (get_or arguments 3 0) (get_or arguments 4 0)

  decided-leaves : (d : Decision) → TrapLeaves t v (decided t behind d)
  decided-leaves (DecidedReply answer) = replied answer
  decided-leaves (Now change) = past-same
  decided-leaves (DecidedRound change) = of-same (set_does t (InVm change) behind.node) (changed-same behind.node t (λ x. record x { does = InVm change }) (λ x. refl))

  called-leaves : (o : Option SystemCall) → TrapLeaves t v (called t frames own_regs behind o)
  called-leaves None = replied (refused ENOSYS)
  called-leaves (Some Clone) = clone_call-leaves (arguments_of own_regs)
  called-leaves (Some (Local call)) = local-leaves call (arguments_of own_regs)
  called-leaves (Some (Memory call)) = decided-leaves (decide (process_of behind.node (thread_of behind.node t).process) v.memory frames call (arguments_of own_regs))
  called-leaves (Some (File call)) = past-same

  trap-leaves : TrapLeaves t v (trap t frames v)
  unfolding trap
  trap-leaves = go (stop_in (thread_of v.node t).does)
    where
      raise : (z : Stop) → TrapThreads t v.node (raised t (signal_of_stop z) v.node)
      raise z = trap-of-own t v.node unmade other (raised t (signal_of_stop z) v.node) (raised-closed t (OnlyOwn t) (OnlyOwn t) (own-closed t) v.node (signal_of_stop z))

      go : (o : Option Stop) → TrapLeaves t v (trap_of_stop t frames v o)
      go None = trap-of-same t v.node unmade other v.node (λ u. refl)
      go (Some Ecall) = called-leaves (call_named own_regs)
      go (Some On) = raise On
      go (Some Break) = raise Break
      go (Some Illegal) = raise Illegal
      go (Some Misaligned) = raise Misaligned
      go (Some (StopFault l)) = raise (StopFault l)

-- ---- the event
pub trap-threads : (t : Tid) (p : ℕ) (h : Here) → process_at h.node h.node.next_number ≡ None → (t.0 == h.node.next_number) ≡ false → TrapThreads t.0 h.node (after_here (Events.Trap t) p h).node
unfolding after_trap
trap-threads t p h unmade other = go (trap t.0 (length h.free) (view_here h)) (trap-leaves t.0 (length h.free) (view_here h) unmade other)
  where
    go : (y : Trapped) → TrapLeaves t.0 (view_here h) y → TrapThreads t.0 h.node (trapped p t.0 y h).node
    go (Done v) s = s
    go (Forks v child stores) s = s
    go (Begins node progress) s = trap-of-same t.0 h.node unmade other (set_does t.0 Called node) (λ u. changed-same node t.0 (λ x. record x { does = Called }) (λ x. refl) u ∙ s u)
    go (Changes node change) s = trap-of-own t.0 h.node unmade other (finishes t.0 (answer_of_change change) broken)
        (joined-own t.0 h.node broken (finishes t.0 (answer_of_change change) broken) (own-of-same t.0 h.node broken s) (finishes-closed t.0 (OnlyOwn t.0) (OnlyOwn t.0) (own-closed t.0) broken (answer_of_change change)))
      where
        broken : Node
        broken = set_break p (effect_of (process_of node p) change).program_break node
