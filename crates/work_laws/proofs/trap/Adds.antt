-- What a trap adds to what is left to do, whatever it comes to.
use Rattle.file_model.specs.Errno.{EAGAIN, ENOMEM, ENOSYS}
use Rattle.file_model.specs.Files.{share}
use Rattle.hybrid_laws.proofs.maps.Sums.{total-put}
use Rattle.isa_model.specs.Memory.{may_access}
use Rattle.isa_model.specs.declared.stops.Stop.TheVariants.{Break, Ecall, Illegal, Misaligned, On, Fault as StopFault}
use Rattle.isa_model.specs.declared.stops.Stop.{Stop}
use Rattle.kernel_model.specs.Calls.{clone_call, local_call, one_of_calls}
use Rattle.kernel_model.specs.CloneCalls.{CallDone, are_fork_flags, child_process, child_thread, clone, clone_or_fork, forks, with_child}
use Rattle.kernel_model.specs.LocalCalls.{answers, refuses}
use Rattle.kernel_model.specs.MemoryCalls.{Decision, Now, Reply, Round, decide}
use Rattle.kernel_model.specs.Nodes.{Node, answered, most_processes, process_of, set_pc, stop_in, thread_of}
use Rattle.kernel_model.specs.Signals.{View, on_node, raised, signal_of_stop, store}
use Rattle.kernel_model.specs.Traps.{Begins, Changes, Done, Forks, Trapped, arguments_of, call_named, called, cloned, decided, past_ecall, trap, trap_of_stop}
use Rattle.kernel_model.specs.declared.Does.TheVariants.{InVm}
use Rattle.mck_word.specs.Maps.{count}
use Rattle.mck_word.specs.Words.{has_bit, little_endian, refused}
use Rattle.mck_word.specs.declared.Access.TheVariants.{Write}
use Rattle.mck_word.specs.declared.Regs.{Regs}
use Rattle.std.proofs.Common.{ap, arith, refl}
use Rattle.std.specs.Prelude.{Bool, List, None, Option, Some, cond, false, get_or, length, nat_le, nat_lt, pos, true, ℕ, ℤ, ◌+◌, ◌≡◌, ◌≤◌}
use Rattle.system_calls.specs.declared.LocalCall.{LocalCall}
use Rattle.system_calls.specs.declared.SystemCall.{SystemCall}
use Rattle.system_calls.specs.declared.SystemCall.TheVariants.{Clone, File, Local, Memory}
use Rattle.work_laws.proofs.calls.Begins.{most_call, phases-few}
use Rattle.work_laws.proofs.node.CallsAdd.{calls-add, clone-adds}
use Rattle.work_laws.proofs.node.Left.{Adds, adds-more, adds-none, adds-then, answered-adds, does-adds, raised-adds, thread-adds}
use Rattle.work_laws.proofs.node.Signals.{no-signals}
use Rattle.work_laws.specs.KernelLeft.{Prices, node_left, of_process, of_thread, progress_left}

-- a fork makes a process, with its parent's descriptors
pub record ForkAdds (k : Prices) (a b : Node) : Type 0 where
  pub less : node_left k b ≤ node_left k a + k.process
  pub parent : ℕ
  pub child : ℕ
  pub files : b.files ≡ share parent child a.files

abbrev pub TrapAdds : Prices → View → Trapped → Type 0
TrapAdds k v (Done w) = Adds k (1 + k.change) v.node w.node
TrapAdds k v (Forks w child stores) = ForkAdds k v.node w.node
TrapAdds k v (Begins node progress) = Adds k 0 v.node node × (progress_left progress ≤ most_call)
TrapAdds k v (Changes node change) = Adds k 0 v.node node

module _ (k : Prices) (t free : ℕ) (v : View) where
  abbrev own_regs : Regs
  own_regs = (thread_of v.node t).regs

  abbrev behind : View
  behind = past_ecall t v

  past : Adds k 0 v.node behind.node
  past = thread-adds k v.node t (λ x. record x { regs = set_pc (x.regs.pc + 4) x.regs }) 0 (λ x. omega arith)

  -- a call that is done adds one at most
  one : (w : View) → Adds k 1 behind.node w.node → TrapAdds k v (Done w)
  one w f = adds-more k v.node w.node 1 (1 + k.change) (omega arith) (adds-then k v.node behind.node w.node 0 1 past f)

  answers-one : (answer : ℤ) → TrapAdds k v (Done (answers t answer behind))
  answers-one answer = one (answers t answer behind) (adds-more k behind.node _ 0 1 (omega arith) (answered-adds k behind.node t answer))

  -- ---- a fork
  stored : (b c : Bool) (address : ℕ) (bytes : List ℕ) (w : View) → (cond b (cond c (store address bytes w) w) w).node ≡ w.node
  stored true true address bytes w = refl
  stored true false address bytes w = refl
  stored false c address bytes w = refl

  module _ (flags stack parent_tid tls child_tid : ℕ) where
    abbrev child : ℕ
    child = behind.node.next_number

    abbrev told : View
    told = cond (has_bit 20 flags) (cond (may_access behind.memory Write parent_tid (length (little_endian 4 child))) (store parent_tid (little_endian 4 child) behind) behind) behind

    made : (a : Node) → node_left k (answered t (pos child) (with_child t child flags stack tls child_tid a)) ≤ node_left k a + k.process
    made a =
        let x = thread_of a t in
        let p = total-put (of_process k.process) a.processes child (child_process x.process (process_of a x.process)) in
        let q = total-put (of_thread k.change) a.threads child (child_thread x child flags stack tls child_tid) in
        let z = no-signals in
        let b = answered-adds k (with_child t child flags stack tls child_tid a) t (pos child) in
        let c = b.less in
        omega (arith, p, q, z, c)

    forks-adds : ForkAdds k v.node (answers t (pos child) (on_node (with_child t child flags stack tls child_tid) told)).node
    forks-adds =
        let s = stored (has_bit 20 flags) (may_access behind.memory Write parent_tid (length (little_endian 4 child))) parent_tid (little_endian 4 child) behind in
        let a = made behind.node in
        let b = past.less in
        let n = ap (λ (m : Node). answered t (pos child) (with_child t child flags stack tls child_tid m)) s in
        let c = ap (node_left k) n in
        record { less = omega (arith, a, b, c); parent = (thread_of behind.node t).process; child = child; files = ap (λ (m : Node). share (thread_of m t).process child m.files) s }

  fork-adds : (flags stack parent_tid tls child_tid : ℕ) → TrapAdds k v (cloned (clone_or_fork t free flags stack parent_tid tls child_tid behind))
  fork-adds flags stack parent_tid tls child_tid = go (are_fork_flags flags) (nat_le most_processes (count v.node.processes)) (nat_lt free (count v.memory))
    where
      go : (b c d : Bool) → TrapAdds k v (cloned (cond b (cond c (CallDone (refuses t EAGAIN behind)) (cond d (CallDone (refuses t ENOMEM behind)) (forks t flags stack parent_tid tls child_tid behind))) (CallDone (clone t flags stack parent_tid tls child_tid behind))))
      go true true d = answers-one (refused EAGAIN)
      go true false true = answers-one (refused ENOMEM)
      go true false false = forks-adds flags stack parent_tid tls child_tid
      go false c d = one (clone t flags stack parent_tid tls child_tid behind) (clone-adds k t flags stack parent_tid tls child_tid behind)

  cloned-adds : (arguments : List ℕ) → TrapAdds k v (cloned (clone_call t free arguments behind))
  unfolding clone_call
  cloned-adds arguments = fork-adds (get_or arguments 0 0) (get_or arguments 1 0) (get_or arguments 2 0) (get_or arguments 3 0) (get_or arguments 4 0)

  local-adds : (call : LocalCall) (arguments : List ℕ) → TrapAdds k v (Done (local_call t call arguments behind))
  unfolding local_call
  local-adds call arguments = one (one_of_calls t call (λ j. get_or arguments j 0) behind) (calls-add k t call (λ j. get_or arguments j 0) behind)

  decided-adds : (d : Decision) → TrapAdds k v (decided t behind d)
  decided-adds (Reply answer) = answers-one answer
  decided-adds (Now change) = past
  decided-adds (Round change) = adds-more k v.node _ (0 + k.change) (1 + k.change) (omega arith) (adds-then k v.node behind.node _ 0 k.change past (does-adds k behind.node t (InVm change)))

  called-adds : (o : Option SystemCall) → TrapAdds k v (called t free own_regs behind o)
  called-adds None = answers-one (refused ENOSYS)
  called-adds (Some Clone) = cloned-adds (arguments_of own_regs)
  called-adds (Some (Local call)) = local-adds call (arguments_of own_regs)
  called-adds (Some (Memory call)) = decided-adds (decide (process_of behind.node (thread_of behind.node t).process) v.memory free call (arguments_of own_regs))
  called-adds (Some (File call)) = (past, phases-few call (arguments_of own_regs))

  pub trap-adds : TrapAdds k v (trap t free v)
  unfolding trap
  trap-adds = go (stop_in (thread_of v.node t).does)
    where
      raise : (z : Stop) → TrapAdds k v (Done (on_node (raised t (signal_of_stop z)) v))
      raise z = adds-more k v.node _ 1 (1 + k.change) (omega arith) (raised-adds k v.node t (signal_of_stop z))

      go : (o : Option Stop) → TrapAdds k v (trap_of_stop t free v o)
      go None = adds-more k v.node v.node 0 (1 + k.change) (omega arith) (adds-none k v.node)
      go (Some Ecall) = called-adds (call_named own_regs)
      go (Some On) = raise On
      go (Some Break) = raise Break
      go (Some Illegal) = raise Illegal
      go (Some Misaligned) = raise Misaligned
      go (Some (StopFault l)) = raise (StopFault l)
