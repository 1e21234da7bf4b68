-- What a trap that begins a call, changes the memory or makes a process says of it.
use Rattle.file_model.specs.Errno.{EAGAIN, ENOMEM}
use Rattle.isa_model.specs.Memory.{may_access}
use Rattle.isa_model.specs.declared.stops.Stop.TheVariants.{Break, Ecall, Illegal, Misaligned, On, Fault as StopFault}
use Rattle.isa_model.specs.declared.stops.Stop.{Stop}
use Rattle.kernel_model.specs.Calls.{clone_call}
use Rattle.kernel_model.specs.CloneCalls.{CallDone, are_fork_flags, clone, clone_or_fork, forks, with_child}
use Rattle.kernel_model.specs.LocalCalls.{refuses}
use Rattle.kernel_model.specs.MemoryCalls.{Reply as DecidedReply, Round as DecidedRound, Decision, Now, decide}
use Rattle.kernel_model.specs.Nodes.{Node, most_processes, process_of, stop_in, thread_of, answered}
use Rattle.kernel_model.specs.CallPhases.{phases_of}
use Rattle.kernel_model.specs.Progress.{starting}
use Rattle.kernel_model.specs.Signals.{View, store}
use Rattle.kernel_model.specs.Traps.{Begins, Changes, Done, Forks, Trapped, arguments_of, call_named, called, cloned, decided, past_ecall, trap, trap_of_stop}
use Rattle.mck_word.specs.Maps.{change, count}
use Rattle.mck_word.specs.Words.{has_bit, little_endian}
use Rattle.mck_word.specs.declared.Access.TheVariants.{Write}
use Rattle.mck_word.specs.declared.Regs.{Regs}
use Rattle.std.proofs.Common.{refl, ap}
use Rattle.std.specs.Prelude.{Bool, List, None, Option, Some, cond, false, get_or, nat_le, nat_lt, true, ℕ, ◌≡◌, length, pos}
use Rattle.system_calls.specs.declared.MemoryCall.{MemoryCall}
use Rattle.system_calls.specs.declared.SystemCall.TheVariants.{Clone, File, Local, Memory}
use Rattle.system_calls.specs.declared.SystemCall.{SystemCall}

abbrev pub call_regs : ℕ → Node → Regs
call_regs t node = (thread_of node t).regs

-- a fork has the next number, and as many free frames as the caller has rows; the node that it leaves
pub record ForkSays (t frames : ℕ) (v w : View) (child : ℕ) : Type 0 where
  pub number : child ≡ v.node.next_number
  pub enough : nat_lt frames (count v.memory) ≡ false
  pub flags : ℕ
  pub stack : ℕ
  pub tls : ℕ
  pub child_tid : ℕ
  pub node : w.node ≡ answered t (pos child) (with_child t child flags stack tls child_tid (past_ecall t v).node)

-- a call that begins is at its first phase; a change made at once was decided so
abbrev pub TrappedSays : ℕ → ℕ → View → Trapped → Type 0
TrappedSays t frames v (Done w) = Unit {0}
TrappedSays t frames v (Forks w child stores) = ForkSays t frames v w child
TrappedSays t frames v (Begins new progress) =
    (new ≡ (past_ecall t v).node) × (progress ≡ starting progress.call progress.arguments (phases_of progress.call progress.arguments))
TrappedSays t frames v (Changes new change) =
    (new ≡ (past_ecall t v).node) × (call : MemoryCall) × (decide (process_of new (thread_of new t).process) v.memory frames call (arguments_of (call_regs t v.node)) ≡ Now change)

module _ (t frames : ℕ) (v : View) where
  abbrev r : Regs
  r = call_regs t v.node

  abbrev behind : View
  behind = past_ecall t v

  fork-says : (flags stack parent_tid tls child_tid : ℕ) → TrappedSays t frames v (cloned (clone_or_fork t frames flags stack parent_tid tls child_tid behind))
  fork-says flags stack parent_tid tls child_tid = go (are_fork_flags flags) (nat_le most_processes (count v.node.processes)) (nat_lt frames (count v.memory)) refl
    where
      n : ℕ
      n = v.node.next_number

      told : (b c : Bool) → (cond b (cond c (store parent_tid (little_endian 4 n) behind) behind) behind).node ≡ behind.node
      told true true = refl
      told true false = refl
      told false c = refl

      go : (b c d : Bool) → nat_lt frames (count v.memory) ≡ d → TrappedSays t frames v (cloned (cond b (cond c (CallDone (refuses t EAGAIN behind)) (cond d (CallDone (refuses t ENOMEM behind)) (forks t flags stack parent_tid tls child_tid behind))) (CallDone (clone t flags stack parent_tid tls child_tid behind))))
      go true true d e = tt
      go true false true e = tt
      go true false false e = record { number = refl; enough = e; flags = flags; stack = stack; tls = tls; child_tid = child_tid; node = ap (λ (m : Node). answered t (pos n) (with_child t n flags stack tls child_tid m)) (told (has_bit 20 flags) (may_access v.memory Write parent_tid (length (little_endian 4 n)))) }
      go false c d e = tt

  clone_call-says : (arguments : List ℕ) → TrappedSays t frames v (cloned (clone_call t frames arguments behind))
  unfolding clone_call
  clone_call-says arguments = fork-says (get_or arguments 0 0) (get_or arguments 1 0) (get_or arguments 2 0) (get_or arguments 3 0) (get_or arguments 4 0)

  decided-says : (call : MemoryCall) (d : Decision) → decide (process_of behind.node (thread_of behind.node t).process) v.memory frames call (arguments_of r) ≡ d → TrappedSays t frames v (decided t behind d)
  decided-says call (DecidedReply answer) e = tt
  decided-says call (Now change) e = (refl, call, e)
  decided-says call (DecidedRound change) e = tt

  called-says : (o : Option SystemCall) → TrappedSays t frames v (called t frames r behind o)
  called-says None = tt
  called-says (Some Clone) = clone_call-says (arguments_of r)
  called-says (Some (Local call)) = tt
  called-says (Some (Memory call)) = decided-says call (decide (process_of behind.node (thread_of behind.node t).process) v.memory frames call (arguments_of r)) refl
  called-says (Some (File call)) = (refl, refl)

  pub trap-says : TrappedSays t frames v (trap t frames v)
  unfolding trap
  trap-says = go (stop_in (thread_of v.node t).does)
    where
      go : (o : Option Stop) → TrappedSays t frames v (trap_of_stop t frames v o)
      go None = tt
      go (Some Ecall) = called-says (call_named r)
      go (Some On) = tt
      go (Some Break) = tt
      go (Some Illegal) = tt
      go (Some Misaligned) = tt
      go (Some (StopFault l)) = tt
