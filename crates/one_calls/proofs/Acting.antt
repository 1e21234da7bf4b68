-- rt_sigaction and rt_sigprocmask, where they aren't refused: what they make of the node and of the memory.
use Rattle.isa_model.specs.Memory.{Memory, read_bytes, write_bytes}
use Rattle.kernel_model.specs.Nodes.{Node, Thread, action_of, answered, change_thread, process_of, thread_of}
use Rattle.kernel_model.specs.SignalCalls.{action_bytes, action_in, nat_of, new_mask, sets_action, sets_mask, sigaction}
use Rattle.kernel_model.specs.LocalCalls.{refuses}
use Rattle.file_model.specs.Errno.{EFAULT, EINVAL}
use Rattle.kernel_model.specs.Signals.{View, drop_ignored, on_node, store, stored_all, view, with_action}
use Rattle.kernel_model.specs.declared.Action.{Action}
use Rattle.mck_word.specs.Words.{little_endian, number_of}
use Rattle.one_calls.specs.SignalWords.{asked_action, asked_set, given_action, given_mask, is_wrong_action, lacks_access}
use Rattle.std.proofs.Common.{refl}
use Rattle.std.specs.Prelude.{Bool, None, Some, cond, false, pos, true, ℕ, ℤ, ◌==◌, ◌≡◌}

module _ (t signal act old : ℕ) (k : Node) (m : Memory) where
  before : Action
  before = action_of (process_of k (thread_of k t).process) signal

  new : Action
  new = action_in (read_bytes m act 24)

  stored : Bool → View
  stored b = cond b (view k m) (store old (action_bytes (action_of (process_of k (thread_of k t).process) signal)) (view k m))

  gives : Node → Node
  gives node = drop_ignored (thread_of k t).process signal (with_action (thread_of k t).process signal (action_in (read_bytes m act 24)) node)

  pub sets_action-node : (sets_action t signal act old (view k m)).node ≡ answered t (pos 0) (given_action (thread_of k t).process signal (asked_action m act) k)
  unfolding before new stored gives
  sets_action-node = go (act == 0) (old == 0)
    where
      go : (a b : Bool) → answered t (pos 0) (cond a (stored b) (on_node gives (stored b))).node ≡ answered t (pos 0) (given_action (thread_of k t).process signal (cond a None (Some new)) k)
      go true true = refl
      go true false = refl
      go false true = refl
      go false false = refl

  pub sets_action-stored : stored_all (sets_action t signal act old (view k m)).stores m ≡ cond (old == 0) m (write_bytes m old (action_bytes (action_of (process_of k (thread_of k t).process) signal)))
  unfolding before new stored gives
  sets_action-stored = go (act == 0) (old == 0)
    where
      go : (a b : Bool) → stored_all (cond a (stored b) (on_node gives (stored b))).stores m ≡ cond b m (write_bytes m old (action_bytes before))
      go true true = refl
      go true false = refl
      go false true = refl
      go false false = refl

module _ (t : ℕ) (how : ℤ) (address old : ℕ) (k : Node) (m : Memory) where
  masked : Bool → View
  masked b = cond b (view k m) (store old (little_endian 8 (thread_of k t).mask) (view k m))

  changes : Node → Node
  changes node = change_thread t (λ (y : Thread). record y { mask = new_mask how (number_of (read_bytes m address 8)) y.mask }) node

  pub sets_mask-node : (sets_mask t how address old (view k m)).node ≡ answered t (pos 0) (given_mask t how (asked_set m address) k)
  unfolding masked changes
  sets_mask-node = go (address == 0) (old == 0)
    where
      go : (a b : Bool) → answered t (pos 0) (cond a (masked b) (on_node changes (masked b))).node ≡ answered t (pos 0) (given_mask t how (cond a None (Some (record { 0 = number_of (read_bytes m address 8) }))) k)
      go true true = refl
      go true false = refl
      go false true = refl
      go false false = refl

  pub sets_mask-stored : stored_all (sets_mask t how address old (view k m)).stores m ≡ cond (old == 0) m (write_bytes m old (little_endian 8 (thread_of k t).mask))
  unfolding masked changes
  sets_mask-stored = go (address == 0) (old == 0)
    where
      go : (a b : Bool) → stored_all (cond a (masked b) (on_node changes (masked b))).stores m ≡ cond b m (write_bytes m old (little_endian 8 (thread_of k t).mask))
      go true true = refl
      go true false = refl
      go false true = refl
      go false false = refl

-- an rt_sigaction that isn't refused
pub sigaction-goes : (t : ℕ) (signal : ℤ) (act old size : ℕ) (v : View) → is_wrong_action signal act size ≡ false → lacks_access v.memory act old 24 ≡ false → sigaction t signal act old size v ≡ sets_action t (nat_of signal) act old v
sigaction-goes t signal act old size v right reached = λ i. cond (right i) (refuses t EINVAL v) (cond (reached i) (refuses t EFAULT v) (sets_action t (nat_of signal) act old v))
