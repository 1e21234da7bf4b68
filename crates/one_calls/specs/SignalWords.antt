-- Parts of the calls on signals of kernel_model's specs, as the code takes them.
use Rattle.isa_model.specs.Memory.{Memory, may_access, read_bytes}
use Rattle.kernel_model.specs.Nodes.{Node, Thread, change_thread}
use Rattle.kernel_model.specs.SignalCalls.{action_in, is_signal, new_mask}
use Rattle.kernel_model.specs.Signals.{drop_ignored, with_action}
use Rattle.kernel_model.specs.declared.Action.{Action}
use Rattle.mck_flags.specs.declared.signal_set.SigSet.{SigSet}
use Rattle.mck_word.specs.Words.{number_of}
use Rattle.mck_word.specs.declared.Access.TheVariants.{Read, Write}
use Rattle.std.specs.Prelude.{Bool, None, Option, Some, cond, not, ℕ, ℤ, ◌==◌, ◌||◌}

-- ---- pointers, which ask for nothing where they are 0

abbrev pub readable : Memory → ℕ → ℕ → Bool
readable m address n = address == 0 || may_access m Read address n

abbrev pub writable : Memory → ℕ → ℕ → Bool
writable m address n = address == 0 || may_access m Write address n

abbrev pub lacks_access : Memory → ℕ → ℕ → ℕ → Bool
lacks_access m read write n = not (readable m read n) || not (writable m write n)

-- the action or the set that stands there
abbrev pub asked_action : Memory → ℕ → Option Action
asked_action m address = cond (address == 0) None (Some (action_in (read_bytes m address 24)))

abbrev pub asked_set : Memory → ℕ → Option SigSet
asked_set m address = cond (address == 0) None (Some (record { 0 = number_of (read_bytes m address 8) }))

-- the size of a set or the signal is wrong
abbrev pub is_wrong_action : ℤ → ℕ → ℕ → Bool
is_wrong_action signal act size = not (size == 8) || not (is_signal signal act)

-- ---- what is asked for

-- the process does something else at the signal
abbrev pub given_action : ℕ → ℕ → Option Action → Node → Node
given_action p signal None node = node
given_action p signal (Some a) node = drop_ignored p signal (with_action p signal a node)

-- the thread has another mask
abbrev pub given_mask : ℕ → ℤ → Option SigSet → Node → Node
given_mask t how None node = node
given_mask t how (Some set) node = change_thread t (λ (x : Thread). record x { mask = new_mask how set.0 x.mask }) node
