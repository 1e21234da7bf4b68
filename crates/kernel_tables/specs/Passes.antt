-- Rows of threads: a pass over them from the lowest number on, and the row of a first thread.
use Rattle.kernel_model.specs.SignalSets.{without_signal}
use Rattle.kernel_model.specs.declared.Does.{Does}
use Rattle.kernel_model.specs.declared.Does.TheVariants.{Ready}
use Rattle.mck_flags.specs.declared.signal_set.SigSet.{SigSet}
use Rattle.mck_word.specs.declared.Pid.{Pid}
use Rattle.mck_word.specs.declared.Regs.{Regs}
use Rattle.mck_word.specs.declared.Tid.{Tid}
use Rattle.lwk_threads.specs.Threads.{Spared, first_thread}
use Rattle.lwk_threads.specs.declared.Thread.{Thread}
use Rattle.mck_word.specs.Maps.{Map, and_then, at, set_or_cut}
use Rattle.std.specs.Prelude.{None, Option, Some, cond, nat_lt, ℕ, ◌==◌, ◌≡◌, ◌≤◌}

-- what the end of a process makes of a thread
abbrev pub unless_of : ℕ → Thread Does → Option (Thread Does)
unless_of p x = cond (x.pid.0 == p) None (Some x)

-- and a signal that the process ignores from now on
abbrev pub without_pending : ℕ → ℕ → Thread Does → Option (Thread Does)
without_pending p signal x = Some (cond (x.pid.0 == p) (record x { pending = record { 0 = without_signal signal x.pending.0 } }) x)

-- one row
abbrev pub passed : (Thread Does → Option (Thread Does)) → Map (Thread Does) → ℕ → Map (Thread Does)
passed h m k = set_or_cut m k (and_then (at m k) h)

-- the rows below `from` have been passed, the others are as they were
pub record IsPassed (h : Thread Does → Option (Thread Does)) (old now : Spared Does) (from : ℕ) : Type 0 where
  pub rows : (q : ℕ) → at now.threads.rows q ≡ cond (nat_lt q from) (and_then (at old.threads.rows q) h) (at old.threads.rows q)
  pub next : now.threads.next ≡ old.threads.next
  pub room : old.spare ≤ now.spare

-- the first thread of a process
abbrev pub begun : Pid → Tid → Regs → SigSet → ℕ → Thread Does
begun p t regs mask clear = record (first_thread p t regs mask Ready) { clear = clear }
