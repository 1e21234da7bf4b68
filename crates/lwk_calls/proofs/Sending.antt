-- kill and tgkill, by what their arguments are.
use Rattle.file_model.specs.Errno.{EINVAL, ESRCH}
use Rattle.kernel_model.specs.LocalCalls.{answers, refuses}
use Rattle.kernel_model.specs.Nodes.{is_there}
use Rattle.kernel_model.specs.SignalCalls.{checked_signal, has_thread_in, kill, kills, kills_thread, positive, send, tgkill}
use Rattle.kernel_model.specs.Signals.{View, generate_for_process, generate_for_thread, on_node}
use Rattle.std.proofs.Common.{ap, arith}
use Rattle.std.specs.Prelude.{Bool, None, Option, Some, cond, false, not, pos, true, ℕ, ℤ, ◌&&◌, ◌||◌, ◌≡◌}

module _ (t : ℕ) (v : View) where
  abbrev kill_by : Option ℕ → Option ℕ → View
  kill_by o s = elim o [ None ↦ refuses t EINVAL v | Some p ↦ elim s [ None ↦ refuses t EINVAL v | Some signal ↦ kills t p signal v ] ]

  pub kill_nobody : (pid signal : ℤ) → positive pid ≡ None → kill t pid signal v ≡ refuses t EINVAL v
  kill_nobody pid signal e = ap (λ o. kill_by o (checked_signal signal)) e

  pub kill_unknown : (pid signal : ℤ) (p : ℕ) → positive pid ≡ Some p → checked_signal signal ≡ None → kill t pid signal v ≡ refuses t EINVAL v
  kill_unknown pid signal p e f = λ i. kill_by (e i) (f i)

  pub kill_known : (pid signal : ℤ) (p s : ℕ) → positive pid ≡ Some p → checked_signal signal ≡ Some s → kill t pid signal v ≡ kills t p s v
  kill_known pid signal p s e f = λ i. kill_by (e i) (f i)

  abbrev tgkill_by : Option ℕ → Option ℕ → Option ℕ → View
  tgkill_by o x s = elim o [
    | None ↦ refuses t EINVAL v
    | Some p ↦ elim x [
      | None ↦ refuses t EINVAL v
      | Some tid ↦ elim s [ None ↦ refuses t EINVAL v | Some signal ↦ kills_thread t p tid signal v ]
    ]
  ]

  pub tgkill_nobody : (pid tid signal : ℤ) → positive pid ≡ None → tgkill t pid tid signal v ≡ refuses t EINVAL v
  tgkill_nobody pid tid signal e = ap (λ o. tgkill_by o (positive tid) (checked_signal signal)) e

  pub tgkill_no_thread : (pid tid signal : ℤ) (p : ℕ) → positive pid ≡ Some p → positive tid ≡ None → tgkill t pid tid signal v ≡ refuses t EINVAL v
  tgkill_no_thread pid tid signal p e f = λ i. tgkill_by (e i) (f i) (checked_signal signal)

  pub tgkill_unknown : (pid tid signal : ℤ) (p x : ℕ) → positive pid ≡ Some p → positive tid ≡ Some x → checked_signal signal ≡ None → tgkill t pid tid signal v ≡ refuses t EINVAL v
  tgkill_unknown pid tid signal p x e f k = λ i. tgkill_by (e i) (f i) (k i)

  pub tgkill_known : (pid tid signal : ℤ) (p x s : ℕ) → positive pid ≡ Some p → positive tid ≡ Some x → checked_signal signal ≡ Some s → tgkill t pid tid signal v ≡ kills_thread t p x s v
  tgkill_known pid tid signal p x s e f k = λ i. tgkill_by (e i) (f i) (k i)

  -- the process is there, or not
  abbrev kills_by : ℕ → ℕ → Bool → View
  kills_by p signal there = cond (not there) (refuses t ESRCH v) (answers t (pos 0) (on_node (send signal (generate_for_process p)) v))

  pub kills_there : (p signal : ℕ) → is_there v.node p ≡ true → kills t p signal v ≡ answers t (pos 0) (on_node (send signal (generate_for_process p)) v)
  kills_there p signal e = ap (kills_by p signal) e

  pub kills_not : (p signal : ℕ) → is_there v.node p ≡ false → kills t p signal v ≡ refuses t ESRCH v
  kills_not p signal e = ap (kills_by p signal) e

  -- the process is there and has the thread, or not
  abbrev kills_thread_by : ℕ → ℕ → Bool → Bool → View
  kills_thread_by tid signal there has = cond (not there || not has) (refuses t ESRCH v) (answers t (pos 0) (on_node (send signal (generate_for_thread tid)) v))

  pub kills_thread_there : (p tid signal : ℕ) → (is_there v.node p && has_thread_in v.node p tid) ≡ true → kills_thread t p tid signal v ≡ answers t (pos 0) (on_node (send signal (generate_for_thread tid)) v)
  kills_thread_there p tid signal e = go (is_there v.node p) (has_thread_in v.node p tid) e
    where
      go : (a b : Bool) → (a && b) ≡ true → kills_thread_by tid signal a b ≡ answers t (pos 0) (on_node (send signal (generate_for_thread tid)) v)
      go true true e = λ i. answers t (pos 0) (on_node (send signal (generate_for_thread tid)) v)
      go true false e = absurd (grind (arith, e))
      go false b e = absurd (grind (arith, e))

  pub kills_thread_not : (p tid signal : ℕ) → (is_there v.node p && has_thread_in v.node p tid) ≡ false → kills_thread t p tid signal v ≡ refuses t ESRCH v
  kills_thread_not p tid signal e = go (is_there v.node p) (has_thread_in v.node p tid) e
    where
      go : (a b : Bool) → (a && b) ≡ false → kills_thread_by tid signal a b ≡ refuses t ESRCH v
      go false b e = λ i. refuses t ESRCH v
      go true false e = λ i. refuses t ESRCH v
      go true true e = absurd (grind (arith, e))
