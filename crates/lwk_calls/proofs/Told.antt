-- The wait for a child.
use Rattle.file_model.specs.Errno.{EFAULT}
use Rattle.isa_model.specs.Memory.{may_access}
use Rattle.kernel_model.specs.CloneCalls.{ended_child, noted_waited, status_of_life, tells_end, wait_over, waits_for}
use Rattle.kernel_model.specs.LocalCalls.{answers, refuses}
use Rattle.kernel_model.specs.Nodes.{process_of, thread_of}
use Rattle.kernel_model.specs.Signals.{View, store}
use Rattle.kernel_model.specs.Traps.{wait_of, waited, waited_for}
use Rattle.kernel_model.specs.declared.Does.TheVariants.{Asleep, Called, InVm, InWait, Ready, Stopped}
use Rattle.kernel_model.specs.declared.Does.{Does}
use Rattle.mck_word.specs.Words.{little_endian}
use Rattle.mck_word.specs.declared.Access.TheVariants.{Write}
use Rattle.std.proofs.Common.{ap, refl, sym, ◌∙◌}
use Rattle.std.specs.Prelude.{None, cond, false, pos, true, ℕ, ℤ, ◌==◌, ◌≡◌, ◌≢◌}

module _ (t child status : ℕ) (v : View) where
  abbrev pub told_end : View
  told_end = answers t (pos child) (noted_waited child v)

  abbrev pub stored_end : ℕ → View
  stored_end n = store status (little_endian 4 n) told_end

  pub tells_nowhere : (status == 0) ≡ true → tells_end t child status v ≡ told_end
  tells_nowhere e = ap (λ b. cond b told_end (cond (may_access v.memory Write status 4) (stored_end (status_of_life (process_of v.node child).life)) (refuses t EFAULT (noted_waited child v)))) e

  pub tells_there : (n : ℕ) → (status == 0) ≡ false → may_access v.memory Write status 4 ≡ true → n ≡ status_of_life (process_of v.node child).life → tells_end t child status v ≡ stored_end n
  tells_there n e may is = (λ i. cond (e i) told_end (cond (may i) (stored_end (status_of_life (process_of v.node child).life)) (refuses t EFAULT (noted_waited child v)))) ∙ ap stored_end (sym is)

  pub tells_not : (status == 0) ≡ false → may_access v.memory Write status 4 ≡ false → tells_end t child status v ≡ refuses t EFAULT (noted_waited child v)
  tells_not e may = λ i. cond (e i) told_end (cond (may i) (stored_end (status_of_life (process_of v.node child).life)) (refuses t EFAULT (noted_waited child v)))

pub none_ended : (t p : ℕ) (pid : ℤ) (status : ℕ) (v : View) → p ≡ (thread_of v.node t).process → ended_child v.node p pid ≡ None → wait_over t pid status v ≡ waits_for t pid status v None
none_ended t p pid status v process none = ap (waits_for t pid status v) (ap (λ q. ended_child v.node q pid) (sym process) ∙ none)

pub waits_still : (t : ℕ) (pid : ℤ) (status : ℕ) (v : View) → (thread_of v.node t).does ≡ InWait pid status → waited t v ≡ wait_over t pid status v
unfolding waited
waits_still t pid status v e = ap (λ d. waited_for t v (wait_of d)) e

no_wait : (d : Does) → ((pid : ℤ) (status : ℕ) → d ≢ InWait pid status) → wait_of d ≡ None
no_wait Ready h = refl
no_wait (Stopped s) h = refl
no_wait Called h = refl
no_wait (InVm c) h = refl
no_wait (Asleep a) h = refl
no_wait (InWait pid status) h = absurd (h pid status refl)

pub waits_not : (t : ℕ) (v : View) → ((pid : ℤ) (status : ℕ) → (thread_of v.node t).does ≢ InWait pid status) → waited t v ≡ v
unfolding waited
waits_not t v h = ap (waited_for t v) (no_wait (thread_of v.node t).does h)
