-- The call of a thread, and what a step leaves of it.
use Rattle.kernel_model.specs.OneKernel as kernel
use Rattle.kernel_model.specs.OneKernel.{OneHere, no_own, one_here}
use Rattle.file_model.specs.declared.operations.Readiness.{Readiness}
use Rattle.file_model.specs.declared.operations.Readiness.TheVariants.{FileStep, NotReady, Ready}
use Rattle.isa_model.specs.Memory.{Page, allows_in}
use Rattle.kernel_model.specs.Nodes.{is_called, rests}
use Rattle.kernel_model.specs.Progress.{Progress, is_file_step, is_ready}
use Rattle.kernel_model.specs.declared.Does.{Does}
use Rattle.kernel_model.specs.declared.Does.TheVariants as does
use Rattle.mck_word.specs.declared.Access.{Access}
use Rattle.kernel_model.specs.Steps.{active, answer_in, blocked, call_at, has_call, holds_of, no_call, progress_at, progress_in}
use Rattle.mck_word.specs.EachLaws.{at-each}
use Rattle.mck_word.specs.MapLaws.{at-none}
use Rattle.mck_word.specs.Maps.{at}
use Rattle.one_kernel.specs.Parts.{here_in, one_of, shown_call, shown_own, status_by}
use Rattle.one_kernel.specs.declared.calls.Call.{Call}
use Rattle.one_kernel.specs.declared.calls.Standing.{Standing}
use Rattle.one_kernel.specs.declared.calls.Standing.TheVariants.{Active, Blocked, Over}
use Rattle.one_kernel.specs.declared.parts.One.{One}
use Rattle.one_kernel.specs.declared.parts.Own.{Own}
use Rattle.std.proofs.Common.{ap, refl, sym, ◌∙◌}
use Rattle.std.specs.Prelude.{Bool, IsSome, None, Option, Some, false, is_some, option_map, true, unwrap_or, ℕ, ℤ, ◌&&◌, ◌≡◌}

pub both : (a b : Bool) → (a && b) ≡ true → (a ≡ true) × (b ≡ true)
both true true e = (e, e)
both true false e = absurd (cc)
both false b e = absurd (cc)

mapped-some : {V W : Type 0} (f : V → W) (o : Option V) → is_some (option_map f o) ≡ true → IsSome o
mapped-some f None e = absurd (cc)
mapped-some f (Some v) e = refl

some-of : {V : Type 0} (o : Option V) → is_some o ≡ true → (v : V) × (o ≡ Some v)
some-of None e = absurd (cc)
some-of (Some v) e = (v, refl)

-- a process whose thread has a call has a row
pub own-called : (x : One) (p t : ℕ) → has_call (one_here (one_of x) p) t ≡ true → IsSome (at x.own.map p)
unfolding one_of
own-called x p t e = go (at x.own.map p) refl
  where
    go : (o : Option Own) → at x.own.map p ≡ o → IsSome (at x.own.map p)
    go (Some w) is = ap is_some is
    go None is = absurd (
        let none : has_call (one_here (one_of x) p) t ≡ false =
        ap (λ own. is_some (at (unwrap_or own no_own).calls t)) (at-each shown_own x.own.map p ∙ ap (option_map shown_own) is) ∙ ap is_some (at-none {V = kernel.Call} t) in
        cc
        )

-- and its call is one of the row's
pub row-called : (x : One) (w : Own) (t : ℕ) → has_call (here_in x w) t ≡ true → IsSome (at w.calls.map t)
row-called x w t e = mapped-some shown_call (at w.calls.map t) (ap is_some (sym (at-each shown_call w.calls.map t)) ∙ e)

module _ (x : One) (w : Own) (t : ℕ) (c : Call) (there : at w.calls.map t ≡ Some c) where
  pub call-is : call_at (here_in x w) t ≡ shown_call c
  call-is = ap (λ o. unwrap_or o no_call) (at-each shown_call w.calls.map t ∙ ap (option_map shown_call) there)

  -- a call under way
  pub active-is : (test : Progress → Bool) → holds_of (active (call_at (here_in x w) t).status) test ≡ true → (c.standing ≡ Active) × (test c.progress.progress ≡ true)
  active-is test e = go c.standing (ap (λ (k : kernel.Call). holds_of (active k.status) test) (sym call-is) ∙ e) refl
    where
      go : (s : Standing) → holds_of (active (status_by s c.progress.progress)) test ≡ true → c.standing ≡ s → (c.standing ≡ Active) × (test c.progress.progress ≡ true)
      go Active e is = (is, e)
      go Blocked e is = absurd (cc)
      go (Over answer) e is = absurd (cc)

  pub blocked-is : (test : Progress → Bool) → holds_of (blocked (call_at (here_in x w) t).status) test ≡ true → (c.standing ≡ Blocked) × (test c.progress.progress ≡ true)
  blocked-is test e = go c.standing (ap (λ (k : kernel.Call). holds_of (blocked k.status) test) (sym call-is) ∙ e) refl
    where
      go : (s : Standing) → holds_of (blocked (status_by s c.progress.progress)) test ≡ true → c.standing ≡ s → (c.standing ≡ Blocked) × (test c.progress.progress ≡ true)
      go Active e is = absurd (cc)
      go Blocked e is = (is, e)
      go (Over answer) e is = absurd (cc)

  pub over-is : is_some (answer_in (call_at (here_in x w) t).status) ≡ true → (z : ℤ) × (c.standing ≡ Over z)
  over-is e = go c.standing (ap (λ (k : kernel.Call). is_some (answer_in k.status)) (sym call-is) ∙ e) refl
    where
      go : (s : Standing) → is_some (answer_in (status_by s c.progress.progress)) ≡ true → c.standing ≡ s → (z : ℤ) × (c.standing ≡ Over z)
      go Active e is = absurd (cc)
      go Blocked e is = absurd (cc)
      go (Over answer) e is = (answer, is)

  -- the progress of a call that is not over
  pub progress-active : c.standing ≡ Active → progress_at (here_in x w) t ≡ c.progress.progress
  progress-active e = ap (λ (k : kernel.Call). progress_in k.status) call-is ∙ ap (λ s. progress_in (status_by s c.progress.progress)) e

  pub progress-blocked : c.standing ≡ Blocked → progress_at (here_in x w) t ≡ c.progress.progress
  progress-blocked e = ap (λ (k : kernel.Call). progress_in k.status) call-is ∙ ap (λ s. progress_in (status_by s c.progress.progress)) e

-- ---- the kind of the next step
pub ready-is : (k : Readiness) → is_ready k ≡ true → k ≡ Ready
ready-is Ready e = refl
ready-is NotReady e = absurd (cc)
ready-is FileStep e = absurd (cc)

pub file-step-is : (k : Readiness) → is_file_step k ≡ true → k ≡ FileStep
file-step-is Ready e = absurd (cc)
file-step-is NotReady e = absurd (cc)
file-step-is FileStep e = refl

-- a page with a right is there
pub allowed-some : (a : Access) (o : Option Page) → allows_in a o ≡ true → IsSome o
allowed-some a None e = absurd (cc)
allowed-some a (Some x) e = refl

-- a thread that rests has no call
pub rests-not : (d : Does) → rests d ≡ true → is_called d ≡ false
rests-not (does.Asleep a) e = refl
rests-not (does.InWait pid status) e = refl
rests-not does.Ready e = absurd (cc)
rests-not (does.Stopped s) e = absurd (cc)
rests-not does.Called e = absurd (cc)
rests-not (does.InVm c) e = absurd (cc)
