-- From an event's image to what it leaves in the one-kernel state that is shown: no step, one step, or the instructions of a run.
use Rattle.kernel_model.specs.declared.steps.Step.TheVariants as Steps
use Rattle.hybrid_laws.proofs.maps.Tests.{both}
use Rattle.hybrid_laws.proofs.states.Steps.{SimulatedPair}
use Rattle.hybrid_model.specs.Events.{after}
use Rattle.hybrid_model.specs.Globals.{Coherent}
use Rattle.hybrid_model.specs.Images.{image}
use Rattle.hybrid_model.specs.Pairs.{Pair}
use Rattle.hybrid_model.specs.Shown.{one}
use Rattle.hybrid_model.specs.declared.events.Event.{Event}
use Rattle.kernel_model.specs.OneKernel.{OneKernel, one_here}
use Rattle.kernel_model.specs.Steps.{after as step_after, after_all, after_here, may as step_may, may_all, process_of_step}
use Rattle.kernel_model.specs.declared.steps.Step.{Step}
use Rattle.mck_word.specs.declared.Tid.{Tid}
use Rattle.std.proofs.Common.{ap, arith, refl, subst, sym, ◌∙◌}
use Rattle.std.specs.Prelude.{[], replicate, suc, true, zero, ℕ, ◌+◌, ◌∷◌, ◌≡◌, ◌≤◌}
use Rattle.work_laws.proofs.sides.Shown.{sound-shown}
use Rattle.work_laws.proofs.sides.Wholes.{SidesPay}
use Rattle.work_laws.proofs.steps.Each.{born-new, cost_of, gain_of, is_plain, step-pays}
use Rattle.work_laws.proofs.steps.OneProcess.{KernelPays, whole-pays}
use Rattle.work_laws.proofs.steps.Pay.{instr-pays}
use Rattle.work_laws.specs.KernelLeft.{Prices, kernel_left}
use Rattle.work_laws.specs.Left.{left_in}

abbrev pub EventPays : Prices → Pair → Event → ℕ → ℕ → Type 0
EventPays k pair e gain cost = left_in k (after pair e) + gain ≤ left_in k pair + cost

module _ (k : Prices) (pair : Pair) (e : Event) (s : SimulatedPair pair e) where
  abbrev Shows : ℕ → ℕ → Type 0
  Shows gain cost = KernelPays k (one pair) (one (after pair e)) gain cost

  -- both parts together
  pub together : (a b c d : ℕ) → Shows a b → SidesPay pair e c d → EventPays k pair e (a + c) (b + d)
  together a b c d x y = omega (arith, x, y)

  -- and so much less
  pub enough : (a b gain cost : ℕ) → EventPays k pair e a b → gain + b ≤ a + cost → EventPays k pair e gain cost
  enough a b gain cost x l = omega (arith, x, l)

  pub by-none : image pair e ≡ [] → Shows 0 0
  by-none i =
      let a = sym (ap (after_all (one pair)) i) ∙ s.leaves in
      let b = ap (kernel_left k) a in
      omega (arith, b)

  module _ (x : Step) (i : image pair e ≡ x ∷ []) where
    pub leads : step_after (one pair) x ≡ one (after pair e)
    leads = sym (ap (after_all (one pair)) i) ∙ s.leaves

    pub happens : step_may (one pair) x ≡ true
    happens = let a = both (step_may (one pair) x) true (sym (ap (may_all (one pair)) i) ∙ s.may) in a.0

    pub by-leads : (gain cost : ℕ) → KernelPays k (one pair) (step_after (one pair) x) gain cost → Shows gain cost
    by-leads gain cost l = subst (λ (y : OneKernel). KernelPays k (one pair) y gain cost) leads l

    pub by-one : Coherent pair → is_plain x ≡ true → Shows (gain_of k x) (cost_of k x)
    by-one c l = by-leads (gain_of k x) (cost_of k x) (step-pays k (one pair) (sound-shown pair c) x l happens)

  -- ---- a run
  instrs : (t : Tid) (n : ℕ) (a : OneKernel) → KernelPays k a (after_all a (replicate n (Steps.Instr t))) 0 0
  instrs t zero a = omega arith
  instrs t (suc n) a =
      let p = process_of_step a.node (Steps.Instr t) in
      let x = whole-pays k a p (after_here (Steps.Instr t) p (one_here a p)) 0 0 (born-new (Steps.Instr t) p (one_here a p) refl) (instr-pays k (one_here a p) t.0) in
      let y = instrs t n (step_after a (Steps.Instr t)) in
      omega (arith, x, y)

  pub by-run : (t : Tid) (n : ℕ) → image pair e ≡ replicate n (Steps.Instr t) → Shows 0 0
  by-run t n i =
      let a = sym (ap (after_all (one pair)) i) ∙ s.leaves in
      subst (λ (y : OneKernel). KernelPays k (one pair) y 0 0) a (instrs t n (one pair))
