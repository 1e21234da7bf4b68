-- The one-kernel machine beside the two kernels: what an event stands for, and the state that it leaves.
use Rattle.hybrid_model.specs.Claims.{Runs}
use Rattle.hybrid_model.specs.Events.{after}
use Rattle.hybrid_model.specs.Images.{image}
use Rattle.hybrid_model.specs.Pairs.{Pair}
use Rattle.hybrid_model.specs.Shown.{one}
use Rattle.hybrid_model.specs.declared.events.Event.TheVariants.{Run}
use Rattle.hybrid_model.specs.declared.events.Event.{Event}
use Rattle.kernel_model.specs.OneKernel.{OneKernel}
use Rattle.kernel_model.specs.Steps.{after_all, may_all}
use Rattle.kernel_model.specs.declared.steps.Step.{Step}
use Rattle.mck_word.specs.declared.Tid.{Tid}
use Rattle.mck_word.specs.declared.no_memory.NoMemory.{NoMemory}
use Rattle.mcexec_run.specs.Lockstep.{RoomBy, run_thread, steps_by}
use Rattle.node_machine.specs.Reached.{IsReached, IsShown}
use Rattle.node_machine.specs.Stepping.{executed, steps_of}
use Rattle.std.proofs.Common.{Err, None, Ok, OnOk, Option, Result, Some, ap, refl, subst, sym, true, ℕ, ◌∙◌, ◌≡◌}
use Rattle.std.proofs.Math.Logic.{∥∥₁_map}

pub shown : (o : OneKernel) (pair : Pair) → o ≡ one pair → IsReached pair → IsShown o
shown o pair e r = ∥∥₁_map r (λ s. record { pair = pair; sound = s; shows = sym e })

image_is : (e : Event) (pair : Pair) (step : Option Step) → image pair e ≡ steps_of e step (executed pair e) → image pair e ≡ steps_by (run_thread e) step (executed pair e)
image_is (Run core t n) pair step h = refl
image_is _ pair None h = h
image_is _ pair (Some s) h = h

-- of what the code was told
pub steps_are : (e : Event) (pair : Pair) (thread : Option Tid) (step : Option Step) (count : ℕ) → image pair e ≡ steps_of e step (executed pair e) → thread ≡ run_thread e → count ≡ executed pair e
    → image pair e ≡ steps_by thread step count
steps_are e pair thread step count h t n = image_is e pair step h ∙ (ap (λ x. steps_by x step (executed pair e)) (sym t) ∙ ap (steps_by thread step) (sym n))

-- ---- room

pub room_both : (result : Result (Unit {0}) NoMemory) (A : Type 0) (room : Step → Type 0) (e : Event) (pair : Pair) (thread : Option Tid) (step : Option Step) → image pair e ≡ steps_of e step (executed pair e) → thread ≡ run_thread e → A
    → OnOk result ((count : ℕ) → RoomBy room thread (steps_by thread step count)) → OnOk result (A × RoomBy room (run_thread e) (image pair e))
room_both (Ok u) A room e pair thread step h t a made =
    (a, subst (λ x. RoomBy room x (image pair e)) t (subst (RoomBy room thread) (sym (steps_are e pair thread step (executed pair e) h t refl)) (made (executed pair e))))
room_both (Err none) A room e pair thread step h t a made = tt

-- ---- the event

module _ (o : OneKernel) (e : Event) (pair : Pair) (thread : Option Tid) (step : Option Step) (count : ℕ) (same : o ≡ one pair) (steps : image pair e ≡ steps_by thread step count) (runs : Runs (one pair) (image pair e) (one (after pair e))) where
  pub may_steps : may_all o (steps_by thread step count) ≡ true
  may_steps = ap (λ x. may_all x (steps_by thread step count)) same ∙ (ap (may_all (one pair)) (sym steps) ∙ runs.may)

  pub room_steps : (room : Step → Type 0) → thread ≡ run_thread e → RoomBy room (run_thread e) (image pair e) → RoomBy room thread (steps_by thread step count)
  room_steps room t r = subst (RoomBy room thread) steps (subst (λ x. RoomBy room x (image pair e)) (sym t) r)

  pub still_same : (new : OneKernel) (next : Pair) → new ≡ after_all o (steps_by thread step count) → next ≡ after pair e → new ≡ one next
  still_same new next made happened =
      made ∙ (ap (λ x. after_all x (steps_by thread step count)) same ∙ (ap (after_all (one pair)) (sym steps) ∙ (runs.leaves ∙ ap one (sym happened))))
