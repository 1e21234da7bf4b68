-- Each step of the one-kernel machine, in the whole state: by how much less or more it leaves to do.
use Rattle.hybrid_laws.proofs.maps.Tests.{both, not-true}
use Rattle.kernel_model.specs.MemoryCalls.{refusal_at_end}
use Rattle.kernel_model.specs.Nodes.{change_in, process_of, thread_of}
use Rattle.kernel_model.specs.OneKernel.{OneHere, OneKernel, one_here}
use Rattle.kernel_model.specs.Progress.{Progress, has_piece, is_not_ready, next_kind}
use Rattle.kernel_model.specs.Steps.{after, after_here, answer_in, call_at, call_ended, has_call, is_active, may, may_here, one_changed, one_piece, process_of_step, return_of, vm_finish, vm_finish_of, interrupted_as}
use Rattle.kernel_model.specs.Steps.{piece_has_right}
use Rattle.kernel_model.specs.Traps.{may_be_marked}
use Rattle.kernel_model.specs.declared.Change.{Change}
use Rattle.kernel_model.specs.declared.steps.Step.TheVariants.{Instr, Trap, Deliver, VmFinish, Piece, PieceFault, FileStep, Block, Wake, Return, Mark, Interrupted, Wait, Script, End}
use Rattle.kernel_model.specs.declared.steps.Step.{Step}
use Rattle.mck_word.specs.declared.Tid.{Tid}
use Rattle.std.proofs.Common.{arith, refl}
use Rattle.std.specs.Prelude.{Bool, None, Option, Some, false, not, true, ℕ, ℤ, ◌&&◌, ◌≡◌, ◌||◌}
use Rattle.work_laws.proofs.calls.Steps.{CallsSound, block-pays, fault-pays, file-pays, interrupted-pays, wake-pays}
use Rattle.work_laws.proofs.steps.OneProcess.{IsNew, KernelPays, OnePays, whole-pays}
use Rattle.work_laws.proofs.steps.Pay.{called_back-pays, deliver-pays, end-pays, instr-pays, mark-pays, return-pays, script-pays, vm_finish-pays, wait-pays}
use Rattle.work_laws.proofs.trap.Pays.{trap-new, trap-pays, trap_cost}
use Rattle.work_laws.specs.KernelLeft.{Prices}

-- by how much less a step leaves to do, and by how much more it may; pieces and interrupted calls and rests stand apart
abbrev pub gain_of : Prices → Step → ℕ
gain_of k (Deliver t) = 1
gain_of k (VmFinish t) = k.change
gain_of k (PieceFault t) = k.step
gain_of k (FileStep t) = k.step
gain_of k (Mark t) = 16
gain_of k (Wait t) = 1
gain_of k (End p) = k.process
gain_of k _ = 0

abbrev pub cost_of : Prices → Step → ℕ
cost_of k (Trap t) = trap_cost k
cost_of k (Return t) = 1
cost_of k (Script line) = 1
cost_of k (End p) = 1
cost_of k _ = 0

abbrev pub is_plain : Step → Bool
is_plain (Piece t) = false
is_plain (Interrupted t) = false
is_plain _ = true

-- no step but a trap makes a process, and its process has no call
pub born-new : (s : Step) (p : ℕ) (h : OneHere) → h.born ≡ None → IsNew (after_here s p h).born
unfolding vm_finish one_piece call_ended
born-new s p h none = go s
  where
    still : IsNew h.born
    still = rw none tt

    changed : (t : ℕ) (c : Change) (o : Option ℤ) → IsNew (one_changed p t c o h).born
    changed t c None = still
    changed t c (Some answer) = still

    finished : (t : ℕ) (o : Option Change) → IsNew (vm_finish_of p t o h).born
    finished t None = still
    finished t (Some c) = changed t c (refusal_at_end (process_of h.node p) h.own.memory h.free c)

    returned : (t : ℕ) (o : Option ℤ) → IsNew (return_of t o h).born
    returned t None = still
    returned t (Some answer) = still

    interrupted : (t : ℕ) (b : Bool) → IsNew (interrupted_as b t h).born
    interrupted t true = still
    interrupted t false = still

    go : (s : Step) → IsNew (after_here s p h).born
    go (Instr t) = still
    go (Trap t) = trap-new h p t.0 none
    go (Deliver t) = still
    go (VmFinish t) = finished t.0 (change_in (thread_of h.node t.0).does)
    go (Piece t) = still
    go (PieceFault t) = still
    go (FileStep t) = still
    go (Block t) = still
    go (Wake t) = still
    go (Return t) = returned t.0 (answer_in (call_at h t.0).status)
    go (Mark t) = still
    go (Interrupted t) = interrupted t.0 (has_call h t.0)
    go (Wait t) = still
    go (Script line) = still
    go (End q) = still

module _ (k : Prices) (one : OneKernel) (sound : (p : ℕ) → CallsSound (one_here one p)) where
  here-pays : (s : Step) → is_plain s ≡ true → (p : ℕ) → process_of_step one.node s ≡ p → may_here s (one_here one p) ≡ true → OnePays k (one_here one p) (after_here s p (one_here one p)) (gain_of k s) (cost_of k s)
  here-pays (Instr t) l p own m = instr-pays k (one_here one p) t.0
  here-pays (Trap t) l p own m = trap-pays k (one_here one p) p t.0
  here-pays (Deliver t) l p own m = deliver-pays k (one_here one p) t.0 m
  here-pays (VmFinish t) l p own m = vm_finish-pays k (one_here one p) t.0 p m
  here-pays (Piece t) l p own m = absurd (grind (arith, l))
  here-pays (PieceFault t) l p own m = let h = one_here one p in fault-pays k h t.0 (λ x. has_piece x && not (piece_has_right h x)) m
  here-pays (FileStep t) l p own m = file-pays k (one_here one p) t.0 p (sound p) m
  here-pays (Block t) l p own m = let h = one_here one p in block-pays k h t.0 (λ x. is_not_ready (next_kind h.node.files x)) m
  here-pays (Wake t) l p own m = let h = one_here one p in wake-pays k h t.0 (λ x. (call_at h t.0).marked || not (is_not_ready (next_kind h.node.files x))) m
  here-pays (Return t) l p own m = return-pays k (one_here one p) t.0
  here-pays (Mark t) l p own m =
      let h = one_here one p in
      let a = both (has_call h t.0 && not (call_at h t.0).marked) (may_be_marked h.node t.0) m in
      let b = both (has_call h t.0) (not (call_at h t.0).marked) a.0 in
      mark-pays k h t.0 b.0 (not-true (call_at h t.0).marked b.1)
  here-pays (Interrupted t) l p own m = absurd (grind (arith, l))
  here-pays (Wait t) l p own m = wait-pays k (one_here one p) t.0 m
  here-pays (Script line) l p own m = script-pays k (one_here one p) line
  here-pays (End q) l p own m = let x = rw own at m in end-pays k (one_here one p) p x

  -- in the whole state
  pub step-pays : (s : Step) → is_plain s ≡ true → may one s ≡ true → KernelPays k one (after one s) (gain_of k s) (cost_of k s)
  step-pays s l m =
      let p = process_of_step one.node s in
      whole-pays k one p (after_here s p (one_here one p)) (gain_of k s) (cost_of k s) (born-new s p (one_here one p) refl) (here-pays s l p refl m)

  -- an interrupted call ends, and an interrupted rest begins again
  pub interrupted-call : (t : Tid) (test : Progress → Bool) → let p = process_of_step one.node (Interrupted t) in is_active (one_here one p) t.0 test ≡ true → has_call (one_here one p) t.0 ≡ true → KernelPays k one (after one (Interrupted t)) k.step 0
  interrupted-call t test active has =
      let p = process_of_step one.node (Interrupted t) in
      let h = one_here one p in
      whole-pays k one p (after_here (Interrupted t) p h) k.step 0 (born-new (Interrupted t) p h refl) (by (has_call h t.0) has (interrupted-pays k h t.0 test active))
    where
      by : (b : Bool) → b ≡ true → OnePays k (one_here one (process_of_step one.node (Interrupted t))) (interrupted_as true t.0 (one_here one (process_of_step one.node (Interrupted t)))) k.step 0
          → OnePays k (one_here one (process_of_step one.node (Interrupted t))) (interrupted_as b t.0 (one_here one (process_of_step one.node (Interrupted t)))) k.step 0
      by true e l = l
      by false e l = absurd (grind (arith, e))

  pub interrupted-rest : (t : Tid) → let p = process_of_step one.node (Interrupted t) in has_call (one_here one p) t.0 ≡ false → may one (Interrupted t) ≡ true → KernelPays k one (after one (Interrupted t)) 1 0
  interrupted-rest t none m =
      let p = process_of_step one.node (Interrupted t) in
      let h = one_here one p in
      let r = rw none at m in
      whole-pays k one p (after_here (Interrupted t) p h) 1 0 (born-new (Interrupted t) p h refl) (by (has_call h t.0) none (called_back-pays k h t.0 r))
    where
      by : (b : Bool) → b ≡ false → OnePays k (one_here one (process_of_step one.node (Interrupted t))) (interrupted_as false t.0 (one_here one (process_of_step one.node (Interrupted t)))) 1 0
          → OnePays k (one_here one (process_of_step one.node (Interrupted t))) (interrupted_as b t.0 (one_here one (process_of_step one.node (Interrupted t)))) 1 0
      by false e l = l
      by true e l = absurd (grind (arith, e))
