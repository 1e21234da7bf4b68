-- Steps of the one-kernel machine one after another: a doubleword that only additions change has its old value and all that was added, modulo 2 ^ 64.
use Rattle.atomic_laws.proofs.Adding.{instr-adds, more-none}
use Rattle.atomic_laws.specs.Additions.{HasWholePages, IsDoubleword, IsMore, Leaves, OnlyAdds, StepOnlyAdds, added, adds, adds_in, changes_memory, concerns, doubleword, memory_of, next_writes}
use Rattle.hybrid_laws.proofs.trap.Says.{TrappedSays, trap-says}
use Rattle.isa_model.specs.Instr.{instr}
use Rattle.isa_model.specs.Memory.{Memory}
use Rattle.kernel_model.specs.MemoryCalls.{refusal_at_end}
use Rattle.kernel_model.specs.Nodes.{Node, change_in, process_of, thread_of}
use Rattle.kernel_model.specs.OneKernel.{OneHere, OneKernel, Own, no_own, one_here, put_one_here, with_born}
use Rattle.kernel_model.specs.Steps.{after, after_all, after_here, answer_in, call_at, call_ended, has_call, interrupted_as, of_thread, one_changed, one_piece, one_trap, one_trapped, one_view, process_of_step, return_of, vm_finish, vm_finish_of}
use Rattle.kernel_model.specs.Traps.{Begins, Changes, Done, Forks, Trapped, trap}
use Rattle.kernel_model.specs.declared.Change.{Change}
use Rattle.kernel_model.specs.declared.steps.Step.TheVariants.{Instr, Trap, Deliver, VmFinish, Piece, PieceFault, FileStep, Block, Wake, Return, Mark, Interrupted, Wait, Script, End}
use Rattle.kernel_model.specs.declared.steps.Step.{Step}
use Rattle.mck_word.specs.MapLaws.{at-put}
use Rattle.mck_word.specs.Maps.{Map, at, put}
use Rattle.mck_word.specs.declared.Tid.{Tid}
use Rattle.std.proofs.Common.{ap, arith, refl, subst, sym, ◌∙◌}
use Rattle.std.proofs.lemmas.Bool.Decides.{nat_tests}
use Rattle.std.specs.Prelude.{Bool, List, None, Option, Some, [], cond, false, true, unwrap_or, ℕ, ℤ, ◌+◌, ◌==◌, ◌||◌, ◌∷◌, ◌≡◌, ◌≢◌}
use Rattle.work_laws.proofs.pages.Steps.{after-full, here-full}
use Rattle.work_laws.specs.WholePages.{AllFull, Full, IsFull}

pub whole-pages : (m : Memory) → Full m → HasWholePages m
whole-pages m full i x e = subst IsFull e (full i)

-- ---- one process
-- a process that a step makes has the next number
abbrev BornNext : Node → Option (ℕ × Own) → Type 0
BornNext node None = Unit {0}
BornNext node (Some b) = b.0 ≡ node.next_number

abbrev is_instruction : Step → Bool
is_instruction (Instr t) = true
is_instruction _ = false

module _ (q : ℕ) (h : OneHere) (none : h.born ≡ None) where
  made : (o : Option (ℕ × Own)) → o ≡ None → BornNext h.node o
  made o e = subst (BornNext h.node) (sym e) tt

  finish-born : (t : ℕ) → BornNext h.node (vm_finish q t h).born
  unfolding vm_finish
  finish-born t = go (change_in (thread_of h.node t).does)
    where
      changed : (c : Change) (o : Option ℤ) → BornNext h.node (one_changed q t c o h).born
      changed c None = made h.born none
      changed c (Some answer) = made h.born none

      go : (o : Option Change) → BornNext h.node (vm_finish_of q t o h).born
      go None = made h.born none
      go (Some c) = changed c (refusal_at_end (process_of h.node q) h.own.memory h.free c)

  trap-born : (t : ℕ) → BornNext h.node (one_trap q t h).born
  unfolding one_trap
  trap-born t = go (trap t h.free (one_view h)) (trap-says t h.free (one_view h))
    where
      go : (x : Trapped) → TrappedSays t h.free (one_view h) x → BornNext h.node (one_trapped q t x h).born
      go (Done v) s = made h.born none
      go (Forks v child stores) s = s.number
      go (Begins node progress) s = made h.born none
      go (Changes node change) s = made h.born none

  return-born : (t : ℕ) (o : Option ℤ) → BornNext h.node (return_of t o h).born
  return-born t None = made h.born none
  return-born t (Some answer) = made h.born none

  interrupted-born : (t : ℕ) (b : Bool) → BornNext h.node (interrupted_as b t h).born
  unfolding call_ended
  interrupted-born t true = made h.born none
  interrupted-born t false = made h.born none

  step-born : (s : Step) → BornNext h.node (after_here s q h).born
  unfolding call_ended one_piece
  step-born (Instr t) = made h.born none
  step-born (Trap t) = trap-born t.0
  step-born (Deliver t) = made h.born none
  step-born (VmFinish t) = finish-born t.0
  step-born (Piece t) = made h.born none
  step-born (PieceFault t) = made h.born none
  step-born (FileStep t) = made h.born none
  step-born (Block t) = made h.born none
  step-born (Wake t) = made h.born none
  step-born (Return t) = return-born t.0 (answer_in (call_at h t.0).status)
  step-born (Mark t) = made h.born none
  step-born (Interrupted t) = interrupted-born t.0 (has_call h t.0)
  step-born (Wait t) = made h.born none
  step-born (Script k) = made h.born none
  step-born (End p) = made h.born none

  -- ---- steps that change no memory
  return-none : (t : ℕ) (o : Option ℤ) → (return_of t o h).born ≡ None
  return-none t None = none
  return-none t (Some answer) = none

  interrupted-none : (t : ℕ) (b : Bool) → (interrupted_as b t h).born ≡ None
  unfolding call_ended
  interrupted-none t true = none
  interrupted-none t false = none

  -- they make no process
  step-none : (s : Step) → changes_memory s ≡ false → (after_here s q h).born ≡ None
  unfolding call_ended
  step-none (Instr t) e = none
  step-none (Trap t) e = absurd (grind (arith, e))
  step-none (Deliver t) e = absurd (grind (arith, e))
  step-none (VmFinish t) e = absurd (grind (arith, e))
  step-none (Piece t) e = absurd (grind (arith, e))
  step-none (PieceFault t) e = none
  step-none (FileStep t) e = none
  step-none (Block t) e = none
  step-none (Wake t) e = none
  step-none (Return t) e = return-none t.0 (answer_in (call_at h t.0).status)
  step-none (Mark t) e = none
  step-none (Interrupted t) e = interrupted-none t.0 (has_call h t.0)
  step-none (Wait t) e = absurd (grind (arith, e))
  step-none (Script k) e = none
  step-none (End p) e = absurd (grind (arith, e))

  return-same : (t : ℕ) (o : Option ℤ) → (return_of t o h).own.memory ≡ h.own.memory
  return-same t None = refl
  return-same t (Some answer) = refl

  interrupted-same : (t : ℕ) (b : Bool) → (interrupted_as b t h).own.memory ≡ h.own.memory
  unfolding call_ended
  interrupted-same t true = refl
  interrupted-same t false = refl

  step-same : (s : Step) → is_instruction s ≡ false → changes_memory s ≡ false → (after_here s q h).own.memory ≡ h.own.memory
  unfolding call_ended
  step-same (Instr t) e f = absurd (grind (arith, e))
  step-same (Trap t) e f = absurd (grind (arith, f))
  step-same (Deliver t) e f = absurd (grind (arith, f))
  step-same (VmFinish t) e f = absurd (grind (arith, f))
  step-same (Piece t) e f = absurd (grind (arith, f))
  step-same (PieceFault t) e f = refl
  step-same (FileStep t) e f = refl
  step-same (Block t) e f = refl
  step-same (Wake t) e f = refl
  step-same (Return t) e f = return-same t.0 (answer_in (call_at h t.0).status)
  step-same (Mark t) e f = refl
  step-same (Interrupted t) e f = interrupted-same t.0 (has_call h t.0)
  step-same (Wait t) e f = absurd (grind (arith, f))
  step-same (Script k) e f = refl
  step-same (End p) e f = absurd (grind (arith, f))

-- ---- all processes
-- what a process has once another one's step is put back, which makes no process of its number
own-kept : (m : Map Own) (p q : ℕ) (new : Own) (born : Option (ℕ × Own)) → (p == q) ≡ false → ((b : ℕ × Own) → born ≡ Some b → b.0 ≢ p) → at (with_born (put m q new) born) p ≡ at m p
own-kept m p q new None apart other = at-put m q new p ∙ ap (λ c. cond c (Some new) (at m p)) apart
own-kept m p q new (Some b) apart other =
    let far : (p == b.0) ≡ false = (let n : b.0 ≢ p = other b refl in grind (arith, nat_tests, n)) in
    at-put (put m q new) b.0 b.1 p ∙ ap (λ c. cond c (Some b.1) (at (put m q new) p)) far ∙ at-put m q new p ∙ ap (λ c. cond c (Some new) (at m p)) apart

own-new : (m : Map Own) (p : ℕ) (new : Own) (born : Option (ℕ × Own)) → born ≡ None → at (with_born (put m p new) born) p ≡ Some new
own-new m p new born none =
    let k : (p == p) ≡ true = grind (arith, nat_tests) in
    ap (λ b. at (with_born (put m p new) b) p) none ∙ at-put m p new p ∙ ap (λ c. cond c (Some new) (at m p)) k

module _ (p a : ℕ) (is : IsDoubleword a) (one : OneKernel) where
  -- a step of another process, which makes no process of this number
  others : (s : Step) → (p == process_of_step one.node s) ≡ false
      → ((b : ℕ × Own) → (after_here s (process_of_step one.node s) (one_here one (process_of_step one.node s))).born ≡ Some b → b.0 ≢ p) → Leaves p a one s
  others s apart other =
      let q = process_of_step one.node s in
      let h = after_here s q (one_here one q) in
      ap (λ o. doubleword (unwrap_or o no_own).memory a) (own-kept one.own p q h.own h.born apart other)

  -- its own step
  own-memory : (s : Step) → process_of_step one.node s ≡ p → (after_here s p (one_here one p)).born ≡ None → memory_of (after one s) p ≡ (after_here s p (one_here one p)).own.memory
  own-memory s own none =
      ap (λ (q : ℕ). memory_of (put_one_here one q (after_here s q (one_here one q))) p) own
      ∙ ap (λ o. (unwrap_or o no_own).memory) (own-new one.own p (after_here s p (one_here one p)).own (after_here s p (one_here one p)).born none)

  no-process : (o : Option (ℕ × Own)) → o ≡ None → (b : ℕ × Own) → o ≡ Some b → b.0 ≢ p
  no-process o e b f g = let k = sym e ∙ f in grind (arith, k)

  other-number : (one.node.next_number == p) ≡ false → (o : Option (ℕ × Own)) → BornNext one.node o → (b : ℕ × Own) → o ≡ Some b → b.0 ≢ p
  other-number next None k b e f = grind (arith, e)
  other-number next (Some c) k b e f = let g : c.0 ≡ b.0 = (let y : c ≡ b = cc in ap (λ (x : ℕ × Own). x.0) y) in grind (arith, nat_tests, next, k, g, f)

  same-number : (x y : ℕ) → (x == y) ≡ (y == x)
  same-number x y = go (x == y) (y == x) refl refl
    where
      go : (b c : Bool) → (x == y) ≡ b → (y == x) ≡ c → b ≡ c
      go true true e f = refl
      go false false e f = refl
      go true false e f = absurd (grind (arith, nat_tests, e, f))
      go false true e f = absurd (grind (arith, nat_tests, e, f))

  -- a step that is no instruction
  other-step : (s : Step) → is_instruction s ≡ false → (changes_memory s ≡ true → concerns p one s ≡ true → Leaves p a one s) → Leaves p a one s
  other-step s plain k = go (changes_memory s) refl (process_of_step one.node s == p) refl (one.node.next_number == p) refl
    where
      q : ℕ
      q = process_of_step one.node s

      go : (b : Bool) → changes_memory s ≡ b → (c : Bool) → (process_of_step one.node s == p) ≡ c → (d : Bool) → (one.node.next_number == p) ≡ d → Leaves p a one s
      go true e true f d g = k e (ap (λ c. c || (one.node.next_number == p)) f)
      go true e false f true g = k e (ap (λ c. c || (one.node.next_number == p)) f ∙ g)
      go true e false f false g = others s (same-number p q ∙ f) (other-number g (after_here s q (one_here one q)).born (step-born q (one_here one q) refl s))
      go false e true f d g =
          let own : process_of_step one.node s ≡ p = grind (arith, nat_tests, f) in
          ap (λ m. doubleword m a) (own-memory s own (step-none p (one_here one p) refl s e) ∙ step-same p (one_here one p) refl s plain e)
      go false e false f d g = others s (same-number p q ∙ f) (no-process (after_here s q (one_here one q)).born (step-none q (one_here one q) refl s e))

  -- an instruction
  instruction : AllFull one → (t : Tid) → StepOnlyAdds p a one (Instr t) → IsMore (doubleword (memory_of one p) a) (adds_in p a one (Instr t)) (doubleword (memory_of (after one (Instr t)) p) a)
  instruction all t k = go (of_thread one.node t.0 == p) refl
    where
      go : (b : Bool) → (of_thread one.node t.0 == p) ≡ b → IsMore (doubleword (memory_of one p) a) (cond b (added a (next_writes one t.0)) 0) (doubleword (memory_of (after one (Instr t)) p) a)
      go true e =
          let own : of_thread one.node t.0 ≡ p = grind (arith, nat_tests, e) in
          let x = instr-adds a is (memory_of one (of_thread one.node t.0)) (whole-pages (memory_of one (of_thread one.node t.0)) (here-full one all (of_thread one.node t.0)).0) (thread_of one.node t.0).regs (k own) in
          subst (λ q. IsMore (doubleword (memory_of one q) a) (added a (next_writes one t.0)) (doubleword (memory_of (after one (Instr t)) p) a)) own
          (subst (λ m. IsMore (doubleword (memory_of one (of_thread one.node t.0)) a) (added a (next_writes one t.0)) (doubleword m a)) (sym (left own)) x)
        where
          left : of_thread one.node t.0 ≡ p → memory_of (after one (Instr t)) p ≡ (instr (thread_of one.node t.0).regs (memory_of one (of_thread one.node t.0))).memory
          left own = own-memory (Instr t) own refl ∙ ap (λ q. (instr (thread_of one.node t.0).regs (memory_of one q)).memory) (sym own)
      go false e = more-none (doubleword (memory_of one p) a) (doubleword (memory_of (after one (Instr t)) p) a) (others (Instr t) (same-number p (of_thread one.node t.0) ∙ e) (no-process None refl))

  leaves-more : (s : Step) → Leaves p a one s → IsMore (doubleword (memory_of one p) a) 0 (doubleword (memory_of (after one s) p) a)
  leaves-more s e = more-none (doubleword (memory_of one p) a) (doubleword (memory_of (after one s) p) a) e

  pub step-adds : AllFull one → (s : Step) → StepOnlyAdds p a one s → IsMore (doubleword (memory_of one p) a) (adds_in p a one s) (doubleword (memory_of (after one s) p) a)
  step-adds all (Instr t) k = instruction all t k
  step-adds all (Trap t) k = leaves-more (Trap t) (other-step (Trap t) refl k)
  step-adds all (Deliver t) k = leaves-more (Deliver t) (other-step (Deliver t) refl k)
  step-adds all (VmFinish t) k = leaves-more (VmFinish t) (other-step (VmFinish t) refl k)
  step-adds all (Piece t) k = leaves-more (Piece t) (other-step (Piece t) refl k)
  step-adds all (PieceFault t) k = leaves-more (PieceFault t) (other-step (PieceFault t) refl k)
  step-adds all (FileStep t) k = leaves-more (FileStep t) (other-step (FileStep t) refl k)
  step-adds all (Block t) k = leaves-more (Block t) (other-step (Block t) refl k)
  step-adds all (Wake t) k = leaves-more (Wake t) (other-step (Wake t) refl k)
  step-adds all (Return t) k = leaves-more (Return t) (other-step (Return t) refl k)
  step-adds all (Mark t) k = leaves-more (Mark t) (other-step (Mark t) refl k)
  step-adds all (Interrupted t) k = leaves-more (Interrupted t) (other-step (Interrupted t) refl k)
  step-adds all (Wait t) k = leaves-more (Wait t) (other-step (Wait t) refl k)
  step-adds all (Script n) k = leaves-more (Script n) (other-step (Script n) refl k)
  step-adds all (End q) k = leaves-more (End q) (other-step (End q) refl k)

more-more : (x m y n z : ℕ) → IsMore x m y → IsMore y n z → IsMore x (m + n) z
more-more x m y n z e f = omega (arith, e, f)

pub steps-add : (p a : ℕ) → IsDoubleword a → (ss : List Step) (one : OneKernel) → AllFull one → OnlyAdds p a one ss → IsMore (doubleword (memory_of one p) a) (adds p a one ss) (doubleword (memory_of (after_all one ss) p) a)
steps-add p a is [] one all k = more-none (doubleword (memory_of one p) a) (doubleword (memory_of one p) a) refl
steps-add p a is (s ∷ ss) one all k =
    more-more (doubleword (memory_of one p) a) (adds_in p a one s) (doubleword (memory_of (after one s) p) a) (adds p a (after one s) ss) (doubleword (memory_of (after_all one (s ∷ ss)) p) a)
    (step-adds p a is one all s k.0) (steps-add p a is ss (after one s) (after-full one s all) k.1)
