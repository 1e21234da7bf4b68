-- Run in the whole state, for the simulation: as many steps of one process as it executes instructions.
use Rattle.kernel_model.specs.Steps as OneSteps
use Rattle.kernel_model.specs.declared.steps.Step.TheVariants as Steps
use Rattle.hybrid_model.specs.declared.events.Event.TheVariants as Events
use Rattle.hybrid_laws.proofs.maps.Tests.{both}
use Rattle.hybrid_laws.proofs.node.Threads.{counted-thread, thread-is}
use Rattle.hybrid_laws.proofs.run.Run.{may-run, ran_shown, simulated_run}
use Rattle.hybrid_laws.proofs.states.Pair.{has-side}
use Rattle.hybrid_laws.proofs.states.Quiet.{apart-own, other-shown}
use Rattle.hybrid_laws.proofs.states.Steps.{SimulatedPair, one-put, put-same}
use Rattle.hybrid_laws.specs.Simulated.{steps_after, steps_may}
use Rattle.hybrid_model.specs.Events.{after_here, may, may_here}
use Rattle.hybrid_model.specs.Globals.{Coherent}
use Rattle.hybrid_model.specs.Images.{image_here}
use Rattle.hybrid_model.specs.OneProcess.{memory_here}
use Rattle.hybrid_model.specs.Run.{length_of_run, ran, run}
use Rattle.hybrid_model.specs.Pairs.{Here, Pair, here}
use Rattle.hybrid_model.specs.Shown.{one, shown_call, shown_here}
use Rattle.isa_model.specs.Instr.{Outcome, instr}
use Rattle.kernel_model.specs.Nodes.{Thread, is_there, ready_to_run, thread_of}
use Rattle.kernel_model.specs.OneKernel.{Call as OneCall, OneHere, OneKernel, Own, no_own, one_here, put_one_here}
use Rattle.kernel_model.specs.Traps.{Ran, does_after, executed}
use Rattle.kernel_model.specs.declared.steps.Step.{Step}
use Rattle.mck_word.specs.MapLaws.{at-put, same_rows}
use Rattle.mck_word.specs.Maps.{Map, at, each, put}
use Rattle.mck_word.specs.declared.Tid.{Tid}
use Rattle.std.proofs.Common.{ap, arith, refl, sym, ◌∙◌}
use Rattle.std.proofs.lemmas.Bool.Decides.{nat_tests}
use Rattle.std.specs.Prelude.{Bool, List, None, Option, Some, [], cond, false, length, replicate, suc, true, unwrap_or, zero, ℕ, ◌&&◌, ◌==◌, ◌∷◌, ◌≡◌}

-- steps of process p, one after another, that make no process
abbrev pub AllOf : ℕ → List Step → OneHere → Type 0
AllOf p [] o = Unit {0}
AllOf p (s ∷ ss) o = (OneSteps.process_of_step o.node s ≡ p) × ((OneSteps.after_here s p o).born ≡ None) × AllOf p ss (OneSteps.after_here s p o)

-- the whole state with that process
abbrev pub put_one : OneKernel → ℕ → OneHere → OneKernel
put_one k p o = record { own = put k.own p o.own; node = o.node; free = o.free }

module _ (k : OneKernel) (p : ℕ) where
  here-put : (o : OneHere) → o.born ≡ None → one_here (put_one k p o) p ≡ o
  here-put o none =
      let a = at-put k.own p o.own p ∙ (let e : (p == p) ≡ true = grind (arith, nat_tests) in ap (λ b. cond b (Some o.own) (at k.own p)) e) in
      let b = sym none in
      λ i. record { own = unwrap_or (a i) no_own; node = o.node; free = o.free; born = b i }

  put-put : (o q : OneHere) → q.born ≡ None → put_one_here (put_one k p o) p q ≡ put_one k p q
  put-put o q none =
      let a = same_rows (put (put k.own p o.own) p q.own) (put k.own p q.own) (λ j. at-put (put k.own p o.own) p q.own j ∙ ap (cond (j == p) (Some q.own)) (at-put k.own p o.own j) ∙ twice (j == p) (at k.own j) ∙ sym (at-put k.own p q.own j)) in
      ap (λ (b : Option (ℕ × Own)). put_one_here (put_one k p o) p (record q { born = b })) none ∙ (λ i. record { own = a i; node = q.node; free = q.free })
    where
      twice : (b : Bool) (r : Option Own) → cond b (Some q.own) (cond b (Some o.own) r) ≡ cond b (Some q.own) r
      twice true r = refl
      twice false r = refl

  after-put : (o : OneHere) (s : Step) → o.born ≡ None → OneSteps.process_of_step o.node s ≡ p → (OneSteps.after_here s p o).born ≡ None → OneSteps.after (put_one k p o) s ≡ put_one k p (OneSteps.after_here s p o)
  after-put o s none own born =
      ap (λ (q : ℕ). put_one_here (put_one k p o) q (OneSteps.after_here s q (one_here (put_one k p o) q))) own
      ∙ ap (λ (x : OneHere). put_one_here (put_one k p o) p (OneSteps.after_here s p x)) (here-put o none)
      ∙ put-put o (OneSteps.after_here s p o) born

  may-put : (o : OneHere) (s : Step) → o.born ≡ None → OneSteps.process_of_step o.node s ≡ p → OneSteps.may (put_one k p o) s ≡ OneSteps.may_here s o
  may-put o s none own = ap (λ (q : ℕ). OneSteps.may_here s (one_here (put_one k p o) q)) own ∙ ap (OneSteps.may_here s) (here-put o none)

  pub all-after : (ss : List Step) (o : OneHere) → o.born ≡ None → AllOf p ss o → OneSteps.after_all (put_one k p o) ss ≡ put_one k p (steps_after p ss o)
  all-after [] o none h = refl
  all-after (s ∷ ss) o none h = ap (λ (x : OneKernel). OneSteps.after_all x ss) (after-put o s none h.0 h.1) ∙ all-after ss (OneSteps.after_here s p o) h.1 h.2

  pub all-may : (ss : List Step) (o : OneHere) → o.born ≡ None → AllOf p ss o → OneSteps.may_all (put_one k p o) ss ≡ steps_may p ss o
  all-may [] o none h = refl
  all-may (s ∷ ss) o none h =
      let a = may-put o s none h.0 in
      let b = ap (λ (x : OneKernel). OneSteps.may_all x ss) (after-put o s none h.0 h.1) ∙ all-may ss (OneSteps.after_here s p o) h.1 h.2 in
      λ i. a i && b i

-- the steps of a run are of its thread's process
run-all : (p : ℕ) (t : Tid) (calls : Map OneCall) (free : ℕ) (n : ℕ) (v : Ran) → (x : Thread) → at v.node.threads t.0 ≡ Some x → x.process ≡ p → AllOf p (replicate (length_of_run n t.0 v) (Steps.Instr t)) (ran_shown p t calls free None v)
run-all p t calls free zero v x there own = tt
run-all p t calls free (suc n) v x there own =
    (ap (λ (z : Thread). z.process) (thread-is v.node t.0 x there) ∙ own, refl, go (ready_to_run (thread_of w.node t.0).does) (run-all p t calls free n w (record x { regs = o.regs; does = does_after o.stop; back = false }) (counted-thread v.node t.0 o x there) own))
  where
    o : Outcome
    o = instr (thread_of v.node t.0).regs v.memory

    w : Ran
    w = executed t.0 v

    go : (b : Bool) → AllOf p (replicate (length_of_run n t.0 w) (Steps.Instr t)) (ran_shown p t calls free None w) → AllOf p (replicate (cond b (length_of_run n t.0 w) zero) (Steps.Instr t)) (ran_shown p t calls free None w)
    go true k = k
    go false k = tt

module _ (pair : Pair) (c : Coherent pair) (core n : ℕ) (t : Tid) (e : may pair (Events.Run core t n) ≡ true) where
  abbrev p : ℕ
  p = (thread_of pair.node t.0).process

  abbrev h : Here
  h = here pair p

  there : is_there pair.node p ≡ true
  there = (both (is_there pair.node p) (may_here (Events.Run core t n) h) e).0

  allowed : may_here (Events.Run core t n) h ≡ true
  allowed = (both (is_there pair.node p) (may_here (Events.Run core t n) h) e).1

  abbrev steps : List Step
  steps = image_here (Events.Run core t n) p h

  one-is : one pair ≡ put_one (one pair) p (shown_here h)
  one-is = sym (put-same pair p (has-side pair c.known p there))

  thread-there : (x : Thread) × (at pair.node.threads t.0 ≡ Some x) × (x.process ≡ p)
  thread-there =
      let w = (may-run core t.0 n h allowed).runs in
      (w.thread, w.there, sym (ap (λ (z : Thread). z.process) (thread-is pair.node t.0 w.thread w.there)))

  all : AllOf p steps (shown_here h)
  all = run-all p t (each (shown_call h.side) h.side.lwk.callers) (length h.free) n (record { node = pair.node; memory = memory_here h }) thread-there.0 thread-there.1 thread-there.2

  pub simulated_pair_run : SimulatedPair pair (Events.Run core t n)
  unfolding run
  simulated_pair_run =
      let s = simulated_run core n p t h allowed (apart-own pair c p) refl in
      record {
        may = ap (λ (x : OneKernel). OneSteps.may_all x steps) one-is ∙ all-may (one pair) p steps (shown_here h) refl all ∙ s.may_happen;
        leaves = ap (λ (x : OneKernel). OneSteps.after_all x steps) one-is ∙ all-after (one pair) p steps (shown_here h) refl all ∙ ap (put_one (one pair) p) s.leads
            ∙ sym (one-put pair p (has-side pair c.known p there) (after_here (Events.Run core t n) p h) refl (λ q x m f. other-shown pair c p (ran t.0 n h).memory q x m f));
      }
