-- What a run of a thread finds and leaves.
use Rattle.isa_model.specs.Instr.{Outcome}
use Rattle.kernel_model.specs.Nodes.{Thread, has_thread, no_thread, thread_of}
use Rattle.kernel_model.specs.OneKernel.{OneKernel}
use Rattle.kernel_model.specs.Steps.{may, may_all}
use Rattle.kernel_model.specs.Traps.{does_after}
use Rattle.kernel_model.specs.declared.steps.Step.TheVariants.{Instr}
use Rattle.kernel_tables.specs.Shown.{node_of}
use Rattle.kernel_tables.specs.Steps.{ran_over}
use Rattle.one_files.specs.Seen.{seen}
use Rattle.mck_word.specs.EachLaws.{at-each, each-put}
use Rattle.mck_word.specs.Maps.{at, each, put}
use Rattle.mck_word.specs.declared.Tid.{Tid}
use Rattle.one_kernel.proofs.After.{row-there}
use Rattle.one_kernel.proofs.Calling.{both}
use Rattle.one_kernel.proofs.Facts.{thread-own}
use Rattle.one_kernel.proofs.InstrRuns.{Runs, ran, runs-some}
use Rattle.one_kernel.specs.Parts.{one_of, shown_call, shown_own}
use Rattle.node_machine.specs.Reached.{IsShown}
use Rattle.one_kernel.specs.declared.parts.One.{One}
use Rattle.one_kernel.specs.declared.parts.Own.{Own}
use Rattle.std.proofs.Common.{ap, arith, refl, subst, sym, ◌∙◌}
use Rattle.std.specs.Prelude.{IsSome, None, Option, Some, is_some, option_map, replicate, suc, true, unwrap_or, zero, ℕ, ◌≡◌, ◌≤◌}

-- the first of some instructions may happen
pub first-may : (n : ℕ) (o : OneKernel) (t : Tid) → 1 ≤ n → may_all o (replicate n (Instr t)) ≡ true → may o (Instr t) ≡ true
first-may zero o t some e = absurd (omega (arith, some))
first-may (suc n) o t some e = (both _ _ e).0

module _ (x : One) (p n : ℕ) (t : Tid) (shown : IsShown (one_of x)) (process : (thread_of (one_of x).node t.0).process ≡ p) (some : 1 ≤ n) (may-it : may_all (one_of x) (replicate n (Instr t)) ≡ true) where
  has : has_thread (one_of x).node t.0 ≡ true
  has = (both _ _ (both _ _ (both _ _ (both _ _ (first-may n (one_of x) t some may-it)).0).0).0).0

  -- the process has a row
  pub has-own : IsSome (at x.own.map p)
  has-own = row-there x p (ap (λ q. is_some (at (one_of x).own q)) (sym process) ∙ thread-own (one_of x) shown t.0 has)

  thread-there : (y : Thread) × (at (one_of x).node.threads t.0 ≡ Some y)
  thread-there = go (at (one_of x).node.threads t.0) refl has
    where
      go : (o : Option Thread) → at (one_of x).node.threads t.0 ≡ o → is_some o ≡ true → (y : Thread) × (at (one_of x).node.threads t.0 ≡ Some y)
      go None is e = absurd (cc)
      go (Some y) is e = (y, is)

  is-thread : thread_of (one_of x).node t.0 ≡ thread-there.0
  is-thread = ap (λ o. unwrap_or o no_thread) thread-there.1

  row-shown : (w : Own) → at x.own.map p ≡ Some w → at (one_of x).own p ≡ Some (shown_own w)
  unfolding one_of
  row-shown w there = at-each shown_own x.own.map p ∙ ap (option_map shown_own) there

  -- and the run goes as far as it was asked to
  pub runs : (w : Own) → at x.own.map p ≡ Some w → Runs t p (one_of x) (thread_of (one_of x).node t.0) (shown_own w) n
  runs w there = subst (λ (y : Thread). Runs t p (one_of x) y (shown_own w) n) (sym is-thread)
      (runs-some t p n (one_of x) thread-there.0 (shown_own w) some thread-there.1 (ap (λ (y : Thread). y.process) (sym is-thread) ∙ process) (row-shown w there) may-it)

module _ (x y : One) (p n went : ℕ) (t : Tid) (w o : Own) (e : Outcome) where
  -- what it leaves
  pub leaves : node_of y.node (seen y.files) ≡ ran_over t.0 e.regs (does_after e.stop) went (node_of x.node (seen x.files)) → went ≡ n → o.memory.map ≡ e.memory → o.calls ≡ w.calls → y.own.map ≡ put x.own.map p o → y.free ≡ x.free
      → one_of y ≡ ran t p (one_of x) (shown_own w) e n
  unfolding one_of
  leaves node count memory calls puts free = λ i. record {
    node = (node ∙ ap (λ k. ran_over t.0 e.regs (does_after e.stop) k (one_of x).node) count) i;
    own = (ap (each shown_own) puts ∙ each-put shown_own x.own.map p o ∙ (λ j. put (one_of x).own p (record { memory = memory j; calls = each shown_call (calls j).map }))) i;
    free = free i;
  }
